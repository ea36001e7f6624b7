-- The empty copy, patched with all pages of a view, is the view.
use Rattle.book_office_sync.proofs.Common.{◌≡◌, ℕ, List, [], ◌∷◌, ◌++◌, Option, Some, None, refl, sym, ap, ◌∙◌, option_and_then, option_map, unwrap_or, map, get, CircleOf, NamesTo, Seen, Book, Office, Item, changes_after, item_of, patch}
use Rattle.std.specs.FinMap.{empty, get-empty}
use Rattle.book_lists.specs.Names.{name_cmp}
use Rattle.book_office.specs.Sound.{IsSound}
use Rattle.book_office_sync.specs.Copies.{listed_changes, patched, seen_in, IsView}
use Rattle.book_office_sync.specs.Views.{viewed}
use Rattle.book_office_sync.proofs.ReportLaws.{begins}

pub patched_parts : (copy : NamesTo Seen) (xs ys : List Item) → patch copy (xs ++ ys) ≡ patch (patch copy xs) ys
patched_parts copy [] ys = refl
patched_parts copy (x ∷ xs) ys = patched_parts (patched copy x x.found) xs ys

pub view_copied : (o : Office) (circle : CircleOf) (b : List ℕ) → IsSound o → IsView (patch empty (viewed o circle b 0)) o circle b
view_copied o circle b sound = at_book (get o.books b) refl
  where
    told : Option Book → List Item
    told found = unwrap_or (option_map (λ (x : Book). map (item_of o circle b) (listed_changes o circle b None (changes_after x.changes.last 0))) found) []

    at_book : (found : Option Book) → get o.books b ≡ found → IsView (patch empty (viewed o circle b 0)) o circle b
    at_book None at = λ c. ap (λ found. get (patch empty (told found)) c) at ∙ get-empty name_cmp c ∙ sym (ap (option_and_then (seen_in o circle b c)) at)
    at_book (Some x) at = λ c. ap (λ found. get (patch empty (told found)) c) at ∙ (begins o circle b x None at (sound.books b x at).1).1 refl c
