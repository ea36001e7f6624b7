-- A map, of its listing.
use Rattle.book_tables.proofs.Common.{◌≡◌, ℕ, List, [], ◌∷◌, map, Option, Some, None, option_map, refl, sym, ap, ◌∙◌, nat_list_cmp_total, get, empty, entries, get-empty, name_cmp, Book, Properties, Kind, NamesTo, names_apart, added, bare_books, Listed, Resource, listed_principals, place_told, book_told}
use Rattle.std.specs.FinMap.{same_map}
use Rattle.book_office_adopting.specs.TakingOver.{all_inserted}
use Rattle.book_office_adopting.proofs.Merges.{made_of, get_mapped}
use Rattle.book_office_adopting.proofs.TakenOver.{get_placed}
use Rattle.book_office.specs.Resources.{as_listed, listed_books}

module _ {X V : Type 0} (read : X → Resource) (tell : Listed → List ℕ × V) (named : (l : Listed) → (tell l).0 ≡ l.name) where
  added_placed : (m : NamesTo V) (es : List (List ℕ × X)) → added m (map tell (map (λ e. as_listed e.0 (read e.1)) es)) ≡ all_inserted (λ n x. (tell (as_listed n (read x))).1) m es
  added_placed m [] = refl
  added_placed m (e ∷ es) =
      ap (λ n. added (Rattle.std.specs.FinMap.insert m n (tell (as_listed e.0 (read e.1))).1) (map tell (map (λ e. as_listed e.0 (read e.1)) es))) (named (as_listed e.0 (read e.1)))
      ∙ added_placed (Rattle.std.specs.FinMap.insert m e.0 (tell (as_listed e.0 (read e.1))).1) es

  -- what stands at a name of the map that a listing gives
  pub get_told : (there : NamesTo X) (q : List ℕ) → get (added empty (map tell (map (λ e. as_listed e.0 (read e.1)) (entries there)))) q
      ≡ option_map (λ x. (tell (as_listed q (read x))).1) (get there q)
  get_told there q =
      ap (λ m. get m q) (added_placed empty (entries there)) ∙ get_placed _ empty there q
      ∙ ap (made_of _ (get there q)) (get-empty name_cmp q) ∙ go (get there q)
    where
      go : (r : Option X) → made_of (λ x _. (tell (as_listed q (read x))).1) r None ≡ option_map (λ x. (tell (as_listed q (read x))).1) r
      go None = refl
      go (Some x) = refl

none_changed : {V : Type 0} (r : Option V) → option_map (λ v. v) r ≡ r
none_changed None = refl
none_changed (Some v) = refl

pub principals_told : (kind : Kind) (there : NamesTo Properties) → added empty (map place_told (listed_principals kind (entries there))) ≡ there
principals_told kind there = same_map nat_list_cmp_total names_apart _ _ (λ q.
    get_told (Rattle.book_office.specs.Resources.properties_resource kind 0) place_told (λ l. refl) there q ∙ none_changed (get there q))

pub books_told : (there : NamesTo Book) → added empty (map book_told (listed_books (entries there))) ≡ bare_books there
books_told there = same_map nat_list_cmp_total names_apart _ _ (λ q.
    get_told Rattle.book_office.specs.Resources.book_resource book_told (λ l. refl) there q ∙ sym (get_mapped _ there q))
