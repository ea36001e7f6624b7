-- The entries of a map of the names that texts say, as the cards that are told.
use Rattle.book_office_members.proofs.Common.{◌≡◌, ℕ, List, [], ◌∷◌, map, Option, refl, sym, ap, ◌∙◌, subst, NamesTo}
use Rattle.std.proofs.Common.{T, option_map}
use Rattle.std.specs.FinMap.{get, entries, entries_sorted, find, is_sorted, get-entries}
use Rattle.book_rights.specs.declared.privileges.Leaf.TheVariants.{ReadNames}
use Rattle.book_lists.specs.Circles.{CircleOf}
use Rattle.book_lists.specs.Names.{name_cmp}
use Rattle.book_office_values.specs.declared.offices.Office.{Office}
use Rattle.book_office_sync.specs.Granted.{text_at}
use Rattle.book_office_members.specs.Names.{AreNamesAt, name_told, named_card, pair_of}
use Rattle.book_office_members.specs.declared.names.NamedCard.{NamedCard}

-- a card that is told has the name and the formatted name of its entry
same_pairs : (es : List (List ℕ × Option (List ℕ))) → map pair_of (map named_card es) ≡ es
same_pairs [] = refl
same_pairs (e ∷ es) = ap (λ rest. e ∷ rest) (same_pairs es)

pub names_of_entries : (o : Office) (circle : CircleOf) (b : List ℕ) (said : NamesTo (Option (List ℕ))) (names : List NamedCard)
    → ((c : List ℕ) → get said c ≡ option_map name_told (text_at o circle b ReadNames c)) → names ≡ map named_card (entries said) → AreNamesAt o circle b names
names_of_entries o circle b said names told are =
    let pairs : map pair_of names ≡ entries said = ap (map pair_of) are ∙ same_pairs (entries said) in
    record {
      in_order = subst (λ (ps : List (List ℕ × Option (List ℕ))). T (is_sorted name_cmp ps)) (sym pairs) (entries_sorted said);
      told = λ c. ap (find name_cmp c) pairs ∙ sym (get-entries said c) ∙ told c;
    }
