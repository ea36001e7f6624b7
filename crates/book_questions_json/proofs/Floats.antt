-- No object of a fact has a fraction.
use Rattle.book_questions_json.proofs.Common.{◌≡◌, ◌∷◌, ◌||◌, [], ℕ, false, List, Option, Some, None, map, refl, Denial, Decided, Fact, LeafFact, Privilege, Standing, holder, need, short_list, verdict}
use Rattle.serde_json.specs.Data.{string}
use Rattle.serde_json.specs.View.{items_of}
use Rattle.serde_json.specs.Written.{has_float, items_have_float}
use Rattle.book_office_listings.specs.declared.messages.DecidingEntry.{DecidingEntry}
use Rattle.book_questions_json.specs.Held.{Held, count_data, held_data}
use Rattle.book_questions_json.specs.Objects.{data_of, decided_data, denial_data, entry_data, leaf_data, name_data, number_data}

strings : (xs : List (List ℕ)) → items_have_float (items_of (map string xs)) ≡ false
strings [] = refl
strings (x ∷ xs) = strings xs

names : (ps : List Privilege) → items_have_float (items_of (map name_data ps)) ≡ false
names [] = refl
names (p ∷ ps) = names ps

entry : (n : ℕ) (s : Option Standing) → has_float (entry_data n s) ≡ false
entry n None = refl
entry n (Some s) = λ i. strings s.by i || (names (short_list s.entry.entry.set) i || false)

decided : (d : Option Decided) → has_float (decided_data d) ≡ false
decided None = refl
decided (Some d) = entry d.number d.standing

leaf : (fact : LeafFact) → has_float (leaf_data fact) ≡ false
leaf fact = λ i. decided fact.decided i || false

leaves : (facts : List LeafFact) → items_have_float (items_of (map leaf_data facts)) ≡ false
leaves [] = refl
leaves (fact ∷ facts) = λ i. leaf fact i || leaves facts i

number : (e : Option DecidingEntry) → has_float (number_data e) ≡ false
number None = refl
number (Some e) = refl

denial : (d : Option Denial) → has_float (denial_data d) ≡ false
denial None = refl
denial (Some d) = λ i. number d.entry i || false

pub no_float : (fact : Fact) → has_float (data_of fact) ≡ false
no_float (verdict d) = λ i. denial d i || false
no_float (need fact) = λ i. leaves fact.leaves i || (names (short_list fact.set) i || false)
no_float (holder fact) = λ i. leaves fact.leaves i || false

count : (n : Option ℕ) → has_float (count_data n) ≡ false
count None = refl
count (Some n) = refl

pub held_no_float : (held : Held) → has_float (held_data held) ≡ false
held_no_float held = λ i. count held.cards i || (names (short_list held.set) i || false)
