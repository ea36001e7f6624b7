-- Reads in turn, and maps that are made name by name.
use Rattle.std.proofs.Common.{◌≡◌, ℕ, List, [], ◌∷◌, ◌++◌, map, Result, Ok, Err, refl, sym, ap, ◌∙◌, subst}
use Rattle.std.proofs.lemmas.List.{map-append}
use Rattle.std.specs.FinMap.{insert}
use Rattle.std.specs.Result.{IsErrAnd}
use Rattle.book_office_audit.proofs.ReadsInTurn.{reads_failed}
use Rattle.book_office.specs.Keeping.{Reads, Standing}
use Rattle.book_office.specs.declared.keepers.StoreFault.{StoreFault}
use Rattle.book_office.specs.declared.nodes.Changed.{Changed}
use Rattle.book_office_copies.specs.Copies.{lasts_in}
use Rattle.book_office_values.specs.Names.{NamesTo}
use Rattle.book_office_values.specs.declared.offices.Office.{Office}

-- a list that is made item by item
pub map_more : {A B : Type 0} (f : A → B) (xs all : List A) (ys : List B) (x : A) (y : B)
    → all ≡ xs ++ x ∷ [] → ys ≡ map f xs → y ≡ f x → ys ++ y ∷ [] ≡ map f all
map_more f xs all ys x y more is made =
    ap (λ l. l ++ y ∷ []) is ∙ ap (λ z. map f xs ++ z ∷ []) made ∙ sym (map-append f xs (x ∷ [])) ∙ ap (map f) (sym more)

-- a read that failed, passed on after one that answered
pub reads_given : {A B C : Type 0} (old mid new : Standing) (x : A) (f : StoreFault) (r : Result C StoreFault) (T : Office → A → Type 0) (U : Office → B → Type 0) (V : Office → C → Type 0)
    → IsErrAnd r (λ e. e ≡ f) → Reads old mid (Ok x) T → Reads {A = B} mid new (Err f) U → Reads old new r V
reads_given old mid new x f (Ok y) T U V is first second = absurd is
reads_given {A} {B} {C} old mid new x f (Err e) T U V is first second =
    subst (λ g. Reads {A = C} old new (Err g) V) (sym is) (reads_failed {A = A} {B = B} {C = C} old mid new x f T U V first second)

-- one last change more
pub lasts_push : (last : NamesTo ℕ) (cs : List Changed) (c : Changed) → lasts_in last (cs ++ c ∷ []) ≡ insert (lasts_in last cs) c.name c.number
lasts_push last [] c = refl
lasts_push last (d ∷ cs) c = lasts_push (insert last d.name d.number) cs c
