-- Faults that are added in turn.
use Rattle.std.proofs.Common.{◌≡◌, ◌<◌, ◌+◌, ℕ, suc, List, [], ◌∷◌, ◌++◌, length, drop, get_or, refl, sym, ap, ap₂, ◌∙◌, arith}
use Rattle.std.proofs.Math.Seq.{drop-cons}
use Rattle.toml.specs.View.{items_view, view}
use Rattle.toml.specs.declared.value.Value.{Value}
use Rattle.book_policy_faults.specs.Placing.{noted, pushed}
use Rattle.book_policy_faults.specs.Tables.{rows_faults, table_faults}
use Rattle.book_policy_faults.specs.declared.places.PlacedFault.{PlacedFault}
use Rattle.book_policy_faults.specs.declared.places.PlacedFaults.{PlacedFaults}
use Rattle.book_policy_faults.specs.declared.places.TableKind.{TableKind}
use Rattle.book_policy_faults.specs.declared.tables.Named.{Named}

pub noted_append : (s : PlacedFaults) (fs gs : List PlacedFault) → noted s (fs ++ gs) ≡ noted (noted s fs) gs
noted_append s [] gs = refl
noted_append s (f ∷ fs) gs = noted_append (pushed s f) fs gs

-- the faults of one table more
pub rows_more : (named : Named) (kind : TableKind) (s t : PlacedFaults) (n m i : ℕ) (vs : List Value) (v : Value)
    → i < length vs → v ≡ get_or vs i v → t ≡ noted s (table_faults named kind n (view v)) → m ≡ n + 1
    → noted t (rows_faults named kind m (items_view (drop (i + 1) vs))) ≡ noted s (rows_faults named kind n (items_view (drop i vs)))
rows_more named kind s t n m i vs v within is told more =
    let one : suc i ≡ i + 1 = omega arith in
    let cut : drop i vs ≡ v ∷ drop (i + 1) vs = drop-cons vs i v within ∙ ap₂ (λ (x : Value) (k : ℕ). x ∷ drop k vs) (sym is) one in
    ap₂ (λ (u : PlacedFaults) (k : ℕ). noted u (rows_faults named kind k (items_view (drop (i + 1) vs)))) told more
    ∙ sym (noted_append s (table_faults named kind n (view v)) (rows_faults named kind (n + 1) (items_view (drop (i + 1) vs))))
    ∙ ap (λ (xs : List Value). noted s (rows_faults named kind n (items_view xs))) (sym cut)
