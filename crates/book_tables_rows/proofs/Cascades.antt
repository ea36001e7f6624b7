-- A delete whose rows have no children is its one step, whatever its foreign keys would do.
use Rattle.book_tables_rows.proofs.Common.{◌≡◌, inl, inr, ℕ, ℤ, suc, nat_lt, Bool, true, false, List, [], ◌∷◌, ◌++◌, Some, Ok, Err, Result, refl, sym, subst, ◌∙◌, true≢false, AllByRecursion, list_any, Row, Trees, Schema, Edit, Applies, Has, works}
use Rattle.std.proofs.Common.{zero, MatchBool}
use Rattle.sqlite.specs.Edit.{taken_by}
use Rattle.sqlite_schema.specs.declared.schema.Keys.{Keys}
use Rattle.sqlite_rules.specs.declared.error.Refusal.TheVariants.{TooDeep}
use Rattle.sqlite_rules.specs.Action.{Work, is_child_of, AreChildren, End, Acts, ActsOn, Leads, Writes, max_depth}

-- no row of the table refers to what was taken out
abbrev pub IsIdle : Trees → Work → Type 0
IsIdle db w = (r : Row) → Has (db w.child.tree) r → list_any (is_child_of w r) w.moves ≡ false

no_children : (db : Trees) (w : Work) (ids : List ℤ) → IsIdle db w → AreChildren db w ids → ids ≡ []
no_children db w [] idle h = refl
no_children db w (id ∷ ids) idle h = let one = h.sound id (inl refl) in absurd (true≢false (sym one.2 ∙ idle one.0 one.1))

idle_front : (db : Trees) (below : List Work) (w : Work) → AllByRecursion (IsIdle db) (below ++ w ∷ []) → AllByRecursion (IsIdle db) below × IsIdle db w
idle_front db [] w h = (tt, h.0)
idle_front db (x ∷ below) w h = let rest = idle_front db below w h.1 in ((h.0, rest.0), rest.1)

same_end : {A B : Type 0} {a b : A} → ◌≡◌ {A = Result A B} (Ok a) (Ok b) → a ≡ b
same_end e = cc

module _ (schema : Schema) (keys : Keys) where
  acts_idle : (Then : Trees → List Work → End → Type 0) (db next : Trees) (w : Work) (below : List Work) → IsIdle db w → Acts schema keys Then db w below (Ok next) → Then db below (Ok next)
  acts_idle Then db next w below idle h = go (nat_lt w.depth max_depth) h
    where
      go : (b : Bool) → MatchBool b ((ids : List ℤ) × AreChildren db w ids × ActsOn schema keys Then db w below (Ok next) ids) (◌≡◌ {A = End} (Ok next) (Err (Some TooDeep))) → Then db below (Ok next)
      go true (ids, are, acts) = subst (ActsOn schema keys Then db w below (Ok next)) (no_children db w ids idle are) acts
      go false e = absurd (cc)

  leads_nowhere : (n : ℕ) (db next : Trees) (stack : List Work) → AllByRecursion (IsIdle db) stack → Leads schema keys n db stack (Ok next) → db ≡ next
  leads_nowhere zero db next stack idle h = sym (same_end h.1)
  leads_nowhere (suc n) db next stack idle h =
      let parts = idle_front db h.0 h.1 (subst (AllByRecursion (IsIdle db)) h.2 idle) in
      leads_nowhere n db next h.0 parts.0 (acts_idle (Leads schema keys n) db next h.1 h.0 parts.1 h.3)

  pub one_step_idle : (db next : Trees) (edit : Edit) → ((mid : Trees) → Applies schema keys db edit mid → AllByRecursion (IsIdle mid) (works schema keys 0 edit.table.tree (taken_by db edit) edit.news))
      → Writes schema keys db edit (Ok next) → Applies schema keys db edit next
  one_step_idle db next edit idle (inl refused) = absurd (let e = refused.2 in cc)
  one_step_idle db next edit idle (inr (inl big)) = absurd (let e = big.3 in cc)
  one_step_idle db next edit idle (inr (inr went)) =
      subst (Applies schema keys db edit) (leads_nowhere went.2.0 went.0 next _ (idle went.0 went.1) went.2.1) went.1
