use Rattle.book_tables_rows.proofs.Common.{◌≡◌, rules, string_bytes, refl, [], ◌∷◌, ⊤, state, joined}
use Rattle.book_tables_rows.specs.Adopting as policy
use Rattle.book_tables_rows.specs.Parts.{turns}
use Rattle.book_tables_rows.proofs.InScript.{said_so}
use Rattle.book_tables_rows.proofs.Keeping.{on_ok}
use Rattle.book_tables_rows.proofs.adopting.write_group.Goals as goal

pub returns-clause-done : goal.returns-clause-done
returns-clause-done g c clean inside =
    let old = state g.S.Store c.args.transaction.now.conn.now in
    let new = state g.S.Store c.run_all.new.transaction.conn.now in
    let group : c.as_str-group.result.now ≡ string_bytes c.args.row.now.group = search rules in
    let members : c.deref.result.now ≡ c.args.row.now.members.items = search rules in
    on_ok c.run_all.result _ _ (λ w. said_so old old new _ (turns (λ _ _. ⊤) policy.write_group (joined c.args.row.now ∷ [])) (record { mode = refl; same = λ _. refl }) w
    (λ book fit. ((tt, (tt, tt)), (λ _. (tt, tt)), refl))) (rw (group, members) at (c.run_all.ensures.done clean inside))
