use Rattle.book_tables.proofs.Common.{◌≡◌, rules, ap, sym, subst, state, ◌∙◌}
use Rattle.book_lists.specs.Callers.{circle_with}
use Rattle.book_lists.specs.declared.circles.Caller.TheVariants.{Known}
use Rattle.book_tables_rows.specs.Lists.{ShowsRows}
use Rattle.book_tables_rows.specs.Reach.{reached_of}
use Rattle.book_tables.specs.Reach.{AreGroupsTold, ShowsCircle}
use Rattle.book_tables.proofs.ReachedGroups.{circle_shown}
use Rattle.book_tables.proofs.reaching.circle_of.Goals as goal

pub returns-clause-shown : goal.returns-clause-shown
returns-clause-shown g c clean =
    let old = state g.S.Store c.args.transaction.now.conn.now in
    let person = c.args.person.now in
    let rows = c.in_ok-rows.rows.items in
    let groups = c.in_ok-groups.groups.items in
    let caller : c.args.caller.now ≡ Known person = c.requires in
    let named : c.text.result.now ≡ person = search rules in
    let shows : ShowsRows old (reached_of person) rows = subst (λ p. ShowsRows old (reached_of p) rows) named (c.in_ok-rows.ensures.shown clean) in
    let rows_are : c.deref.result.now ≡ rows = search rules in
    let told : AreGroupsTold rows groups = subst (λ r. AreGroupsTold r groups) rows_are c.in_ok-groups.ensures in
    let circle = c.in_ok-of.field-0 in
    let is : circle ≡ circle_with (Known person) groups = c.in_ok-of.ensures ∙ ap (λ k. circle_with k groups) caller in
    subst (λ k. ShowsCircle old k circle) (sym caller) (circle_shown old person rows groups circle shows told is)
