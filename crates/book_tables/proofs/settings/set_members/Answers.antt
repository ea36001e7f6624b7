use Rattle.book_tables.proofs.Common.{rules, ◌≡◌, subst, List, ℕ, map, string_bytes, IsTrue, state, State, HasCleanDisk, Office, Inside, ReadsInside, Ok, Makes, inside_of}
use Rattle.std.specs.Prelude.{OnOk}
use Rattle.book_office.specs.Edits.{members_set}
use Rattle.book_office.specs.declared.edits.Edit.TheVariants.{SetMembers}
use Rattle.book_tables_rows.specs.Nodes.{setting_members}
use Rattle.book_tables_rows.specs.Reach.{pair_said}
use Rattle.book_tables_rows.specs.Writes.{Pair}
use Rattle.book_tables.specs.Reach.{Renews}
use Rattle.book_tables.specs.declared.renewals.Renewal.{Renewal}
use Rattle.book_tables.proofs.JoinedMembers.{joins_members}
use Rattle.book_tables.proofs.ReadActing.{read_then_edited, read_fails_edit}
use Rattle.book_tables.proofs.settings.set_members.Goals as goal

abbrev Renewed : List ℕ → List (List ℕ) → Office → Renewal → Type 0
Renewed group members o r = Renews o.pairs (members_set o.pairs group members) (map pair_said r.gone.items) (map pair_said r.come.items)

pub returns-in_err-renewal-clause-edits : goal.returns-in_err-renewal-clause-edits
returns-in_err-renewal-clause-edits g c =
    let old : Inside = inside_of (state g.S.Store c.args.transaction.now.conn.now) c.args.failures.now in
    let mid : Inside = inside_of (state g.S.Store c.renewal_in.new.transaction.conn.now) c.renewal_in.new.failures in
    read_fails_edit old mid c.in_err-renewal.field-0.0 c.from_residual-in_err-renewal.result (SetMembers c.args.group.now c.args.members.now) (Renewed c.args.group.now c.as_slice-2.result.now) c.from_residual-in_err-renewal.ensures.1 c.in_err-renewal.ensures.reads

pub returns-clause-edits : goal.returns-clause-edits
returns-clause-edits g c =
    let old : Inside = inside_of (state g.S.Store c.args.transaction.now.conn.now) c.args.failures.now in
    let mid : Inside = inside_of (state g.S.Store c.renewal_in.new.transaction.conn.now) c.renewal_in.new.failures in
    let new : State = state g.S.Store c.write_members.new.transaction.conn.now in
    let group = c.args.group.now in
    let members = c.args.members.now in
    let r = c.in_ok-renewal.renewal in
    let gone : List Pair = map pair_said r.gone.items in
    let come : List Pair = map pair_said r.come.items in
    let members_are : c.as_slice-2.result.now ≡ members = search rules in
    let paths_are : map string_bytes c.as_slice-3.result.now ≡ members = search rules in
    let read : ReadsInside {A = Renewal} old mid (Ok r) (Renewed group members) = subst (λ ms. ReadsInside {A = Renewal} old mid (Ok r) (Renewed group ms)) members_are c.in_ok-renewal.ensures.reads in
    let change = setting_members group members gone come in
    read_then_edited (SetMembers group members) old mid r (Renewed group members) read new c.write_members.ensures.survives c.write_members.ensures.kept
    change (λ o. Renews o.pairs (members_set o.pairs group members) gone come) (joins_members group members gone come) (λ o renews. renews)
    c.write_members.new.failures c.write_members.result c.write_members.ensures.counted
    (subst (λ ps. HasCleanDisk new → IsTrue mid.state.in_transaction → OnOk c.write_members.result (Makes mid.state new (setting_members group ps gone come))) paths_are c.write_members.ensures.done)
