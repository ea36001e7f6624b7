use Rattle.book_tables_rows.proofs.Common.{◌≡◌, ◌∙◌, ◌+◌, Result, ℕ, drop, length, map, string_bytes, w64, rules, ap, sym, subst, FitsSigned, Int, to_z-of_z, state, State}
use Rattle.std.proofs.Common.{OnOk, ◌<◌}
use Rattle.sqlite.specs.declared.error.Error.{Error}
use Rattle.book_tables_rows.specs.Items.{item_count, pieces}
use Rattle.book_tables_rows.specs.Lists.{listed_node}
use Rattle.book_tables_rows.specs.Plans.{Awaits}
use Rattle.book_tables_rows.specs.Reach.{pair_said}
use Rattle.book_tables_rows.specs.Scripts.{Executed}
use Rattle.book_tables_rows.specs.Writes as writes
use Rattle.book_tables_rows.specs.declared.items.Items.{Items}
use Rattle.book_tables_rows.specs.declared.items.Items.TheVariants.{Members, OldPairs, NewPairs, EntriesOf}
use Rattle.book_tables_rows.proofs.InScript.{next_item, one_item}
use Rattle.book_tables_rows.proofs.Keeping.{on_ok}
use Rattle.book_tables_rows.proofs.Reaching.{becomes_reached, becomes_unreached}
use Rattle.book_tables_rows.proofs.RowInserts.{becomes_joined}
use Rattle.book_tables_rows.proofs.items.write_at.Goals as goal

-- what the call did is what is written of the item
moved : {P : Type 0} (old new : State) (r : Result (Unit {0}) Error) (t s : Items) (place : ℕ) → t ≡ s → OnOk r P → (P → Awaits old new (pieces s (place + 1)) (pieces s place)) → OnOk r (Awaits old new (pieces t (place + 1)) (pieces t place))
moved {P} old new r t s place is h means =
    on_ok r P (Awaits old new (pieces t (place + 1)) (pieces t place)) (λ p. subst (λ (x : Items). Awaits old new (pieces x (place + 1)) (pieces x place)) (sym is) (means p)) h

pub returns-in-Entries-clause-done : goal.returns-in-Entries-clause-done
returns-in-Entries-clause-done g c clean inside =
    let v = c.in-Entries in
    let range : FitsSigned w64 v.node = search rules in
    let id = to_z-of_z w64 v.node range in
    moved (state g.S.Store c.args.transaction.now.conn.now) (state g.S.Store c.write_entry.new.transaction.conn.now) c.write_entry.result _ _ c.args.place v.is (rw id at (c.write_entry.ensures.done clean inside)) (λ goes. goes)

pub returns-in-Members-clause-done : goal.returns-in-Members-clause-done
returns-in-Members-clause-done g c clean inside =
    let old = state g.S.Store c.args.transaction.now.conn.now in
    let new = state g.S.Store c.execute.new.transaction.conn.now in
    let v = c.in-Members in
    let place = c.args.place in
    let item = c.item_at.result.now in
    let within : place < length v.members.now = subst (λ (x : Items). place < item_count x) v.is c.requires in
    let more = next_item v.members.now place item within (search rules) in
    let text : c.as_str.result.now ≡ string_bytes item = search rules in
    moved old new c.execute.result _ _ place v.is (rw (c.params-to_sql.ensures, c.params-to_sql-in-Members.ensures, text) at (c.execute.ensures.done clean inside))
    (λ (e : Executed _ _ old new). one_item old new (Members v.group v.members) place _ (becomes_joined old new v.group.now (string_bytes item) e.count e.ran) (λ rows. ap (λ xs. writes.insert_members v.group.now (map string_bytes xs) rows) more))

pub returns-in-OldPairs-clause-done : goal.returns-in-OldPairs-clause-done
returns-in-OldPairs-clause-done g c clean inside =
    let old = state g.S.Store c.args.transaction.now.conn.now in
    let new = state g.S.Store c.execute-in-OldPairs.new.transaction.conn.now in
    let v = c.in-OldPairs in
    let place = c.args.place in
    let item = c.item_at-pair.result.now in
    let within : place < length v.pairs.now = subst (λ (x : Items). place < item_count x) v.is c.requires in
    let more = next_item v.pairs.now place item within (search rules) in
    let group : c.as_str-in-OldPairs.result.now ≡ string_bytes item.group = search rules in
    let member : c.as_str-in-OldPairs-2.result.now ≡ string_bytes item.member = search rules in
    moved old new c.execute-in-OldPairs.result _ _ place v.is (rw (c.params-to_sql-in-OldPairs.ensures, c.params-to_sql-in-OldPairs-2.ensures, group, member) at (c.execute-in-OldPairs.ensures.done clean inside))
    (λ (e : Executed _ _ old new). one_item old new (OldPairs v.pairs) place _ (becomes_unreached old new (string_bytes item.group) (string_bytes item.member) e.count e.ran) (λ rows. ap (λ xs. writes.delete_pairs (map pair_said xs) rows) more))

pub returns-in-NewPairs-clause-done : goal.returns-in-NewPairs-clause-done
returns-in-NewPairs-clause-done g c clean inside =
    let old = state g.S.Store c.args.transaction.now.conn.now in
    let new = state g.S.Store c.execute-in-NewPairs.new.transaction.conn.now in
    let v = c.in-NewPairs in
    let place = c.args.place in
    let item = c.item_at-pair-in-NewPairs.result.now in
    let within : place < length v.pairs.now = subst (λ (x : Items). place < item_count x) v.is c.requires in
    let more = next_item v.pairs.now place item within (search rules) in
    let group : c.as_str-in-NewPairs.result.now ≡ string_bytes item.group = search rules in
    let member : c.as_str-in-NewPairs-2.result.now ≡ string_bytes item.member = search rules in
    moved old new c.execute-in-NewPairs.result _ _ place v.is (rw (c.params-to_sql-in-NewPairs.ensures, c.params-to_sql-in-NewPairs-2.ensures, group, member) at (c.execute-in-NewPairs.ensures.done clean inside))
    (λ (e : Executed _ _ old new). one_item old new (NewPairs v.pairs) place _ (becomes_reached old new (string_bytes item.group) (string_bytes item.member) e.count e.ran) (λ rows. ap (λ xs. writes.insert_pairs (map pair_said xs) rows) more))

pub returns-in_ok-node-in-EntriesOf-clause-done : goal.returns-in_ok-node-in-EntriesOf-clause-done
returns-in_ok-node-in-EntriesOf-clause-done g c clean inside =
    let old = state g.S.Store c.args.transaction.now.conn.now in
    let new = state g.S.Store c.delete_entries.new.transaction.conn.now in
    let v = c.in-EntriesOf in
    let place = c.args.place in
    let item = c.item_at-in-EntriesOf.result.now in
    let within : place < length v.rows.now = subst (λ (x : Items). place < item_count x) v.is c.requires in
    let more = next_item v.rows.now place item within (search rules) in
    let node = c.in_ok-node-in-EntriesOf.node in
    let range : FitsSigned w64 node = search rules in
    let id = to_z-of_z w64 node range in
    let told : listed_node item ≡ Int node = search rules in
    moved old new c.delete_entries.result _ _ place v.is (rw id at (c.delete_entries.ensures.done clean inside))
    (λ e. one_item old new (EntriesOf v.rows) place (writes.delete_entries (Int node)) e
    (λ rows. ap (λ xs. writes.delete_entries_of (map listed_node xs) rows) more ∙ ap (λ k. writes.delete_entries_of (map listed_node (drop (place + 1) v.rows.now)) (writes.delete_entries k rows)) told))

pub returns-in_ok-node-in-EntriesOf-clause-open : goal.returns-in_ok-node-in-EntriesOf-clause-open
returns-in_ok-node-in-EntriesOf-clause-open g c clean inside = on_ok c.delete_entries.result _ _ (λ b was. b.is_open) (c.delete_entries.ensures.done clean inside)
