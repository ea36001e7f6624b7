use Rattle.book_tables_rows.proofs.Common.{w64, ◌≡◌, arith, refl, sym, subst, Some, None, to_z_pos, to_z-of_z, option_copied, Null, Int, Text, state, Becomes}
use Rattle.book_tables_rows.specs.Writes as writes
use Rattle.book_tables_rows.proofs.Becoming.{becomes_inserted}
use Rattle.book_tables_rows.proofs.nodes.insert_node.Goals as goal

pub returns-clause-done : goal.returns-clause-done
returns-clause-done g c clean inside =
    let number = to_z_pos w64 c.args.number (omega (arith, c.requires)) in
    let parent = to_z-of_z w64 c.args.parent c.ranges.parent in
    let old = state g.S.Store c.args.transaction.now.conn.now in
    let new = state g.S.Store c.execute.new.self.conn.now in
    let path = c.args.path.now in
    let label = c.args.label.now in
    let runs = rw (c.params-to_sql.ensures, c.params-to_sql-2.ensures, c.params-to_sql-3.ensures, c.params-to_sql-4.ensures, c.params-to_sql-5.ensures, c.params-to_sql-6.ensures, c.params-to_sql-7.ensures, number, parent) at (c.in_ok-execute.ensures.runs clean inside) in
    elim c.args.owner as (λ w. c.args.owner ≡ w → Becomes old new (writes.insert_node path (Int c.args.parent) c.args.kind (option_copied c.args.owner) label (option_copied c.args.text) c.args.number)) [
      | None ↦ λ e. elim c.args.text as (λ v. c.args.text ≡ v → Becomes old new (writes.insert_node path (Int c.args.parent) c.args.kind (option_copied c.args.owner) label (option_copied c.args.text) c.args.number)) [
        | None ↦ λ d. subst (λ w. Becomes old new (writes.insert_node path (Int c.args.parent) c.args.kind (option_copied w) label (option_copied c.args.text) c.args.number)) (sym e)
            (subst (λ v. Becomes old new (writes.insert_node path (Int c.args.parent) c.args.kind None label (option_copied v) c.args.number)) (sym d)
            (becomes_inserted old new path label (Int c.args.parent) Null Null c.args.kind c.args.number refl refl refl c.in_ok-execute.field-0 (rw (e, d) at runs)))
        | Some t ↦ λ d. subst (λ w. Becomes old new (writes.insert_node path (Int c.args.parent) c.args.kind (option_copied w) label (option_copied c.args.text) c.args.number)) (sym e)
            (subst (λ v. Becomes old new (writes.insert_node path (Int c.args.parent) c.args.kind None label (option_copied v) c.args.number)) (sym d)
            (becomes_inserted old new path label (Int c.args.parent) Null (Text t.now) c.args.kind c.args.number refl refl refl c.in_ok-execute.field-0 (rw (e, d) at runs)))
      ] refl
      | Some o ↦ λ e. elim c.args.text as (λ v. c.args.text ≡ v → Becomes old new (writes.insert_node path (Int c.args.parent) c.args.kind (option_copied c.args.owner) label (option_copied c.args.text) c.args.number)) [
        | None ↦ λ d. subst (λ w. Becomes old new (writes.insert_node path (Int c.args.parent) c.args.kind (option_copied w) label (option_copied c.args.text) c.args.number)) (sym e)
            (subst (λ v. Becomes old new (writes.insert_node path (Int c.args.parent) c.args.kind (Some o.now) label (option_copied v) c.args.number)) (sym d)
            (becomes_inserted old new path label (Int c.args.parent) (Text o.now) Null c.args.kind c.args.number refl refl refl c.in_ok-execute.field-0 (rw (e, d) at runs)))
        | Some t ↦ λ d. subst (λ w. Becomes old new (writes.insert_node path (Int c.args.parent) c.args.kind (option_copied w) label (option_copied c.args.text) c.args.number)) (sym e)
            (subst (λ v. Becomes old new (writes.insert_node path (Int c.args.parent) c.args.kind (Some o.now) label (option_copied v) c.args.number)) (sym d)
            (becomes_inserted old new path label (Int c.args.parent) (Text o.now) (Text t.now) c.args.kind c.args.number refl refl refl c.in_ok-execute.field-0 (rw (e, d) at runs)))
      ] refl
    ] refl
