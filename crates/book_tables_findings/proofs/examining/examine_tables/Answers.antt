use Rattle.book_tables_findings.proofs.Common.{◌∙◌, true≢false, subst, sym, state}
use Rattle.book_tables_schema.specs.OtherReach.{IsBeside}
use Rattle.book_tables_schema.specs.declared.layout.Generation.TheVariants.{Second}
use Rattle.book_tables_opening.proofs.OpenedTables.{foreign_none}
use Rattle.book_tables_findings.proofs.examining.examine_tables.Goals as goal

pub examine_base-requires : goal.examine_base-requires
examine_base-requires g c = subst (IsBeside Second) c.schema-2.ensures.value (c.in_ok-is_beside_reach.ensures.0 c.if-branch.true)

pub returns-clause-told : goal.returns-clause-told
returns-clause-told g c clean rise =
    let old = state g.S.Store c.args.connection.now in
    let foreign : ¬ (IsBeside Second old.now.schema) = λ beside.
    true≢false (sym (c.in_ok-is_beside_reach.ensures.1 (subst (IsBeside Second) (sym c.schema-2.ensures.value) beside)) ∙ c.if-branch.false) in
    (foreign, foreign_none old.now foreign)
