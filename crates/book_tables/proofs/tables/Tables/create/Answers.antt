use Rattle.book_tables.proofs.Common.{refl, ◌∙◌, state}
use Rattle.book_tables.proofs.FoundedRows.{stands_founded, still_unfounded, either_is_store}
use Rattle.book_tables.proofs.tables.Tables.create.Goals as goal

pub returns-in-Ok-clause-made : goal.returns-in-Ok-clause-made
returns-in-Ok-clause-made g c clean =
    stands_founded (state g.S.Store c.args.connection) (state g.S.Store c.create.new.connection) (g.met.S.Store.settled c.create.new.connection.store) (c.in-Ok.ensures.made clean)

pub returns-in-Err-clause-kept : goal.returns-in-Err-clause-kept
returns-in-Err-clause-kept g c clean =
    still_unfounded (state g.S.Store c.args.connection) (state g.S.Store c.create.new.connection) clean c.create.ensures.left (c.in-Err.ensures.kept clean)

pub returns-in-Err-clause-taken : goal.returns-in-Err-clause-taken
returns-in-Err-clause-taken g c occupied = c.open_fault_of.ensures.told ∙ either_is_store c.in-Err.error _ _ refl refl (c.in-Err.ensures.taken occupied)
