use Rattle.book_desk_keeping.proofs.Common.{◌∙◌}
use Rattle.book_desk_keeping.proofs.SameOffices.{both_told}
use Rattle.book_desk_keeping.proofs.comparisons.are_same.Goals as goal

pub returns-clause-told : goal.returns-clause-told
returns-clause-told g c =
    both_told (g.K.Keeper.standing c.args.first.now) (g.K.Keeper.standing c.office_text.new.keeper)
    (g.L.Keeper.standing c.args.other.now) (g.L.Keeper.standing c.is_dump.new.keeper) c.as_slice.result.now c.is_dump.result c.dumps_are_exact.ensures
    (λ honest o stands. c.as_slice.ensures.value ∙ c.in_ok-text.ensures.value honest o stands)
    c.is_dump.ensures
