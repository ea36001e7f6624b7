use Rattle.book_desk_loop.proofs.Drops.{drops_then}
use Rattle.book_desk_loop.proofs.closing.drop_all.Goals as goal

pub returns-in-Nothing : goal.returns-in-Nothing
returns-in-Nothing g c = drops_then _ _ _ c.loop.invariant c.drop_some.ensures

pub returns-in-Ended : goal.returns-in-Ended
returns-in-Ended g c = drops_then _ _ _ c.loop.invariant c.drop_some.ensures

pub returns-then-is_enough : goal.returns-then-is_enough
returns-then-is_enough g c = drops_then _ _ _ c.loop.invariant c.drop_some.ensures

pub loop-preserved : goal.loop-preserved
loop-preserved g c = drops_then _ _ _ c.loop.invariant c.drop_some.ensures
