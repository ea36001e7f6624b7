use Rattle.book_office_members.proofs.Common.{◌≡◌, map, take}
use Rattle.book_office_members.proofs.links.work_of.Given as goal

abbrev pub invariant-loop-start : goal.invariant-loop-start
invariant-loop-start l = map (λ w. w.now) l.work.items ≡ take l.start-index l.starts
