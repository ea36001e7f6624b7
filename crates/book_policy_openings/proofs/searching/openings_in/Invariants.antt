use Rattle.std.proofs.Common.{◌≡◌}
use Rattle.std.specs.Prelude.{All}
use Rattle.book_office.specs.Sound.{IsSound}
use Rattle.book_policy_openings.specs.Openings.{IsOpeningIn}
use Rattle.book_policy_openings.proofs.searching.openings_in.Given as goal

-- what are told so far are openings, and the Office is as it was
abbrev pub invariant-loop-opening : goal.invariant-loop-opening
invariant-loop-opening l = record {
  told : IsSound l.fn.start → All (IsOpeningIn l.fn.start) l.told;
  kept : IsSound l.fn.start → l.start ≡ l.fn.start;
}
