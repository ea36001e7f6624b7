use Rattle.std.proofs.Common.{◌≡◌}
use Rattle.std.specs.Prelude.{All}
use Rattle.book_office.specs.Sound.{IsSound}
use Rattle.book_policy_openings.specs.Gains.{IsGainIn}
use Rattle.book_policy_openings.proofs.gain_search.gains_in.Given as goal

-- what are told so far are gains, and the Office is as it was
abbrev pub invariant-loop-gain : goal.invariant-loop-gain
invariant-loop-gain l = record {
  told : IsSound l.fn.start → All (IsGainIn l.fn.start) l.told;
  kept : IsSound l.fn.start → l.start ≡ l.fn.start;
}
