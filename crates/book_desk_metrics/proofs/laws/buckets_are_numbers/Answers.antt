use Rattle.std.proofs.Common.{ℕ, nat_le, refl}
use Rattle.book_desk_metrics.specs.Timing.{no_times, timed}
use Rattle.book_desk_metrics.specs.declared.times.Times.{Times}
use Rattle.book_desk_metrics.proofs.Numbers.{number_of}
use Rattle.book_desk_metrics.proofs.laws.buckets_are_numbers.Goals as goal

abbrev Any : Times → Type 0
Any t = Unit {0}

pub returns : goal.returns
returns c = record {
  within_1_ms = λ times. number_of timed (λ (t : Times). t.within_1_ms) (λ n. nat_le n 1000) Any (λ t n room. tt) (λ t n room. refl) times no_times tt refl;
  within_5_ms = λ times. number_of timed (λ (t : Times). t.within_5_ms) (λ n. nat_le n 5000) Any (λ t n room. tt) (λ t n room. refl) times no_times tt refl;
  within_20_ms = λ times. number_of timed (λ (t : Times). t.within_20_ms) (λ n. nat_le n 20000) Any (λ t n room. tt) (λ t n room. refl) times no_times tt refl;
  within_100_ms = λ times. number_of timed (λ (t : Times). t.within_100_ms) (λ n. nat_le n 100000) Any (λ t n room. tt) (λ t n room. refl) times no_times tt refl;
  within_500_ms = λ times. number_of timed (λ (t : Times). t.within_500_ms) (λ n. nat_le n 500000) Any (λ t n room. tt) (λ t n room. refl) times no_times tt refl;
  within_2_s = λ times. number_of timed (λ (t : Times). t.within_2_s) (λ n. nat_le n 2000000) Any (λ t n room. tt) (λ t n room. refl) times no_times tt refl;
}
