-- How long requests were served, in microseconds (own profile).
use Rattle.std.specs.Prelude.{◌≡◌, ℕ, ◌+◌, Bool, nat_le, if◌then◌else◌, List, fold, count_by}
use Rattle.book_desk_metrics.specs.Counting.{held, one_more}
use Rattle.book_desk_metrics.specs.declared.times.Times.{Times}

abbrev pub more_if : Bool → ℕ → ℕ
more_if holds n = if holds then one_more n else n

-- a time is in each bucket whose bound it does not pass
abbrev pub timed : Times → ℕ → Times
timed t micros = record {
  within_1_ms = more_if (nat_le micros 1000) t.within_1_ms;
  within_5_ms = more_if (nat_le micros 5000) t.within_5_ms;
  within_20_ms = more_if (nat_le micros 20000) t.within_20_ms;
  within_100_ms = more_if (nat_le micros 100000) t.within_100_ms;
  within_500_ms = more_if (nat_le micros 500000) t.within_500_ms;
  within_2_s = more_if (nat_le micros 2000000) t.within_2_s;
  all = one_more t.all;
  micros = held (t.micros + micros);
}

abbrev pub all_timed : Times → List ℕ → Times
all_timed t times = fold timed t times

abbrev pub no_times : Times
no_times = record {
  within_1_ms = 0;
  within_5_ms = 0;
  within_20_ms = 0;
  within_100_ms = 0;
  within_500_ms = 0;
  within_2_s = 0;
  all = 0;
  micros = 0;
}

-- how many times did not pass a bound, up to the most that a counter holds
abbrev pub number_within : ℕ → List ℕ → ℕ
number_within bound times = held (count_by (λ t. nat_le t bound) times)

-- each bucket is the number of the times that did not pass its bound
pub record BucketsAreNumbers : Type 0 where
  pub within_1_ms : (times : List ℕ) → (all_timed no_times times).within_1_ms ≡ number_within 1000 times
  pub within_5_ms : (times : List ℕ) → (all_timed no_times times).within_5_ms ≡ number_within 5000 times
  pub within_20_ms : (times : List ℕ) → (all_timed no_times times).within_20_ms ≡ number_within 20000 times
  pub within_100_ms : (times : List ℕ) → (all_timed no_times times).within_100_ms ≡ number_within 100000 times
  pub within_500_ms : (times : List ℕ) → (all_timed no_times times).within_500_ms ≡ number_within 500000 times
  pub within_2_s : (times : List ℕ) → (all_timed no_times times).within_2_s ≡ number_within 2000000 times
