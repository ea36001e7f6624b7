-- Instants as times of a log.
use Rattle.std.specs.Prelude.{◌≡◌, ℕ, List, ◌++◌, false, Some, codes}
use Rattle.jiff_core.specs.DateTime.{civil_nanos}
use Rattle.jiff_core.specs.declared.civil.datetime.DateTime.{DateTime}
use Rattle.jiff_core.specs.declared.timestamp.Timestamp.{Timestamp}
use Rattle.jiff_fmt.specs.Text.{datetime_text}

-- the date and time that a clock in UTC shows at the instant, with three places of the second, which are cut and not rounded, and
-- then Z (RFC 3339, section 5.6); 84 is T
abbrev pub IsTimeAt : Timestamp → List ℕ → Type 0
IsTimeAt t text = (dt : DateTime) × (civil_nanos dt ≡ t.nanosecond) × (text ≡ datetime_text false 84 (Some 3) dt ++ codes "Z")
