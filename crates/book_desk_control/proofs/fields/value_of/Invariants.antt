use Rattle.std.proofs.Common.{◌≡◌, ◌^◌, ◌<◌, true, drop}
use Rattle.std.specs.Char.{is_ascii_digit}
use Rattle.std.specs.List.{list_all}
use Rattle.book_desk_control.specs.Fields.{number_after}
use Rattle.book_desk_control.proofs.fields.value_of.Given as goal

abbrev pub invariant-loop-digit : goal.invariant-loop-digit
invariant-loop-digit l =
    (number_after l.value (drop l.digit-index l.digits) ≡ number_after 0 l.digits)
    × (l.value < 10 ^ l.digit-index)
    × (list_all is_ascii_digit (drop l.digit-index l.digits) ≡ true)
