use Rattle.std.proofs.Common.{◌≡◌, ◌++◌, drop, map}
use Rattle.std.specs.Prelude.{option_copied, option_to_list}
use Rattle.httparse.specs.Spans.{header_bytes}
use Rattle.book_desk_control.specs.Fields.{values_of}
use Rattle.book_desk_control.proofs.fields.lone.Given as goal

-- the value that was found, and those of the headers that are left
abbrev pub invariant-loop-header : goal.invariant-loop-header
invariant-loop-header l =
    option_to_list (option_copied l.found) ++ values_of l.name (map (header_bytes l.bytes) (drop l.header-index l.headers))
    ≡ values_of l.name (map (header_bytes l.bytes) l.headers)
