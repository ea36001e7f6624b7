use Rattle.std.proofs.Common.{◌≡◌, map, drop}
use Rattle.std.specs.Prelude.{string_bytes}
use Rattle.json.specs.Json.{string}
use Rattle.book_json_lines.specs.Objects.{told}
use Rattle.book_desk_asking.proofs.bodies.put_each.Given as goal

-- what is told so far, and then what follows
abbrev pub invariant-loop-text : goal.invariant-loop-text
invariant-loop-text l =
    told l.out (map string (map string_bytes (drop l.text-index l.texts))) ≡ told l.fn.out (map string (map string_bytes l.texts))
