use Rattle.book_wire_json.proofs.Common.{rules}
use Rattle.std.proofs.lemmas.Str.{is_utf8-from_IsUtf8}
use Rattle.book_wire_json.proofs.Utf8.{no_utf8}
use Rattle.book_wire_json.proofs.bodies.text_body.Goals as goal

pub returns-in_ok-copy_of-in-Ok : goal.returns-in_ok-copy_of-in-Ok
returns-in_ok-copy_of-in-Ok c =
    let valid = is_utf8-from_IsUtf8 _ c.in-Ok.ensures.cases.1 in
    rw (valid, c.in_ok-copy_of-in-Ok.ensures, c.in-Ok.ensures.cases.0) (search rules)

pub returns-in-Err : goal.returns-in-Err
returns-in-Err c =
    let bad = no_utf8 _ (λ u. c.in-Err.ensures.cases.0 u) in
    rw bad (search rules)
