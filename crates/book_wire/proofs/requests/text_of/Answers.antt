use Rattle.std.proofs.lemmas.Str.{is_utf8-from_IsUtf8}
use Rattle.book_wire_json.proofs.Utf8.{no_utf8}
use Rattle.book_wire.proofs.requests.text_of.Goals as goal

pub returns-in-Ok : goal.returns-in-Ok
returns-in-Ok c = record { some = (c.in-Ok.ensures.cases.0, is_utf8-from_IsUtf8 _ c.in-Ok.ensures.cases.1); none = tt }

pub returns-in-Err : goal.returns-in-Err
returns-in-Err c = record { some = tt; none = no_utf8 _ (λ u. c.in-Err.ensures.cases.0 u) }
