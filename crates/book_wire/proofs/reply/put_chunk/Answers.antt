use Rattle.book_wire.proofs.Common.{List, ℕ, ◌++◌, ap, ◌∙◌, on_ok_weaker}
use Rattle.book_wire.specs.Sending.{allowed_line, left_of}
use Rattle.book_wire.proofs.WholeBodies.{chunk_bare, chunk_spelled}
use Rattle.book_wire.proofs.reply.put_chunk.Goals as goal

pub returns-then-bare-clause-ok : goal.returns-then-bare-clause-ok
returns-then-bare-clause-ok c =
    let chunk = c.args.chunk in
    on_ok_weaker c.put.result
    (λ x. x ∙ ap (λ (t : List ℕ). c.args.out.now ++ t)
    (chunk_bare c.args.reply c.as_bytes.result.now (allowed_line c.allowed.result) c.type_line_of.result.now chunk.text.items chunk.next chunk.size
    c.args.bare c.args.closes c.if-bare.true c.requires.made c.requires.chunk (c.as_bytes.ensures.value ∙ c.deref.ensures.0 ∙ c.push_head.ensures)
    c.allowed.ensures c.type_line_of.ensures.value)) c.put.ensures.ok

pub returns-clause-ok : goal.returns-clause-ok
returns-clause-ok c =
    let chunk = c.args.chunk in
    on_ok_weaker c.put_long.result
    (λ x. x ∙ ap (λ (t : List ℕ). t ++ (c.as_bytes-2.result.now ++ (c.as_slice.result.now ++ left_of c.rest-left.result))) c.reserve.ensures
    ∙ ap (λ (t : List ℕ). c.args.out.now ++ t)
    (chunk_spelled c.args.reply c.as_bytes-2.result.now (allowed_line c.allowed.result) c.type_line_of.result.now chunk.text.items
    c.as_slice.result.now (left_of c.rest-left.result) chunk.next chunk.size c.args.bare c.args.closes c.if-bare.false c.requires.made c.requires.chunk
    (c.as_bytes-2.ensures.value ∙ c.deref-2.ensures.0 ∙ c.push_head.ensures) c.allowed.ensures c.type_line_of.ensures.value
    c.as_slice.ensures.value c.rest-left.ensures.bytes)) c.put_long.ensures.ok
