use Rattle.std.proofs.Common.{arith}
use Rattle.book_json_texts.proofs.Steps.{chunk_before, chunk_placed}
use Rattle.book_json_texts.proofs.places.place_chunk.Goals as goal

pub returns-clause-front : goal.returns-clause-front
returns-clause-front c = chunk_before c.args.at c.args.buffer.now c.args.bytes (omega (arith, c.requires, c.fits-bytes.0))

pub returns-clause-bytes : goal.returns-clause-bytes
returns-clause-bytes c k few =
    chunk_placed c.args.at c.args.buffer.now c.args.bytes k (omega (arith, c.requires, c.fits-bytes.0)) (omega (arith, few, c.fits-bytes.0))
