use Rattle.std.proofs.Common.{◌≡◌, [], ◌∷◌, rules, subst}
use Rattle.json.specs.Filled.{Placed}
use Rattle.json.specs.Print.{escape_byte}
use Rattle.book_json_texts.proofs.quoting.place_escape.Goals as goal

pub returns-then-letter-gt0-clause-placed : goal.returns-then-letter-gt0-clause-placed
unfolding escape_byte
returns-then-letter-gt0-clause-placed c =
    let same : 92 ∷ c.letter-letter.result ∷ [] ≡ escape_byte c.args.byte = search rules in
    subst (λ l. Placed c.args.buffer.now c.place.new.buffer c.args.at l c.place.result) same c.place.ensures

pub returns-then-byte-lt32-clause-placed : goal.returns-then-byte-lt32-clause-placed
unfolding escape_byte
returns-then-byte-lt32-clause-placed c =
    let same : 92 ∷ 117 ∷ 48 ∷ 48 ∷ c.hex.result ∷ c.hex-then-byte-lt32.result ∷ [] ≡ escape_byte c.args.byte = search rules in
    subst (λ l. Placed c.args.buffer.now c.place-then-byte-lt32.new.buffer c.args.at l c.place-then-byte-lt32.result) same c.place-then-byte-lt32.ensures

pub returns-clause-placed : goal.returns-clause-placed
unfolding escape_byte
returns-clause-placed c =
    let same : c.args.byte ∷ [] ≡ escape_byte c.args.byte = search rules in
    subst (λ l. Placed c.args.buffer.now c.place-2.new.buffer c.args.at l c.place-2.result) same c.place-2.ensures
