use Rattle.std.proofs.Common.{◌≡◌, ◌<◌, ◌/◌, ◌%◌, ◌*◌, ◌^◌, ◌||◌, ◌∙◌, List, ℕ, length, get_or, ap, rules, bit_or, set, nat_eq}
use Rattle.std.specs.Int.{bit_at}
use Rattle.std.proofs.lemmas.Grind.{get_or_default_zero}
use Rattle.book_lists_reach.specs.Bits.{bit}
use Rattle.book_lists_reach.proofs.Words.{bit_more}
use Rattle.book_lists_reach.proofs.bits.Bits.insert.Goals as goal

pub returns-clause-ok : goal.returns-clause-ok
returns-clause-ok c =
    let n = c.args.number in
    let words : List ℕ = c.self.inside.words.items in
    let view : words ≡ c.grow.new.self = c.self.view_is in
    let within : n / 64 < length words = search rules in
    let word : c.index_mut.result.now ≡ get_or words (n / 64) 0 = c.index_mut.ensures.value ∙ get_or_default_zero words (n / 64) c.index_mut.result.now within in
    let same : (i : ℕ) → get_or words i 0 ≡ get_or c.args.self.now i 0 = λ i. ap (λ ws. get_or ws i 0) view ∙ c.in_ok-grow.ensures.same i in
    λ j. ap (λ w. bit (set words (n / 64) (bit_or w (1 * 2 ^ (n % 64) % 2 ^ 64))) j) word ∙ bit_more words n within j ∙ ap (λ w. nat_eq j n || nat_eq (bit_at w (j % 64)) 1) (same (j / 64))
