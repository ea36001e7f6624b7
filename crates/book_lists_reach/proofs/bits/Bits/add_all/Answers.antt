use Rattle.std.proofs.Common.{◌≡◌, ◌<◌, ◌≤◌, ◌+◌, ◌∙◌, ℕ, List, length, get_or, ap, sym, rules, subst, bit_or, set}
use Rattle.std.proofs.lemmas.Grind.{get_or_default_zero}
use Rattle.book_lists_reach.proofs.Words.{JoinedTo, bit_joined, joined_more, joined_none}
use Rattle.book_lists_reach.proofs.bits.Bits.add_all.Goals as goal

pub loop-i-init : goal.loop-i-init
loop-i-init c =
    let view : c.self.inside.words.items ≡ c.grow.new.self = c.self.view_is in
    record {
      long = search rules;
      joined = joined_none c.args.self.now c.args.other.now c.self.inside.words.items (λ i. ap (λ words. get_or words i 0) view ∙ c.in_ok-grow.ensures.same i);
    }

pub loop-i-preserved : goal.loop-i-preserved
loop-i-preserved c =
    let old : List ℕ = c.loop-i.self-inside.words.items in
    let i = c.loop-i.i in
    let other : List ℕ = c.args.other.now in
    let view : c.other.inside.words.items ≡ other = c.other.view_is in
    let within : i < length old = search rules in
    let within_other : i < length c.other.inside.words.items = search rules in
    let word : c.index_mut.result.now ≡ get_or old i 0 = c.index_mut.ensures.value ∙ get_or_default_zero old i c.index_mut.result.now within in
    let other_word : c.index.result.now ≡ get_or other i 0 = c.index.ensures ∙ get_or_default_zero c.other.inside.words.items i c.index.result.now within_other ∙ ap (λ words. get_or words i 0) view in
    let is : bit_or c.index_mut.result.now c.index.result.now ≡ bit_or (get_or old i 0) (get_or other i 0) = ap (λ w. bit_or w c.index.result.now) word ∙ ap (λ w. bit_or (get_or old i 0) w) other_word in
    record {
      long = search rules;
      joined = subst (λ w. JoinedTo (i + 1) c.args.self.now other (set old i w)) (sym is) (joined_more i c.args.self.now other old within c.loop-i.invariant.joined);
    }

pub returns : goal.returns
returns c =
    let short : length c.args.other.now ≤ c.loop-i.i = search rules in
    bit_joined c.loop-i.i c.args.self.now c.args.other.now c.loop-i.self-inside.words.items short c.loop-i.invariant.joined
