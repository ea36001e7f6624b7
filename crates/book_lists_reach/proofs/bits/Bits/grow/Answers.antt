use Rattle.std.proofs.Common.{◌∙◌, get_or, ap, rules}
use Rattle.book_lists_reach.proofs.Words.{default_more}
use Rattle.book_lists_reach.proofs.bits.Bits.grow.Goals as goal

pub loop-word-preserved : goal.loop-word-preserved
loop-word-preserved c = record {
  long = search rules;
  same = λ i. ap (λ words. get_or words i 0) c.in_ok-push.ensures.items ∙ default_more 0 c.loop-word.self-inside.words.items i ∙ c.loop-word.invariant.same i;
}
