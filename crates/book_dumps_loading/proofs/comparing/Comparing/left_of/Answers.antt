use Rattle.std.proofs.Common.{take}
use Rattle.std.proofs.lemmas.Bool.Decides.{Decides-eqb}
use Rattle.std.proofs.lemmas.Slice.Eq.{strip_prefix_is}
use Rattle.std.specs.Prelude.{None, Some}
use Rattle.book_dumps_loading.proofs.Comparisons.{both_left, front_missed, none_left}
use Rattle.book_dumps_loading.proofs.comparing.Comparing.left_of.Goals as goal

pub returns-in-Some-clause-some : goal.returns-in-Some-clause-some
returns-in-Some-clause-some c =
    let held = c.args.self.now in
    let front = take held.equal held.wanted.now in
    let rest = c.in-Some.rest in
    let left = strip_prefix_is Decides-eqb rest.now c.as_slice.result.now c.strip_prefix-in-Some.result c.strip_prefix-in-Some.ensures.cases in
    both_left front held.other.items c.args.text.now rest.now c.strip_prefix-in-Some.result
    (strip_prefix_is Decides-eqb c.args.text.now front (Some rest) c.in-Some.ensures.cases) (rw c.as_slice.ensures.value at left)

pub returns-in-Some-clause-none : goal.returns-in-Some-clause-none
returns-in-Some-clause-none c =
    let held = c.args.self.now in
    let front = take held.equal held.wanted.now in
    let rest = c.in-Some.rest in
    let left = strip_prefix_is Decides-eqb rest.now c.as_slice.result.now c.strip_prefix-in-Some.result c.strip_prefix-in-Some.ensures.cases in
    none_left front held.other.items c.args.text.now rest.now c.strip_prefix-in-Some.result
    (strip_prefix_is Decides-eqb c.args.text.now front (Some rest) c.in-Some.ensures.cases) (rw c.as_slice.ensures.value at left)

pub returns-in-None-clause-none : goal.returns-in-None-clause-none
returns-in-None-clause-none c =
    let held = c.args.self.now in
    let front = take held.equal held.wanted.now in
    front_missed front held.other.items c.args.text.now (strip_prefix_is Decides-eqb c.args.text.now front None c.in-None.ensures.cases)
