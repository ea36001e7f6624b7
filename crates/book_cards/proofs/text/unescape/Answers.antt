use Rattle.book_cards.proofs.Common.{arith, ◌≡◌, ◌∷◌, length, [], ◌++◌, lit<, ap, sym, ◌∙◌, append_assoc, length-append, string_bytes, unescaped, split_parts}
use Rattle.std.proofs.Common.{rules}
use Rattle.book_cards.proofs.FoldSteps.{joined_step}
use Rattle.book_cards.proofs.Escapes.{at_escape, at_backslash, at_end, meaning_small}
use Rattle.book_cards.proofs.text.unescape.Goals as goal

pub loop-before-smaller-in-Some-escape : goal.loop-before-smaller-in-Some-escape
loop-before-smaller-in-Some-escape c =
    let parts = rw c.in-Some.is at (split_parts 92 c.loop-before.rest.now c.split_once.result c.split_once.ensures.cases (lit< tt)) in
    omega (arith, simp length-append at (ap length parts.0), ap length c.in-Some-escape.ensures.some.1)

pub loop-before-preserved-in-Some-escape : goal.loop-before-preserved-in-Some-escape
loop-before-preserved-in-Some-escape c =
    let parts = rw c.in-Some.is at (split_parts 92 c.loop-before.rest.now c.split_once.result c.split_once.ensures.cases (lit< tt)) in
    let some = c.in-Some-escape.ensures.some in
    let before = c.in-Some.before.now in
    let one = c.in-Some-escape.meaning ∷ [] in
    let out : string_bytes c.push.new.self ≡ string_bytes c.loop-before.plain ++ (before ++ one) =
    c.in_ok-push-in-Some-escape.ensures.bytes ∙ ap (λ t. string_bytes c.push_str.new.self ++ t) (c.in_ok-push-in-Some-escape.ensures.ascii (meaning_small some.0 c.in-Some-escape.meaning some.2))
    ∙ ap (λ t. t ++ one) c.in_ok-push_str.ensures.bytes ∙ append_assoc (string_bytes c.loop-before.plain) before one in (
      search rules,
      joined_step _ _ (before ++ one) _ _ _ out
          (at_escape c.loop-before.rest.now before c.in-Some.after.now c.in-Some-escape.behind.now c.in-Some-escape.meaning parts.0 parts.1 some ∙ sym (append_assoc before one (unescaped c.in-Some-escape.behind.now)))
          c.loop-before.invariant.1,
    )

pub loop-before-smaller : goal.loop-before-smaller
loop-before-smaller c =
    let parts = rw c.in-Some.is at (split_parts 92 c.loop-before.rest.now c.split_once.result c.split_once.ensures.cases (lit< tt)) in
    omega (arith, simp length-append at (ap length parts.0))

pub loop-before-preserved : goal.loop-before-preserved
loop-before-preserved c =
    let parts = rw c.in-Some.is at (split_parts 92 c.loop-before.rest.now c.split_once.result c.split_once.ensures.cases (lit< tt)) in
    let before = c.in-Some.before.now in
    let out : string_bytes c.push-in-None.new.self ≡ string_bytes c.loop-before.plain ++ (before ++ 92 ∷ []) =
    c.in_ok-push-in-None.ensures.bytes ∙ ap (λ t. string_bytes c.push_str.new.self ++ t) (c.in_ok-push-in-None.ensures.ascii (lit< tt))
    ∙ ap (λ t. t ++ 92 ∷ []) c.in_ok-push_str.ensures.bytes ∙ append_assoc (string_bytes c.loop-before.plain) before (92 ∷ []) in (
      search rules,
      joined_step _ _ (before ++ 92 ∷ []) _ _ _ out
          (at_backslash c.loop-before.rest.now before c.in-Some.after.now parts.0 parts.1 c.in-None.ensures.none ∙ sym (append_assoc before (92 ∷ []) (unescaped c.in-Some.after.now)))
          c.loop-before.invariant.1,
    )

pub returns : goal.returns
returns c =
    let none = rw c.in_default.is at (split_parts 92 c.loop-before.rest.now c.split_once.result c.split_once.ensures.cases (lit< tt)) in
    c.in_ok-push_str-2.ensures.bytes ∙ (ap (λ t. string_bytes c.loop-before.plain ++ t) (sym (at_end c.loop-before.rest.now none)) ∙ c.loop-before.invariant.1)
