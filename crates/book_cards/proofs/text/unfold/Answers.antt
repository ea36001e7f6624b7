use Rattle.book_cards.proofs.Common.{arith, ◌≡◌, ◌∷◌, length, [], ◌++◌, lit<, ap, sym, ◌∙◌, append_assoc, length-append, string_bytes, unfolded, split_parts}
use Rattle.std.proofs.Common.{rules}
use Rattle.book_cards.proofs.FoldSteps.{joined_step, at_fold, at_line_end, at_end}
use Rattle.std.proofs.lemmas.Str.Pattern.{strip_suffix_char}
use Rattle.book_cards.proofs.text.unfold.Goals as goal

pub loop-line-smaller-in-Some-strip_blank : goal.loop-line-smaller-in-Some-strip_blank
loop-line-smaller-in-Some-strip_blank c =
    let parts = rw c.in-Some.is at (split_parts 10 c.loop-line.rest.now c.split_once.result c.split_once.ensures.cases (lit< tt)) in
    omega (arith, simp length-append at (ap length parts.0), ap length c.in-Some-strip_blank.ensures.2)

pub loop-line-preserved-in-Some-strip_blank : goal.loop-line-preserved-in-Some-strip_blank
loop-line-preserved-in-Some-strip_blank c =
    let parts = rw c.in-Some.is at (split_parts 10 c.loop-line.rest.now c.split_once.result c.split_once.ensures.cases (lit< tt)) in
    let ending = strip_suffix_char 13 c.in-Some.line.now c.strip_suffix.result c.strip_suffix.ensures.cases (lit< tt) in (
      search rules,
      joined_step _ _ _ _ _ _ c.in_ok-push_str-in-Some-strip_blank.ensures.bytes
          (at_fold c.loop-line.rest.now c.in-Some.after.now c.in-Some-strip_blank.continued.now c.in-Some.line c.unwrap_or.result c.strip_suffix.result parts.0 parts.1 c.in-Some-strip_blank.ensures ending c.unwrap_or.ensures)
          c.loop-line.invariant.1,
    )

pub loop-line-smaller : goal.loop-line-smaller
loop-line-smaller c =
    let parts = rw c.in-Some.is at (split_parts 10 c.loop-line.rest.now c.split_once.result c.split_once.ensures.cases (lit< tt)) in
    omega (arith, simp length-append at (ap length parts.0))

pub loop-line-preserved : goal.loop-line-preserved
loop-line-preserved c =
    let parts = rw c.in-Some.is at (split_parts 10 c.loop-line.rest.now c.split_once.result c.split_once.ensures.cases (lit< tt)) in
    let out : string_bytes c.push.new.self ≡ string_bytes c.loop-line.whole ++ (c.in-Some.line.now ++ (10 ∷ [])) =
    c.in_ok-push-in-None.ensures.bytes ∙ ap (λ t. string_bytes c.push_str-in-None.new.self ++ t) (c.in_ok-push-in-None.ensures.ascii (lit< tt)) ∙ ap (λ t. t ++ (10 ∷ [])) c.in_ok-push_str-in-None.ensures.bytes ∙ append_assoc (string_bytes c.loop-line.whole) c.in-Some.line.now (10 ∷ []) in (
      search rules,
      joined_step _ _ (c.in-Some.line.now ++ (10 ∷ [])) _ _ _ out
          (at_line_end c.loop-line.rest.now c.in-Some.line.now c.in-Some.after.now parts.0 parts.1 c.in-None.ensures ∙ sym (append_assoc c.in-Some.line.now (10 ∷ []) (unfolded c.in-Some.after.now)))
          c.loop-line.invariant.1,
    )

pub returns : goal.returns
returns c =
    let none = rw c.in_default.is at (split_parts 10 c.loop-line.rest.now c.split_once.result c.split_once.ensures.cases (lit< tt)) in
    c.in_ok-push_str.ensures.bytes ∙ (ap (λ t. string_bytes c.loop-line.whole ++ t) (sym (at_end c.loop-line.rest.now none)) ∙ c.loop-line.invariant.1)
