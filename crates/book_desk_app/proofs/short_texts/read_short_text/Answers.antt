use Rattle.book_desk_app.proofs.Common.{◌≡◌, ◌++◌, ◌∷◌, [], length, IfSome, sym, subst, ◌∙◌, Consumes, HasKept}
use Rattle.std.proofs.Common.{rules, ◌<◌, ◌≤◌}
use Rattle.std.proofs.lemmas.Bool.{true≢false}
use Rattle.std.specs.Io.Iter.{bytes_remaining}
use Rattle.std.specs.Io.KnownBytes.{IsAtEnd}
use Rattle.std.specs.Str.{IsUtf8}
use Rattle.book_desk_app.specs.TextRuns.{GivesNoText}
use Rattle.book_desk_app.specs.declared.text_failures.InputFault.TheVariants.{NotUtf8}
use Rattle.book_desk_app.proofs.ShortTexts.{kept_more, kept_still, of_taken, is_longer}
use Rattle.book_desk_app.proofs.short_texts.read_short_text.Goals.{else-len-most-via-then-len-most+else-is_err, else-len-most-via-else-len-most}
use Rattle.book_desk_app.proofs.short_texts.read_short_text.Goals as goal

pub loop-byte-preserved : goal.loop-byte-preserved
loop-byte-preserved g c =
    let before = bytes_remaining g.R.Read.remaining c.into_iter-byte-iterator.result in
    let now = bytes_remaining g.R.Read.remaining c.loop-byte.byte-iterator in
    let after = bytes_remaining g.R.Read.remaining c.next.new.self in
    let kept = c.loop-byte.kept.items in
    let byte = c.in-Ok.byte in
    let read : Consumes now after (byte ∷ []) = rw c.in-Ok.is at c.in-Some.ensures.steps in
    elim c.else-len-most.branch [
      | else-len-most-via-then-len-most+else-is_err w ↦
          let few : length kept ≤ c.args.most = search rules in
          let pushed : c.else-len-most.kept.items ≡ kept ++ byte ∷ [] = search rules in
          subst (HasKept c.args.most before after c.take.new.self) (sym pushed)
          (kept_more c.args.most before now after c.loop-byte.test c.take.new.self kept byte c.loop-byte.invariant read c.take.ensures few)
      | else-len-most-via-else-len-most w ↦
          let many : c.args.most < length kept = search rules in
          let same : c.else-len-most.kept.items ≡ kept = search rules in
          subst (HasKept c.args.most before after c.take.new.self) (sym same)
          (kept_still c.args.most before now after c.loop-byte.test c.take.new.self kept byte c.loop-byte.invariant read c.take.ensures many)
    ]

pub returns-then-finish-clause-longer : goal.returns-then-finish-clause-longer
returns-then-finish-clause-longer g c =
    let before = bytes_remaining g.R.Read.remaining c.into_iter-byte-iterator.result in
    let now = bytes_remaining g.R.Read.remaining c.loop-byte.byte-iterator in
    let has = c.loop-byte.invariant in
    let end : IsAtEnd now = c.in-None.ensures.steps in
    let many : c.args.most < length c.loop-byte.kept.items = search rules in
    let text : IsUtf8 has.taken = (c.finish.ensures has.taken has.tested).0 c.if-finish.true in
    let start : before ≡ g.R.Read.remaining c.args.reader = search rules in
    subst (λ r. IfSome r (λ input. IsUtf8 input × (c.args.most < length input))) start
    (of_taken c.args.most before now c.loop-byte.test c.loop-byte.kept.items has end (λ input. IsUtf8 input × (c.args.most < length input))
    (text, is_longer c.args.most before now c.loop-byte.test c.loop-byte.kept.items has end many))

pub returns-clause-refused : goal.returns-clause-refused
returns-clause-refused g c =
    let before = bytes_remaining g.R.Read.remaining c.into_iter-byte-iterator.result in
    let now = bytes_remaining g.R.Read.remaining c.loop-byte.byte-iterator in
    let has = c.loop-byte.invariant in
    let end : IsAtEnd now = c.in-None.ensures.steps in
    let start : before ≡ g.R.Read.remaining c.args.reader = search rules in
    subst (λ r. IfSome r (λ input. GivesNoText input NotUtf8)) start
    (of_taken c.args.most before now c.loop-byte.test c.loop-byte.kept.items has end (λ input. GivesNoText input NotUtf8)
    (λ u. absurd (true≢false (sym ((c.finish.ensures has.taken has.tested).1 u) ∙ c.if-finish.false))))
