use Rattle.book_questions_changes.proofs.Common.{◌≡◌, ◌∙◌, string_bytes, subst, sym}
use Rattle.std.proofs.lemmas.Result.{IfOk-weaker}
use Rattle.std.specs.Str.{IsUtf8}
use Rattle.json.specs.Print.{quoted}
use Rattle.book_questions_changes.proofs.facts.quoted.Goals as goal

pub returns : goal.returns
returns c =
    IfOk-weaker c.from_utf8_lossy.result (λ t. IsUtf8 c.as_slice.result.now → string_bytes t ≡ c.as_slice.result.now) (λ t. string_bytes t ≡ quoted c.args.text.now)
    (λ t tells. tells (subst IsUtf8 (sym c.as_slice.ensures.value) c.in_ok-bytes.ensures.utf8) ∙ c.as_slice.ensures.value ∙ c.in_ok-bytes.ensures.items)
    c.from_utf8_lossy.ensures.ok
