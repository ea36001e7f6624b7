-- What is added to a log.
use Rattle.std.proofs.Common.{◌≡◌, ◌≢◌, ℕ, List, [], ◌∷◌, ◌++◌, codes, Option, Some, None, sym, ap, ◌∙◌, subst, Bool, true}
use Rattle.std.specs.Io.KnownBytes.{Appends}
use Rattle.book_log_lines.specs.declared.lines.Line.{Line}
use Rattle.book_log_service.specs.Kept.{IsSpared, log_of}
use Rattle.book_log_service.specs.Texts.{IsBareText, IsTextWith, IsUnavailableText}
use Rattle.book_wire_serving.proofs.Servings.{gains_one}
use Rattle.book_wire_serving.specs.Logs.{Appended, Gains, Log}

known_appended : (old new : Option (List ℕ)) (text bytes : List ℕ) → Appends old new text → old ≡ Some bytes → new ≡ Some (bytes ++ text)
known_appended None new text bytes a is = absurd cc
known_appended (Some xs) None text bytes a is = absurd a
known_appended (Some xs) (Some ys) text bytes a is =
    let same : xs ≡ bytes = cc in
    ap Some (a ∙ ap (λ (t : List ℕ). t ++ text) same)

-- a write that was made
pub appended : (failed : Bool) (old new : Option (List ℕ)) (text : List ℕ) → Appends old new text → Appended (log_of failed old) (log_of failed new) text
appended failed old new text a = record {
  was_sound = λ sound. sound;
  held = λ sound bytes is. known_appended old new text bytes a is;
}

-- a log that has failed
pub appended_failed : (before failed : Bool) (old new : Option (List ℕ)) (text : List ℕ) → failed ≡ true → Appended (log_of before old) (log_of failed new) text
appended_failed before failed old new text is_failed = record {
  was_sound = λ sound. absurd cc;
  held = λ sound bytes is. absurd cc;
}

-- a text that was added is that of one line
pub gains_text : (old new : Log) (text : List ℕ) (IsSo : Line → Type 0) → Appended old new text → IsTextWith IsSo text
    → Gains old new (λ lines. (l : Line) × (lines ≡ l ∷ []) × IsSo l)
gains_text old new text IsSo a is = gains_one old new text IsSo a (λ bytes held. is)

-- the line that a request is unavailable is that of this refusal
pub spare_told : (spare : Option (List ℕ)) (text error : List ℕ) (status : ℕ) → Some text ≡ spare → (spare ≢ None → IsSpared spare)
    → status ≡ 503 → error ≡ codes "unavailable" → IsBareText status error text
spare_told spare text error status is known unavailable named =
    let some : spare ≢ None = λ none. let h : Some text ≡ None = is ∙ none in absurd cc in
    let told : IsUnavailableText text = subst IsSpared (sym is) (known some) in
    let P : ℕ → Type 0 = λ s. IsBareText s error text in
    let Q : List ℕ → Type 0 = λ e. IsBareText 503 e text in
    subst P (sym unavailable) (subst Q (sym named) told)

-- a log that has failed gains nothing that is told
pub gains_failed : (old new : Log) (AreSo : List Line → Type 0) → new.failed ≡ true → Gains old new AreSo
gains_failed old new AreSo is_failed = record {
  was_sound = λ sound. absurd cc;
  lines = λ sound bytes is. absurd cc;
}
