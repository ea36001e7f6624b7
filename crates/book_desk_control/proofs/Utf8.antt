-- Bytes that are no text.
use Rattle.std.proofs.Common.{◌≡◌, ◌∙◌, ℕ, List, None, refl, sym, ap, true, false, Option, if◌then◌else◌}
use Rattle.std.proofs.lemmas.Str.{IsUtf8-from_is_utf8, is_utf8-from_IsUtf8}
use Rattle.std.specs.Prelude.{IsUtf8}
use Rattle.std.specs.Str.{is_utf8}
use Rattle.serde_json.specs.Data.{Data}
use Rattle.serde_json.specs.Read.{read}
use Rattle.book_desk_control.specs.Words.{json_of}

-- the value of bytes that were read
pub json_read : (bs : List ℕ) (d : Option Data) → IsUtf8 bs → read bs ≡ d → d ≡ json_of bs
json_read bs d u e = sym e ∙ sym (ap (λ b. if b then read bs else None) (is_utf8-from_IsUtf8 bs u))

-- bytes that were not read have no value
pub json_none : (bs : List ℕ) → (IsUtf8 bs → read bs ≡ None) → None ≡ json_of bs
json_none bs f =
    elim (is_utf8 bs) as (λ b. is_utf8 bs ≡ b → None ≡ (if b then read bs else None)) [ true ↦ λ e. sym (f (IsUtf8-from_is_utf8 bs e)) | false ↦ λ e. refl ] refl
