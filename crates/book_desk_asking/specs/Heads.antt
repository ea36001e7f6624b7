-- The head of a control's reply to a command (own profile; RFC 9112, section 4).
use Rattle.std.specs.Prelude.{◌≡◌, ℕ, ◌-◌, ◌≤◌, Bool, true, false, ◌&&◌, if◌then◌else◌, nat_le, List, map, length, codes, Option, Some, None, Result, Ok, Err, option_and_then}
use Rattle.httparse.specs.Grammar.{ResponseHead, IsResponseHead, HasNoResponse, MayBecomeResponse, print_response}
use Rattle.httparse.specs.Spans.{name_and_value}
use Rattle.book_desk_control.specs.Fields.{Fields, is_length, lone, number_after, values_of}
use Rattle.book_desk_control.specs.declared.refusals.Refusal.{Refusal}
use Rattle.book_desk_asking.specs.declared.heads.Heard.{Heard}
use Rattle.book_desk_asking.specs.declared.heads.Heard.TheVariants.{Part, Other, Whole}
use Rattle.book_desk_asking.specs.declared.heads.Told.{Told}

-- 1 to 10 decimal digits
abbrev pub number_of : List ℕ → Option ℕ
number_of digits = if is_length digits then Some (number_after 0 digits) else None

abbrev pub number_by : Result (Option (List ℕ)) Refusal → Option ℕ
number_by (Ok (Some digits)) = number_of digits
number_by (Ok None) = None
number_by (Err refusal) = None

-- the number of the field of that name, which comes once
abbrev pub number_in : Fields → List ℕ → Option ℕ
number_in fields name = number_by (lone (values_of name fields))

abbrev pub is_missing : Result (Option (List ℕ)) Refusal → Bool
is_missing (Ok (Some coding)) = false
is_missing (Ok None) = true
is_missing (Err refusal) = false

-- the body comes as it is (RFC 9112, section 6.1)
abbrev pub is_plain : Fields → Bool
is_plain fields = is_missing (lone (values_of (codes "transfer-encoding") fields))

-- a status has eight bits, and what was told is a part of the body
abbrev pub told_by : ℕ → ℕ → ℕ → Option Told
told_by status told size =
    if nat_le status 255 && nat_le told size then Some (record { status = status; written = size - told; told = told }) else None

-- the command's status, and of the body's bytes how many it wrote, and how many it told on standard error
abbrev pub told_in : Fields → Option Told
told_in fields =
    if is_plain fields then
    option_and_then (λ status. option_and_then (λ told. option_and_then (λ size. told_by status told size)
    (number_in fields (codes "content-length"))) (number_in fields (codes "x-error-length"))) (number_in fields (codes "x-exit-status"))
    else None

-- a head of the grammar of httparse, of at most 64 fields, that tells this
pub record IsHead (h : ResponseHead) (told : Told) : Type 0 where
  pub head : IsResponseHead h
  pub fields : length h.fields ≤ 64
  pub told_is : told_in (map name_and_value h.fields) ≡ Some told

-- the bytes are a beginning of a head; no head of a reply to a command; or such a head
abbrev pub Hears : List ℕ → Heard → Type 0
Hears bytes Part = HasNoResponse bytes × MayBecomeResponse bytes
Hears bytes Other = (h : ResponseHead) (told : Told) → IsHead h told → bytes ≡ print_response h → ⊥
Hears bytes (Whole told) = (h : ResponseHead) × IsHead h told × (bytes ≡ print_response h)
