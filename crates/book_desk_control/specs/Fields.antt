-- What the head of a request asks (RFC 9112, section 6): the fields that are read, and no others.
use Rattle.std.specs.Prelude.{ℕ, ◌+◌, ◌-◌, ◌*◌, Bool, ◌&&◌, if◌then◌else◌, nat_lt, nat_le, List, [], ◌∷◌, map, length, codes, Option, Some, None, Result, Ok, Err, ⊤}
use Rattle.std.specs.List.{list_all}
use Rattle.std.specs.Char.{is_ascii_digit, to_ascii_lowercase}
use Rattle.std.specs.Str.{bytes_eq}
use Rattle.httparse.specs.Grammar.{RequestHead}
use Rattle.httparse.specs.Spans.{name_and_value}
use Rattle.book_limits.specs.declared.TheConstants.{MAX_POLICY_BYTES}
use Rattle.book_desk_control.specs.Questions.{question_of}
use Rattle.book_desk_control.specs.declared.fields.Asked.{Asked}
use Rattle.book_desk_control.specs.declared.questions.Question.{Question}
use Rattle.book_desk_control.specs.declared.refusals.Refusal.{Refusal}
use Rattle.book_desk_control.specs.declared.refusals.Refusal.TheVariants.{BadHead, NotImplemented, TooMany}

-- names and values
abbrev pub Fields : Type 0
Fields = List (List ℕ × List ℕ)

-- equal but for ASCII case
abbrev pub same_name : List ℕ → List ℕ → Bool
same_name a b = bytes_eq (map to_ascii_lowercase a) (map to_ascii_lowercase b)

-- the values of the fields of that name, in order
abbrev pub values_of : List ℕ → Fields → List (List ℕ)
values_of name [] = []
values_of name (f ∷ fs) = if same_name f.0 name then f.1 ∷ values_of name fs else values_of name fs

-- a field that may come once
abbrev pub lone : List (List ℕ) → Result (Option (List ℕ)) Refusal
lone [] = Ok None
lone (v ∷ []) = Ok (Some v)
lone (v ∷ w ∷ vs) = Err BadHead

-- the number that decimal digits write behind those of n
abbrev pub number_after : ℕ → List ℕ → ℕ
number_after n [] = n
number_after n (c ∷ cs) = number_after (10 * n + (c - 48)) cs

-- 1 to 10 decimal digits
abbrev pub is_length : List ℕ → Bool
is_length v = nat_lt 0 (length v) && (nat_le (length v) 10 && list_all is_ascii_digit v)

abbrev pub length_of : Option (List ℕ) → Result ℕ Refusal
length_of None = Ok 0
length_of (Some v) = if is_length v then Ok (number_after 0 v) else Err BadHead

-- a body comes as it is
abbrev pub without_coding : Option (List ℕ) → Result ⊤ Refusal
without_coding None = Ok tt
without_coding (Some coding) = Err NotImplemented

abbrev pub within : Question → ℕ → Result Asked Refusal
within question n = if nat_le n MAX_POLICY_BYTES then Ok (record { question = question; length = n }) else Err TooMany

infixl 10 ◌>>=◌
abbrev pub ◌>>=◌ : {A B : Type 0} → Result A Refusal → (A → Result B Refusal) → Result B Refusal
(Ok x) >>= f = f x
(Err e) >>= f = Err e

-- bad fields come first, then a transfer coding, then a question that is none, then a body that is too long
unfoldable pub asked_by_head : List ℕ → List ℕ → Fields → Result Asked Refusal
asked_by_head method target fields = do
  coding ← lone (values_of (codes "transfer-encoding") fields)
  text ← lone (values_of (codes "content-length") fields)
  size ← length_of text
  plain ← without_coding coding
  question ← question_of method target
  within question size

abbrev pub asked_of_head : RequestHead → Result Asked Refusal
asked_of_head h = asked_by_head h.method h.target (map name_and_value h.fields)
