-- What is made of the bytes that come of a control (own profile).
use Rattle.std.specs.Prelude.{◌≡◌, ◌⊎◌, ℕ, ◌≤◌, List, [], ◌++◌, length, Option, Some, None, ⊤}
use Rattle.std.specs.Io.KnownBytes.{Appends, Consumes}
use Rattle.httparse.specs.Grammar.{ResponseHead, print_response}
use Rattle.book_desk_asking.specs.Heads.{IsHead}
use Rattle.book_desk_asking.specs.declared.heads.Told.{Told}

-- a reader gave the head that tells this
abbrev pub ReadsHead : Option (List ℕ) → Option (List ℕ) → Told → Type 0
ReadsHead left leaves told = (h : ResponseHead) × IsHead h told × Consumes left leaves (print_response h)

-- so many bytes that a reader gave were written
abbrev pub IsCopied : Option (List ℕ) → Option (List ℕ) → Option (List ℕ) → Option (List ℕ) → ℕ → Type 0
IsCopied left leaves held holds count = (bytes : List ℕ) × (length bytes ≡ count) × Consumes left leaves bytes × Appends held holds bytes

-- bytes stand at the front of what a reader has, where that is known
abbrev pub BeginsWith : Option (List ℕ) → List ℕ → Type 0
BeginsWith None bytes = ⊤
BeginsWith (Some all) bytes = (rest : List ℕ) × (all ≡ bytes ++ rest)

-- of so many bytes no more than a front was written, which a reader gave
abbrev pub CutBy : Option (List ℕ) → Option (List ℕ) → Option (List ℕ) → ℕ → Type 0
CutBy left held holds count = (bytes : List ℕ) × (length bytes ≤ count) × BeginsWith left bytes × Appends held holds bytes

-- no more was printed than a front of what a reply has that the command wrote
abbrev pub IsCut : Option (List ℕ) → Option (List ℕ) → Option (List ℕ) → Type 0
IsCut left held holds =
    (printed : List ℕ) × Appends held holds printed
    × ((printed ≡ []) ⊎ ((h : ResponseHead) × (told : Told) × IsHead h told × (length printed ≤ told.written)
    × BeginsWith left (print_response h ++ printed)))

-- A reply to a command came whole: a head, what the command wrote, and what it told on standard error, as long as the head tells.
-- What it wrote was printed, and its status is the head's.
pub record IsAnswered (left held holds : Option (List ℕ)) (status : ℕ) (told : List ℕ) : Type 0 where
  pub head : ResponseHead
  pub tells : Told
  pub written : List ℕ
  pub is_head : IsHead head tells
  pub came : BeginsWith left (print_response head ++ (written ++ told))
  pub printed : Appends held holds written
  pub written_size : length written ≡ tells.written
  pub told_size : length told ≡ tells.told
  pub status_is : status ≡ tells.status
