-- A conversation with a control (own profile).
use Rattle.std.specs.Prelude.{ℕ, List, Option}
use Rattle.std.specs.Io.KnownBytes.{Appends}
use Rattle.book_desk_asking.specs.Questions.{request_text}
use Rattle.book_desk_asking.specs.Replies.{IsAnswered}
use Rattle.book_desk_asking.specs.declared.questions.Question.{Question}

-- the whole request of the question is sent over the stream, and what it gives then is a reply that came whole
abbrev pub Asks : {S : Type 0} → (S → Option (List ℕ)) → (S → Option (List ℕ)) → S → Question → Option (List ℕ) → Option (List ℕ) → ℕ → List ℕ → Type 0
Asks {S} contents remaining stream question held holds status told =
    (asked : S) × Appends (contents stream) (contents asked) (request_text question) × IsAnswered (remaining asked) held holds status told
