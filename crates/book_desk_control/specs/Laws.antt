-- What the definitions imply.
use Rattle.std.specs.Prelude.{◌≡◌, ℕ, List, [], ◌++◌}
use Rattle.book_desk_control.specs.Exchanges.{left, unsent}
use Rattle.book_desk_control.specs.Hearing.{Hears, body_at}
use Rattle.book_desk_control.specs.declared.exchanges.Exchange.{Exchange}
use Rattle.book_desk_control.specs.declared.hearing.Heard.{Heard}
use Rattle.book_desk_control.specs.declared.hearing.Heard.TheVariants.{Refused, Whole}
use Rattle.book_desk_control.specs.declared.questions.Question.{Question}
use Rattle.book_desk_control.specs.declared.refusals.Refusal.{Refusal}

-- what bytes ask is the same however they are cut
pub record CutsAlike : Type 0 where
  -- a whole request stays whole, whatever bytes follow
  pub stays : (a b : List ℕ) (question : Question) (start count : ℕ)
      → Hears a (Whole question start count) → Hears (a ++ b) (Whole question start count)
  -- with the same body
  pub same_body : (a b : List ℕ) (question : Question) (start count : ℕ)
      → Hears a (Whole question start count) → body_at (a ++ b) start count ≡ body_at a start count
  -- bytes that are a whole request are nothing else
  pub is_one : (a : List ℕ) (question : Question) (start count : ℕ) (other : Heard)
      → Hears a (Whole question start count) → Hears a other → other ≡ Whole question start count
  -- bytes that are refused stay refused
  pub stays_refused : (a b : List ℕ) (refusal : Refusal) → Hears a (Refused refusal) → Hears (a ++ b) (Refused refusal)

-- what is sent next is the front of what is left, and nothing only where nothing is left
pub record SentInOrder : Type 0 where
  pub front : (x : Exchange) → (later : List ℕ) × (left x ≡ unsent x ++ later)
  pub end : (x : Exchange) → unsent x ≡ [] → left x ≡ []
