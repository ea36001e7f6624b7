-- What `explain` answers to a text: the answer to the question that its lines ask, or its fault.
use Rattle.std.specs.Prelude.{◌≡◌, ◌≢◌, ℕ, ◌⊎◌, Bool, List, [], ◌∷◌}
use Rattle.std.specs.List.{filter_map}
use Rattle.book_rights.specs.declared.privileges.Leaf.{Leaf}
use Rattle.book_lists.specs.declared.circles.Caller.{Caller}
use Rattle.book_lists_explain.specs.declared.faults.ExplainFaultKind.{ExplainFaultKind}
use Rattle.book_lists_explain.specs.declared.faults.ExplainFaultKind.TheVariants.{Missing, Memory}
use Rattle.book_lists_explain.specs.declared.lines.Line.{Line}
use Rattle.book_lists_explain.specs.Answers.{IsAnswer}
use Rattle.book_lists_explain.specs.Lines.{lines_of}
use Rattle.book_lists.specs.Memberships.{set_of}
use Rattle.book_lists_explain.specs.Questions.{member_in, caller_in, need_in, entry_in, here_of, LinesSay, FirstFault}

-- the text asks a question, and the answer is that question's
pub record AnswersText (text answer : List ℕ) : Type 0 where
  pub said : List Line
  pub caller : Caller
  pub need : Leaf → Bool
  pub faultless : LinesSay [] (lines_of text) said
  pub asks : filter_map caller_in said ≡ caller ∷ []
  pub needs : filter_map need_in said ≡ need ∷ []
  pub answers : IsAnswer (set_of (filter_map member_in said)) caller need (here_of said) (filter_map entry_in said) answer

-- the fault of a text: want of memory, the first faulty line with its least fault, or, where no line has a fault, that
-- the caller or the need is missing
abbrev pub IsFault : List ℕ → ExplainFaultKind → ℕ → Type 0
IsFault text kind number =
    ((kind ≡ Memory) × (number ≡ 0))
    ⊎ FirstFault (lines_of text) kind number
    ⊎ ((said : List Line) × (kind ≡ Missing) × (number ≡ 0) × LinesSay [] (lines_of text) said × ((filter_map caller_in said ≡ []) ⊎ (filter_map need_in said ≡ [])))

-- a text has at most one answer
abbrev pub HasOneAnswer : Type 0
HasOneAnswer = (text answer other : List ℕ) → AnswersText text answer → AnswersText text other → answer ≡ other

-- a text has at most one fault beside want of memory
abbrev pub HasOneFault : Type 0
HasOneFault = (text : List ℕ) (kind other_kind : ExplainFaultKind) (number other_number : ℕ) → IsFault text kind number → IsFault text other_kind other_number
    → kind ≢ Memory → other_kind ≢ Memory → (kind ≡ other_kind) × (number ≡ other_number)

-- a text that has an answer has no fault but want of memory
abbrev pub AnswerExcludesFault : Type 0
AnswerExcludesFault = (text answer : List ℕ) (kind : ExplainFaultKind) (number : ℕ) → AnswersText text answer → IsFault text kind number → kind ≡ Memory

-- each text has an answer, or a fault other than want of memory
abbrev pub HasAnswerOrFault : Type 0
HasAnswerOrFault = (text : List ℕ) → ((answer : List ℕ) × AnswersText text answer) ⊎ ((kind : ExplainFaultKind) × (number : ℕ) × (kind ≢ Memory) × IsFault text kind number)
