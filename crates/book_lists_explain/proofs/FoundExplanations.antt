-- Each text has an answer or a fault.
use Rattle.book_lists_explain.proofs.Common.{◌≡◌, ◌≢◌, ◌⊎◌, ◌+◌, [], ℕ, List, inl, inr, refl, length, filter_map, ExplainFaultKind, Line, LinesSay, lines_of, member_in, set_of}
use Rattle.book_lists_explain.specs.declared.faults.ExplainFaultKind.TheVariants.{Memory, Missing}
use Rattle.book_lists_explain.specs.Explanations.{AnswersText, HasAnswerOrFault, IsFault}
use Rattle.book_lists_explain.specs.Questions.{caller_in, entry_in, here_of, need_in}
use Rattle.book_lists_explain.proofs.FoundAnswers.{answer_of}
use Rattle.book_lists_explain.proofs.FoundReadings.{FaultAfter, fault_told, lines_told, one_caller, one_need}

module _ (text : List ℕ) where
  abbrev Explained : Type 0
  Explained = ((answer : List ℕ) × AnswersText text answer) ⊎ ((kind : ExplainFaultKind) × (number : ℕ) × (kind ≢ Memory) × IsFault text kind number)

  faulty : FaultAfter [] (lines_of text) → Explained
  faulty f = inr (
    f.kind,
    length f.front + 1,
    fault_told f.said f.line f.kind f.fault,
    inr (inl (record {
      before = f.front;
      line = f.line;
      after = f.after;
      said = f.said;
      there = f.there;
      faultless = f.faultless;
      fault = f.fault;
      numbered = refl;
    })),
  )

  module _ (said : List Line) (read : LinesSay [] (lines_of text) said) where
    missing : (filter_map caller_in said ≡ []) ⊎ (filter_map need_in said ≡ []) → Explained
    missing what = inr (Missing, 0, (λ e. absurd cc), inr (inr (said, refl, refl, read, what)))

    read_whole : Explained
    read_whole = elim (one_caller (lines_of text) said read) [
      | inl none ↦ missing (inl none)
      | inr caller ↦ elim (one_need (lines_of text) said read) [
        | inl none ↦ missing (inr none)
        | inr need ↦
            let told = answer_of (set_of (filter_map member_in said)) caller.0 need.0 (here_of said) (filter_map entry_in said) in
            inl (
              told.0,
              record { said = said; caller = caller.0; need = need.0; faultless = read; asks = caller.1; needs = need.1; answers = told.1 },
            )
      ]
    ]

pub explanation_of : HasAnswerOrFault
explanation_of text = elim (lines_told [] (lines_of text)) [
  | inl said ↦ read_whole text said.0 said.1
  | inr fault ↦ faulty text fault
]
