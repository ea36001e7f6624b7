-- What is told where a command over a text was not done, and the status that ends the program (own profile).
use Rattle.std.specs.Prelude.{ℕ, List, codes}
use Rattle.book_desk_app.specs.declared.text_failures.InputFault.{InputFault}
use Rattle.book_desk_app.specs.declared.text_failures.InputFault.TheVariants as inputs
use Rattle.book_desk_app.specs.declared.text_failures.TextFailure.{TextFailure}
use Rattle.book_desk_app.specs.declared.text_failures.TextFailure.TheVariants.{Input, Output, Explain, Card}
use Rattle.book_lists_explain.specs.FaultTexts.{explain_fault_text}
use Rattle.book_lists_explain.specs.declared.faults.ExplainFaultKind.{ExplainFaultKind}
use Rattle.book_lists_explain.specs.declared.faults.ExplainFaultKind.TheVariants as explain_kinds
use Rattle.book_cards.specs.FaultTexts as cards
use Rattle.book_cards.specs.declared.fault.CardFaultKind.{CardFaultKind}
use Rattle.book_cards.specs.declared.fault.CardFaultKind.TheVariants as card_kinds

abbrev pub input_text : InputFault → List ℕ
input_text inputs.Read = codes "input: read"
input_text inputs.NotUtf8 = codes "input: not-utf-8"

abbrev pub failure_text : TextFailure → List ℕ
failure_text (Input fault) = input_text fault
failure_text Output = codes "output: write"
failure_text (Explain fault) = explain_fault_text fault
failure_text (Card fault) = cards.card_fault_text fault

-- 1 is refused input; 3 is memory, or a failed read or write
abbrev pub input_status : InputFault → ℕ
input_status inputs.Read = 3
input_status inputs.NotUtf8 = 1

abbrev pub explain_status : ExplainFaultKind → ℕ
explain_status explain_kinds.Memory = 3
explain_status _ = 1

abbrev pub card_status : CardFaultKind → ℕ
card_status card_kinds.Memory = 3
card_status _ = 1

abbrev pub failure_status : TextFailure → ℕ
failure_status (Input fault) = input_status fault
failure_status Output = 3
failure_status (Explain fault) = explain_status fault.kind
failure_status (Card fault) = card_status fault.kind
