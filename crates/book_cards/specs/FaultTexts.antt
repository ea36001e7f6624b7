-- The printed names and texts of the faults of a card (own profile).
use Rattle.std.specs.Prelude.{ℕ, List, ◌++◌, codes, decimal}
use Rattle.book_cards.specs.declared.fault.CardFault.{CardFault}
use Rattle.book_cards.specs.declared.fault.CardFaultKind.{CardFaultKind}
use Rattle.book_cards.specs.declared.fault.CardFaultKind.TheVariants.{NoBegin, NoVersion, OtherVersion, BadLine, NoFormattedName, Twice, MemberWithoutGroup, NoEnd, AfterEnd, TooLong, Memory}

abbrev pub card_fault_name : CardFaultKind → List ℕ
card_fault_name NoBegin = codes "no-begin"
card_fault_name NoVersion = codes "no-version"
card_fault_name OtherVersion = codes "other-version"
card_fault_name BadLine = codes "bad-line"
card_fault_name NoFormattedName = codes "no-fn"
card_fault_name Twice = codes "twice"
card_fault_name MemberWithoutGroup = codes "member-without-group"
card_fault_name NoEnd = codes "no-end"
card_fault_name AfterEnd = codes "after-end"
card_fault_name TooLong = codes "too-long"
card_fault_name Memory = codes "memory"

abbrev pub card_fault_text : CardFault → List ℕ
card_fault_text fault = codes "line " ++ (decimal fault.line ++ (codes ": " ++ card_fault_name fault.kind))
