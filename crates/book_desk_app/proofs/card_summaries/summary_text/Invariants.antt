use Rattle.book_desk_app.proofs.Common.{◌≡◌, ◌++◌, string_bytes}
use Rattle.std.proofs.Common.{codes}
use Rattle.std.specs.List.{flat_map}
use Rattle.book_cards.specs.Views.{members_left}
use Rattle.book_desk_app.specs.CardSummaries.{summary_line, summary_text}
use Rattle.book_desk_app.proofs.card_summaries.summary_text.Given as goal

-- the text lacks the lines of the members that are to come
abbrev pub invariant-loop-member : goal.invariant-loop-member
invariant-loop-member l = string_bytes l.text ++ flat_map (summary_line (codes "member")) (members_left l.member-iterator) ≡ summary_text l.card
