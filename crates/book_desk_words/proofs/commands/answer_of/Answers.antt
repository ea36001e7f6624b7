use Rattle.std.proofs.Common.{refl, sym, ◌∙◌, inl, inr}
use Rattle.book_desk_words.proofs.commands.answer_of.Goals as goal

pub returns-in_ok-format-in-DisplayHelp-clause-asked : goal.returns-in_ok-format-in-DisplayHelp-clause-asked
returns-in_ok-format-in-DisplayHelp-clause-asked c = inl (c.in_ok-format-in-DisplayHelp.field-0, refl, sym c.kind.ensures ∙ c.in-DisplayHelp.is)

pub returns-in_ok-format-in-DisplayVersion-clause-asked : goal.returns-in_ok-format-in-DisplayVersion-clause-asked
returns-in_ok-format-in-DisplayVersion-clause-asked c = inr (c.in_ok-format-in-DisplayVersion.field-0, refl, sym c.kind.ensures ∙ c.in-DisplayVersion.is)
