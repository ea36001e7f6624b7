-- The answers as objects.
use Rattle.std.specs.Prelude.{◌≡◌, ◌⊎◌, ℕ, Bool, List, Option, Result, Ok, Err}
use Rattle.book_rights.specs.Privileges.{contained}
use Rattle.book_rights.specs.declared.privileges.Leaf.{Leaf}
use Rattle.book_rights.specs.declared.privileges.Privilege.{Privilege}
use Rattle.book_machine.specs.Needing.{mapped_at}
use Rattle.book_machine.specs.declared.needing.Needed.{Needed}
use Rattle.book_machine.specs.declared.refusals.Refusal.{Refusal}
use Rattle.book_machine.specs.declared.refusals.Refusal.TheVariants.{Unavailable}
use Rattle.book_office_values.specs.declared.offices.Office.{Office}
use Rattle.book_office_values.specs.declared.paths.Path.{Path}
use Rattle.book_questions.specs.Questions.{needed_for}
use Rattle.book_questions.specs.Who.{AreAsked}
use Rattle.book_questions.specs.Whys.{IsInForce, IsWhy}
use Rattle.book_questions.specs.declared.holders.Holder.{Holder}
use Rattle.book_questions.specs.declared.questions.Question.{Question}
use Rattle.book_questions.specs.declared.whys.InForce.{InForce}
use Rattle.book_questions.specs.declared.whys.Why.{Why}
use Rattle.book_questions_json.specs.Facts.{who_facts, why_facts}
use Rattle.book_questions_json.specs.Objects.{objects_text}

-- the objects of what is told of a question
abbrev pub AreWhyObjects : Office → Needed → List ℕ → Type 0
AreWhyObjects o needed text = (why : Why) × IsWhy o needed why × (text ≡ objects_text (why_facts why))

-- the answer to a question: the objects, or the refusal of a stage before the verdict, or want of memory or a failed store
abbrev pub TellsWhyObjects : Office → Option (List ℕ) → Question → Result (List ℕ) Refusal → Type 0
TellsWhyObjects o name question (Ok text) = (needed : Needed) × (needed_for o name question ≡ Ok needed) × AreWhyObjects o needed text
TellsWhyObjects o name question (Err e) = (e ≡ Unavailable) ⊎ (needed_for o name question ≡ Err e)

-- the objects of those to whom leaves are granted at a path, or of the others
abbrev pub AreWhoObjects : Office → Bool → Path → (Leaf → Bool) → List ℕ → Type 0
AreWhoObjects o denied p set text = (holders : List Holder) × (force : InForce) × AreAsked o p holders × IsInForce o p force × (text ≡ objects_text (who_facts denied force set holders))

-- the answer: the objects, or that nothing is mapped at the path, or want of memory or a failed store
abbrev pub TellsWhoObjects : Office → Bool → Privilege → Option Path → Result (List ℕ) Refusal → Type 0
TellsWhoObjects o denied privilege p (Ok text) = (at : Path) × (mapped_at o p ≡ Ok at) × AreWhoObjects o denied at (contained privilege) text
TellsWhoObjects o denied privilege p (Err e) = (e ≡ Unavailable) ⊎ (mapped_at o p ≡ Err e)
