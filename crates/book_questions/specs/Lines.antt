-- Decisions as lines of text, with entries as an audit has them (own profile).
use Rattle.std.specs.Prelude.{ℕ, zero, suc, Bool, true, false, ◌&&◌, not, cond, List, [], ◌∷◌, ◌++◌, count_by, ◌+◌, take, slice_get, codes, decimal, Option, Some, None, if◌then◌else◌}
use Rattle.std.specs.List.{flat_map}
use Rattle.std.specs.Option.{option_map_or}
use Rattle.std.specs.Str.{bytes_eq}
use Rattle.book_rights.specs.Privileges.{leaf_name, name_of}
use Rattle.book_rights.specs.declared.privileges.Leaf.{Leaf}
use Rattle.book_lists_explain.specs.Answers.{spaced}
use Rattle.book_lists_explain.specs.ShortNames.{short_list}
use Rattle.book_office.specs.declared.nodes.EffectiveEntry.{EffectiveEntry}
use Rattle.book_office_values.specs.Paths.{path_text}
use Rattle.book_office_audit.specs.EntryLines.{entry_line}
use Rattle.book_office_listings.specs.declared.messages.DecidingEntry.{DecidingEntry}
use Rattle.book_office_listings.specs.declared.messages.Denial.{Denial}
use Rattle.book_office_listings.specs.declared.messages.Ruling.{Ruling}
use Rattle.book_questions.specs.Whys.{first_denial}
use Rattle.book_questions.specs.declared.whys.InForce.{InForce}
use Rattle.book_questions.specs.declared.whys.Why.{Why}
use Rattle.book_questions.specs.declared.whys.WhyNeed.{WhyNeed}
use Rattle.book_questions_chains.specs.Chains.{by_line}
use Rattle.book_questions_chains.specs.declared.chains.Chain.{Chain}

-- an entry of an effective list stands in the protected list, or in the own one, of the place with this text
abbrev pub stands_in : List ℕ → Bool → EffectiveEntry → Bool
stands_in place is_protected entry = cond is_protected entry.protected (not entry.protected) && bytes_eq place (path_text entry.path)

-- the number of the entry at an index in the list where it stands, from 1
abbrev pub number_there : List EffectiveEntry → ℕ → EffectiveEntry → ℕ
number_there list i entry = count_by (stands_in (path_text entry.path) entry.protected) (take i list) + 1

-- the entry at an index: its number where it stands, that resource, the entry as an audit has it, and the chain of groups by which
-- it applies
abbrev pub standing_lines : InForce → List Chain → ℕ → EffectiveEntry → List ℕ
standing_lines force chains i entry =
    codes ", " ++ (decimal (number_there force.list i entry) ++ (codes " at " ++ (path_text entry.path ++ (codes "\n"
    ++ (entry_line entry.protected entry.entry ++ by_line force.here chains entry.entry)))))

-- the entry with a number of the effective list, which counts from 1
abbrev pub numbered_lines : InForce → List Chain → ℕ → List ℕ
numbered_lines force chains zero = codes "\n"
numbered_lines force chains (suc i) = option_map_or (standing_lines force chains i) (slice_get force.list i) (codes "\n")

abbrev pub decision_word : Bool → List ℕ
decision_word true = codes " granted by "
decision_word false = codes " denied by "

abbrev pub decided_lines : InForce → List Chain → Bool → Option DecidingEntry → List ℕ
decided_lines force chains grant None = codes " denied, none granted\n"
decided_lines force chains grant (Some entry) = decision_word grant ++ (decimal entry.number ++ numbered_lines force chains entry.number)

-- what decides a leaf: the number of the entry in the list in force, and the entry in full; or that none does
abbrev pub ruling_lines : InForce → List Chain → Ruling → List ℕ
ruling_lines force chains ruling = codes " " ++ (leaf_name ruling.leaf ++ decided_lines force chains ruling.grant ruling.entry)

-- the rulings on the leaves of a set
abbrev pub ruled_lines : InForce → List Chain → (Leaf → Bool) → Ruling → List ℕ
ruled_lines force chains set ruling = if set ruling.leaf then ruling_lines force chains ruling else []

abbrev pub set_lines : InForce → List Chain → (Leaf → Bool) → List Ruling → List ℕ
set_lines force chains set rulings = flat_map (ruled_lines force chains set) rulings

-- a need: its leaves by their short names, its resource, and what decides each leaf
abbrev pub need_lines : List Chain → WhyNeed → List ℕ
need_lines chains why =
    codes "need" ++ (flat_map spaced (short_list why.set) ++ (codes " at " ++ (path_text why.resource ++ (codes "\n" ++ set_lines why.force chains why.set why.rulings))))

-- the verdict: the privilege, the resource and the entry are those that a refused request is told
abbrev pub by_text : Option DecidingEntry → List ℕ
by_text None = codes ", none granted\n"
by_text (Some entry) = codes " by " ++ (decimal entry.number ++ codes "\n")

abbrev pub verdict_line : Option Denial → List ℕ
verdict_line None = codes "granted\n"
verdict_line (Some denial) = codes "denied " ++ (name_of denial.privilege ++ (codes " at " ++ (path_text denial.resource ++ by_text denial.entry)))

-- the verdict, and then each need
abbrev pub why_text : Why → List ℕ
why_text why = verdict_line (first_denial why.needs) ++ flat_map (need_lines why.chains) why.needs
