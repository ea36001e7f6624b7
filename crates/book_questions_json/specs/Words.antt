-- The words of a fact in the text of an answer.
use Rattle.std.specs.Prelude.{ℕ, Bool, List, [], ◌∷◌, ◌++◌, codes, decimal, Option, Some, None}
use Rattle.std.specs.List.{flat_map}
use Rattle.book_rights.specs.Privileges.{leaf_name}
use Rattle.book_lists_explain.specs.Answers.{spaced}
use Rattle.book_lists_explain.specs.ShortNames.{short_list}
use Rattle.book_office_audit.specs.EntryLines.{entry_line}
use Rattle.book_office_values.specs.Paths.{path_text}
use Rattle.book_questions.specs.Lines.{decision_word, verdict_line}
use Rattle.book_questions.specs.Who.{caller_text}
use Rattle.book_questions_json.specs.Facts.{Decided, Fact, LeafFact, Standing, holder, need, verdict}

-- principals with ` in ` between them
abbrev pub joined : List ℕ → List (List ℕ) → List ℕ
joined p [] = p
joined p (q ∷ qs) = p ++ (codes " in " ++ joined q qs)

abbrev pub by_words : List (List ℕ) → List ℕ
by_words [] = []
by_words (p ∷ ps) = codes "  by " ++ (joined p ps ++ codes "\n")

abbrev pub standing_words : Option Standing → List ℕ
standing_words None = codes "\n"
standing_words (Some s) =
    codes ", " ++ (decimal s.number_there ++ (codes " at " ++ (path_text s.entry.path ++ (codes "\n" ++ (entry_line s.entry.protected s.entry.entry ++ by_words s.by)))))

abbrev pub decided_words : Bool → Option Decided → List ℕ
decided_words grant None = codes " denied, none granted\n"
decided_words grant (Some d) = decision_word grant ++ (decimal d.number ++ standing_words d.standing)

abbrev pub leaf_words : LeafFact → List ℕ
leaf_words fact = codes " " ++ (leaf_name fact.leaf ++ decided_words fact.grant fact.decided)

abbrev pub words : Fact → List ℕ
words (verdict denial) = verdict_line denial
words (need fact) = codes "need" ++ (flat_map spaced (short_list fact.set) ++ (codes " at " ++ (path_text fact.resource ++ (codes "\n" ++ flat_map leaf_words fact.leaves))))
words (holder fact) = caller_text fact.caller ++ (codes "\n" ++ flat_map leaf_words fact.leaves)
