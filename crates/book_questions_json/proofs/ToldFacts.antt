-- The text of an answer has the words of its facts.
use Rattle.book_questions_json.proofs.Common.{◌≡◌, ◌++◌, ◌∷◌, ◌∙◌, [], ℕ, zero, suc, Bool, true, false, cond, List, Option, Some, None, codes, decimal, ap, filter, flat_map, map, option_map, refl, subst, sym, Chain, Holder, InForce, Leaf, Ruling, WhyNeed, short_list}
use Rattle.std.proofs.Common.{slice_get}
use Rattle.std.proofs.lemmas.List.{append_assoc}
use Rattle.std.specs.Option.{option_map_or}
use Rattle.std.specs.Prelude.{if◌then◌else◌}
use Rattle.book_rights.specs.Privileges.{leaf_name}
use Rattle.book_lists_explain.specs.Answers.{spaced}
use Rattle.book_office.specs.declared.nodes.EffectiveEntry.{EffectiveEntry}
use Rattle.book_office_audit.specs.EntryLines.{entry_line}
use Rattle.book_office_listings.specs.declared.messages.DecidingEntry.{DecidingEntry}
use Rattle.book_office_values.specs.Paths.{path_text}
use Rattle.book_questions.specs.Lines.{decided_lines, decision_word, need_lines, number_there, numbered_lines, ruling_lines, set_lines, standing_lines, verdict_line}
use Rattle.book_questions.specs.Who.{caller_text, holder_lines, who_text}
use Rattle.book_questions.specs.Whys.{first_denial}
use Rattle.book_questions_chains.specs.Chains.{chain_by, chain_line, chain_text}
use Rattle.book_questions_json.specs.Facts.{by_chain, decided_of, holder_fact, is_told, leaf_fact, leaf_facts, need_fact, numbered, standing_of, upward, who_facts}
use Rattle.book_questions_json.specs.Laws.{TextsTellTheFacts}
use Rattle.book_questions_json.specs.Words.{by_words, decided_words, joined, leaf_words, standing_words, words}

-- ---- chains
joined_end : (p : List ℕ) (ps : List (List ℕ)) (group : List ℕ) → joined p (ps ++ group ∷ []) ≡ joined p ps ++ (codes " in " ++ group)
joined_end p [] group = refl
joined_end p (q ∷ qs) group =
    ap (λ r. p ++ (codes " in " ++ r)) (joined_end q qs group)
    ∙ sym (append_assoc p (codes " in " ++ joined q qs) (codes " in " ++ group))

-- the words of some principals
abbrev list_words : List (List ℕ) → List ℕ
list_words [] = []
list_words (p ∷ ps) = joined p ps

abbrev IsSome : List (List ℕ) → Type 0
IsSome xs = (p : List ℕ) × (ps : List (List ℕ)) × (xs ≡ p ∷ ps)

upward_some : (group : List ℕ) (members : List (List ℕ)) → IsSome (upward group members)
upward_some group [] = (group, [], refl)
upward_some group (member ∷ members) =
    let rest = upward_some member members in
    (rest.0, rest.1 ++ group ∷ [], ap (λ xs. xs ++ group ∷ []) rest.2)

list_end : (xs : List (List ℕ)) (group : List ℕ) → IsSome xs → list_words (xs ++ group ∷ []) ≡ list_words xs ++ (codes " in " ++ group)
list_end xs group some = subst (λ ys. list_words (ys ++ group ∷ []) ≡ list_words ys ++ (codes " in " ++ group)) (sym some.2) (joined_end some.0 some.1 group)

chain_words : (group : List ℕ) (members : List (List ℕ)) → chain_text group members ≡ list_words (upward group members)
chain_words group [] = refl
chain_words group (member ∷ members) =
    ap (λ r. r ++ (codes " in " ++ group)) (chain_words member members)
    ∙ sym (list_end (upward member members) group (upward_some member members))

by_list : (xs : List (List ℕ)) → IsSome xs → codes "  by " ++ (list_words xs ++ codes "\n") ≡ by_words xs
by_list xs some = subst (λ ys. codes "  by " ++ (list_words ys ++ codes "\n") ≡ by_words ys) (sym some.2) refl

members_told : (group : List ℕ) (members : List (List ℕ)) → chain_line (record { group = group; members = members }) ≡ by_words (by_chain (Some (record { group = group; members = members })))
members_told group [] = refl
members_told group (member ∷ members) =
    ap (λ r. codes "  by " ++ (r ++ codes "\n")) (chain_words group (member ∷ members))
    ∙ by_list (upward group (member ∷ members)) (upward_some group (member ∷ members))

by_told : (chain : Option Chain) → option_map_or chain_line chain [] ≡ by_words (by_chain chain)
by_told None = refl
by_told (Some chain) = members_told chain.group chain.members

-- ---- what decides a leaf
module _ (force : InForce) (chains : List Chain) where
  standing_told : (i : ℕ) (found : Option EffectiveEntry) → option_map_or (standing_lines force chains i) found (codes "\n") ≡ standing_words (option_map (standing_of force chains i) found)
  standing_told i None = refl
  standing_told i (Some e) =
      ap (λ r. codes ", " ++ (decimal (number_there force.list i e) ++ (codes " at " ++ (path_text e.path ++ (codes "\n" ++ (entry_line e.protected e.entry ++ r))))))
      (by_told (chain_by force.here chains e.entry))

  numbered_told : (n : ℕ) → numbered_lines force chains n ≡ standing_words (numbered force chains n)
  numbered_told zero = refl
  numbered_told (suc i) = standing_told i (slice_get force.list i)

  decided_told : (grant : Bool) (entry : Option DecidingEntry) → decided_lines force chains grant entry ≡ decided_words grant (option_map (decided_of force chains) entry)
  decided_told grant None = refl
  decided_told grant (Some e) = ap (λ r. decision_word grant ++ (decimal e.number ++ r)) (numbered_told e.number)

  ruling_told : (ruling : Ruling) → ruling_lines force chains ruling ≡ leaf_words (leaf_fact force chains ruling)
  ruling_told ruling = ap (λ r. codes " " ++ (leaf_name ruling.leaf ++ r)) (decided_told ruling.grant ruling.entry)

  leaves_told : (set : Leaf → Bool) (rulings : List Ruling) → set_lines force chains set rulings ≡ flat_map leaf_words (leaf_facts force chains set rulings)
  leaves_told set [] = refl
  leaves_told set (ruling ∷ rulings) =
      elim (set ruling.leaf) as (λ b. (if b then ruling_lines force chains ruling else []) ++ set_lines force chains set rulings
      ≡ flat_map leaf_words (map (leaf_fact force chains) (cond b (ruling ∷ filter (λ (r : Ruling). set r.leaf) rulings) (filter (λ (r : Ruling). set r.leaf) rulings)))) [
        | true ↦ λ i. ruling_told ruling i ++ leaves_told set rulings i
        | false ↦ leaves_told set rulings
      ]

-- ---- the answers
need_told : (chains : List Chain) (why : WhyNeed) → need_lines chains why ≡ words (need_fact chains why)
need_told chains why =
    ap (λ r. codes "need" ++ (flat_map spaced (short_list why.set) ++ (codes " at " ++ (path_text why.resource ++ (codes "\n" ++ r))))) (leaves_told why.force chains why.set why.rulings)

needs_told : (chains : List Chain) (whys : List WhyNeed) → flat_map (need_lines chains) whys ≡ flat_map words (map (need_fact chains) whys)
needs_told chains [] = refl
needs_told chains (why ∷ whys) = λ i. need_told chains why i ++ needs_told chains whys i

module _ (denied : Bool) (force : InForce) (set : Leaf → Bool) where
  holder_told : (asked : Holder) → holder_lines force set asked ≡ words (holder_fact force set asked)
  holder_told asked = ap (λ r. caller_text asked.caller ++ (codes "\n" ++ r)) (leaves_told force asked.chains set asked.rulings)

  holders_told : (holders : List Holder) → who_text denied force set holders ≡ flat_map words (who_facts denied force set holders)
  holders_told [] = refl
  holders_told (asked ∷ holders) =
      elim (is_told denied set asked) as (λ b. (if b then holder_lines force set asked else []) ++ who_text denied force set holders
      ≡ flat_map words (map (holder_fact force set) (cond b (asked ∷ filter (is_told denied set) holders) (filter (is_told denied set) holders)))) [
        | true ↦ λ i. holder_told asked i ++ holders_told holders i
        | false ↦ holders_told holders
      ]

pub facts_told : TextsTellTheFacts
facts_told = (λ why. ap (λ r. verdict_line (first_denial why.needs) ++ r) (needs_told why.chains why.needs), λ denied force set holders. holders_told denied force set holders)
