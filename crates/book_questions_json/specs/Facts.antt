-- What the answers to `why` and `who` tell, fact by fact.
use Rattle.std.specs.Prelude.{ℕ, zero, suc, Bool, cond, not, List, [], ◌∷◌, ◌++◌, map, filter, slice_get, Option, Some, None, option_map}
use Rattle.book_rights.specs.declared.privileges.Leaf.{Leaf}
use Rattle.book_lists.specs.declared.circles.Caller.{Caller}
use Rattle.book_office.specs.declared.nodes.EffectiveEntry.{EffectiveEntry}
use Rattle.book_office_values.specs.declared.paths.Path.{Path}
use Rattle.book_office_listings.specs.declared.messages.DecidingEntry.{DecidingEntry}
use Rattle.book_office_listings.specs.declared.messages.Denial.{Denial}
use Rattle.book_office_listings.specs.declared.messages.Ruling.{Ruling}
use Rattle.book_questions.specs.Lines.{number_there}
use Rattle.book_questions.specs.Who.{is_denied}
use Rattle.book_questions.specs.Whys.{first_denial}
use Rattle.book_questions.specs.declared.holders.Holder.{Holder}
use Rattle.book_questions.specs.declared.whys.InForce.{InForce}
use Rattle.book_questions.specs.declared.whys.Why.{Why}
use Rattle.book_questions.specs.declared.whys.WhyNeed.{WhyNeed}
use Rattle.book_questions_chains.specs.Chains.{chain_by}
use Rattle.book_questions_chains.specs.declared.chains.Chain.{Chain}

-- an entry in full: its number where it stands, the entry with that place, and the principals by which it applies, from the caller up
-- to the one that it names; none where it applies by no group
pub record Standing : Type 0 where
  pub number_there : ℕ
  pub entry : EffectiveEntry
  pub by : List (List ℕ)

-- an entry that decides: its number in the list in force, and the entry in full, where the list has one with that number
pub record Decided : Type 0 where
  pub number : ℕ
  pub standing : Option Standing

-- a leaf, whether it is granted, and the entry that decides it, if one does
pub record LeafFact : Type 0 where
  pub leaf : Leaf
  pub grant : Bool
  pub decided : Option Decided

-- a need of a request: its leaves, its resource, and what decides each of the leaves
pub record NeedFact : Type 0 where
  pub set : Leaf → Bool
  pub resource : Path
  pub leaves : List LeafFact

-- a caller, and what decides each leaf for it
pub record HolderFact : Type 0 where
  pub caller : Caller
  pub leaves : List LeafFact

pub data Fact : Type 0 where
  verdict : Option Denial → Fact
  need : NeedFact → Fact
  holder : HolderFact → Fact

-- ---- what decides a leaf
-- the last of the members of a chain, and each before it up to the group
abbrev pub upward : List ℕ → List (List ℕ) → List (List ℕ)
upward group [] = group ∷ []
upward group (member ∷ members) = upward member members ++ group ∷ []

-- a chain without members is the caller itself
abbrev pub path_of : List ℕ → List (List ℕ) → List (List ℕ)
path_of group [] = []
path_of group (member ∷ members) = upward group (member ∷ members)

abbrev pub by_chain : Option Chain → List (List ℕ)
by_chain None = []
by_chain (Some chain) = path_of chain.group chain.members

module _ (force : InForce) (chains : List Chain) where
  abbrev pub standing_of : ℕ → EffectiveEntry → Standing
  standing_of i entry = record { number_there = number_there force.list i entry; entry = entry; by = by_chain (chain_by force.here chains entry.entry) }

  -- the entry with a number of the list in force, which counts from 1
  abbrev pub numbered : ℕ → Option Standing
  numbered zero = None
  numbered (suc i) = option_map (standing_of i) (slice_get force.list i)

  abbrev pub decided_of : DecidingEntry → Decided
  decided_of entry = record { number = entry.number; standing = numbered entry.number }

  abbrev pub leaf_fact : Ruling → LeafFact
  leaf_fact ruling = record { leaf = ruling.leaf; grant = ruling.grant; decided = option_map decided_of ruling.entry }

  -- the rulings on the leaves of a set
  abbrev pub leaf_facts : (Leaf → Bool) → List Ruling → List LeafFact
  leaf_facts set rulings = map leaf_fact (filter (λ (ruling : Ruling). set ruling.leaf) rulings)

-- ---- the answers
abbrev pub need_fact : List Chain → WhyNeed → Fact
need_fact chains why = need (record { set = why.set; resource = why.resource; leaves = leaf_facts why.force chains why.set why.rulings })

-- the verdict, and then each need
abbrev pub why_facts : Why → List Fact
why_facts why = verdict (first_denial why.needs) ∷ map (need_fact why.chains) why.needs

abbrev pub holder_fact : InForce → (Leaf → Bool) → Holder → Fact
holder_fact force set asked = holder (record { caller = asked.caller; leaves = leaf_facts force asked.chains set asked.rulings })

-- those to whom it is granted, or those to whom it is denied
abbrev pub is_told : Bool → (Leaf → Bool) → Holder → Bool
is_told denied set asked = cond denied (is_denied set asked) (not (is_denied set asked))

abbrev pub who_facts : Bool → InForce → (Leaf → Bool) → List Holder → List Fact
who_facts denied force set holders = map (holder_fact force set) (filter (is_told denied set) holders)
