-- Who is granted a set of leaves at a resource, and by which entries (RFC 3744, section 6; that it is told is own profile).
use Rattle.std.specs.Prelude.{◌≡◌, ◌⊎◌, ◌↔◌, ℕ, Bool, true, false, List, [], ◌∷◌, ◌++◌, map, codes, is_some, not, cond, Option, Some, None, Result, Ok, Err, if◌then◌else◌}
use Rattle.std.specs.List.{AllZip, flat_map}
use Rattle.book_rights.specs.Privileges.{contained}
use Rattle.book_rights.specs.declared.privileges.Leaf.{Leaf}
use Rattle.book_rights.specs.declared.privileges.Privilege.{Privilege}
use Rattle.book_lists.specs.Callers.{IsCircle}
use Rattle.book_lists.specs.Circles.{CircleOf}
use Rattle.book_lists.specs.Memberships.{Memberships}
use Rattle.book_lists.specs.Principals.{person_path}
use Rattle.book_lists.specs.declared.circles.Caller.{Caller}
use Rattle.book_lists.specs.declared.circles.Caller.TheVariants.{Nobody, Known}
use Rattle.book_lists.specs.declared.entries.Here.{Here}
use Rattle.book_office.specs.Levels.{effective_at}
use Rattle.book_office.specs.Resources.{children_at}
use Rattle.book_office.specs.declared.nodes.EffectiveEntry.{EffectiveEntry}
use Rattle.book_office.specs.declared.nodes.Listed.{Listed}
use Rattle.book_office_values.specs.declared.offices.Office.{Office}
use Rattle.book_office_values.specs.declared.paths.Path.{Path}
use Rattle.book_office_values.specs.declared.paths.Path.TheVariants as path
use Rattle.book_office_listings.specs.Rulings.{AreRulings}
use Rattle.book_office_listings.specs.Verdicts.{here_of, IsGrantedAt}
use Rattle.book_machine.specs.declared.refusals.Refusal.{Refusal}
use Rattle.book_machine.specs.declared.refusals.Refusal.TheVariants.{Unavailable}
use Rattle.book_machine.specs.Needing.{mapped_at}
use Rattle.book_questions.specs.Lines.{set_lines}
use Rattle.book_questions.specs.RulingVerdicts.{earliest, ungranted}
use Rattle.book_questions.specs.declared.holders.Holder.{Holder}
use Rattle.book_questions.specs.declared.whys.InForce.{InForce}
use Rattle.book_questions.specs.Whys.{IsInForce}
use Rattle.book_questions_chains.specs.Chains.{AreChainsOf}

-- the callers that there are: nobody, and each person in byte order of the names
abbrev pub known_caller : Listed → Caller
known_caller person = Known (person_path person.name)

abbrev pub callers_of : Office → List Caller
callers_of o = Nobody ∷ map known_caller (children_at o path.People)

module _ (pairs listed : Memberships) (list : List EffectiveEntry) (here : Here) where
  -- one of them, with the rulings on every leaf by a list, for the principals to which the caller belongs, and a shortest chain to
  -- each of these by the listed memberships
  pub record IsHolder (caller : Caller) (holder : Holder) : Type 0 where
    pub caller_is : holder.caller ≡ caller
    pub circle : CircleOf
    pub is_circle : IsCircle pairs caller circle
    pub rulings : AreRulings list circle here holder.rulings
    pub chains : AreChainsOf listed caller holder.chains

  abbrev pub AreHolders : List Caller → List Holder → Type 0
  AreHolders callers holders = AllZip IsHolder callers holders

-- every caller is asked about at a resource, in order
abbrev pub AreAsked : Office → Path → List Holder → Type 0
AreAsked o p holders = AreHolders o.pairs o.pairs (effective_at o p) (here_of o p) (callers_of o) holders

-- a leaf of the set is not granted to it
abbrev pub is_denied : (Leaf → Bool) → Holder → Bool
is_denied set holder = is_some (earliest None (ungranted set holder.rulings))

-- a caller is one to whom the set is granted exactly where the decision grants it
abbrev pub WhoIsExact : Type 0
WhoIsExact = (o : Office) (p : Path) (set : Leaf → Bool) (caller : Caller) (holder : Holder) → IsHolder o.pairs o.pairs (effective_at o p) (here_of o p) caller holder
    → (circle : CircleOf) → IsCircle o.pairs caller circle → (is_denied set holder ≡ false) ↔ IsGrantedAt o circle p set

-- ---- the text: the path of a person, or `nobody`, and below it what decides each leaf
abbrev pub caller_text : Caller → List ℕ
caller_text Nobody = codes "nobody"
caller_text (Known person) = person

abbrev pub holder_lines : InForce → (Leaf → Bool) → Holder → List ℕ
holder_lines force set holder = caller_text holder.caller ++ (codes "\n" ++ set_lines force holder.chains set holder.rulings)

-- those to whom it is granted, or those to whom it is denied
abbrev pub told_lines : Bool → InForce → (Leaf → Bool) → Holder → List ℕ
told_lines denied force set holder = if cond denied (is_denied set holder) (not (is_denied set holder)) then holder_lines force set holder else []

abbrev pub who_text : Bool → InForce → (Leaf → Bool) → List Holder → List ℕ
who_text denied force set holders = flat_map (told_lines denied force set) holders

abbrev pub IsWhoText : Office → Bool → Path → (Leaf → Bool) → List ℕ → Type 0
IsWhoText o denied p set text = (holders : List Holder) × (force : InForce) × AreAsked o p holders × IsInForce o p force × (text ≡ who_text denied force set holders)

-- the answer: the text, or that nothing is mapped at the path, or want of memory or a failed store
abbrev pub TellsWho : Office → Bool → Privilege → Option Path → Result (List ℕ) Refusal → Type 0
TellsWho o denied privilege p (Ok text) = (at : Path) × (mapped_at o p ≡ Ok at) × IsWhoText o denied at (contained privilege) text
TellsWho o denied privilege p (Err e) = (e ≡ Unavailable) ⊎ (mapped_at o p ≡ Err e)
