-- An entry that applies since the caller belongs to a principal has its chain.
use Rattle.std.proofs.Common.{◌≡◌, ◌∙◌, List, Option, Some, None, ℕ, true, false, Bool, ap, refl, sym, subst, inl, inr, not, [], ◌∷◌}
use Rattle.std.specs.Prelude.{option_and_then, if◌then◌else◌}
use Rattle.std.proofs.lemmas.Bool.{false≢true}
use Rattle.book_lists.specs.Callers.{IsCircle}
use Rattle.book_lists.specs.Circles.{CircleOf, belongs}
use Rattle.book_lists.specs.Entries.{applies, belongs_to_any, form_applies}
use Rattle.book_lists.specs.Memberships.{Belongs, Memberships}
use Rattle.book_lists.specs.declared.circles.Caller.TheVariants.{Known}
use Rattle.book_lists.specs.declared.entries.Entry.{Entry}
use Rattle.book_lists.specs.declared.entries.Here.{Here}
use Rattle.book_lists.specs.declared.entries.Who.{Who}
use Rattle.book_lists.specs.declared.entries.Who.TheVariants.{Href, Everyone, Authenticated, Unauthenticated, Owner, Own}
use Rattle.book_questions_chains.specs.Chains.{AreChains, ChainsAreTold, IsShortest, asked_by, asked_of, chain_by, chain_to, has_chain}
use Rattle.book_questions_chains.specs.declared.chains.Chain.{Chain}
use Rattle.book_questions_chains.proofs.Climbs.{each_found, found}

-- a form that applies and asks for a principal does so since the caller belongs to it
belongs_there : (circle : CircleOf) (here : Here) (who : Who) (p : List ℕ) → form_applies who circle here ≡ true → asked_of who here ≡ Some p → belongs circle p ≡ true
belongs_there circle here (Href q) p holds e = let same : q ≡ p = cc in ap (belongs circle) (sym same) ∙ holds
belongs_there circle here Everyone p holds e = absurd cc
belongs_there circle here Authenticated p holds e = absurd cc
belongs_there circle here Unauthenticated p holds e = absurd cc
belongs_there circle here Owner p holds e = ap (belongs_to_any circle) (sym e) ∙ holds
belongs_there circle here Own p holds e = ap (belongs_to_any circle) (sym e) ∙ holds

met : (pairs : Memberships) (person p : List ℕ) (chains : List Chain) → AreChains pairs person chains → Belongs pairs person p → has_chain chains p ≡ true
met pairs person p chains are (inl same) = are.every p [] (sym same)
met pairs person p chains are (inr chain) = are.every p (chain.0 ∷ chain.1) chain.2

pub chains_told : ChainsAreTold
chains_told pairs person circle here chains entry p is_circle are holds asks = go entry.invert refl
  where
    go : (b : Bool) → entry.invert ≡ b → (chain : Chain) × (chain_by here chains entry ≡ Some chain) × (chain.group ≡ p) × IsShortest pairs person chain
    go true inverted = absurd (no_some (sym (ap (λ b. if b then None else asked_of entry.who here) inverted) ∙ asks))
      where
        no_some : None ≡ Some p → ⊥
        no_some e = cc
    go false plain =
        let form : asked_of entry.who here ≡ Some p = sym (ap (λ b. if b then None else asked_of entry.who here) plain) ∙ asks in
        let fits : form_applies entry.who circle here ≡ true = sym (ap (λ b. if b then not (form_applies entry.who circle here) else form_applies entry.who circle here) plain) ∙ holds in
        let inside = (is_circle.principals p).0 (belongs_there circle here entry.who p fits form) in
        let one = found p chains (met pairs person p chains are inside) in
        let is = each_found (IsShortest pairs person) p one.0 chains are.each one.1 in
        (one.0, ap (option_and_then (chain_to chains)) asks ∙ one.1, is.1, is.0)
