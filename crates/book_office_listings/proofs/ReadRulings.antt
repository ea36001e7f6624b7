-- The rulings by what was read.
use Rattle.book_office_listings.proofs.Common.{◌≡◌, ℕ, List, is_some, Option, Some, None, option_map, refl, sym, ap, ◌∙◌, subst, CircleOf, Here, here_of, effective_at, effective_of, Resource, resource_at, EffectiveEntry, Level, Office, Path}
use Rattle.std.proofs.Common.{option_and_then}
use Rattle.book_office_listings.specs.Verdicts.{principal_of}
use Rattle.book_office.specs.Levels.{lists_at}
use Rattle.book_office.specs.Resources.{node_at, node_of}
use Rattle.book_office.specs.declared.nodes.Lists.{Lists as Lists'}
use Rattle.book_office.specs.declared.nodes.Node.{Node}
use Rattle.book_office_listings.specs.Rulings.{AreRulings, AreRulingsAt}
use Rattle.book_office_listings.specs.declared.messages.Ruling.{Ruling}

pub rulings_read : (o : Office) (circle : CircleOf) (p : Path) (node : Node) (found : Option Node) (lists : Lists') (slice : List Level) (principal : Option (List ℕ)) (rulings : List Ruling)
    → found ≡ node_at o p → found ≡ Some node → lists ≡ lists_at o p → slice ≡ lists.levels → principal ≡ principal_of p
    → AreRulings (effective_of slice) circle (record { owner = node.owner; principal = principal }) rulings → AreRulingsAt o circle p (Some rulings)
rulings_read o circle p node found lists slice principal rulings found_is some lists_is slice_is principal_is are = go (resource_at o p) refl
  where
    H : Here
    H = record { owner = node.owner; principal = principal }

    go : (there : Option Resource) → resource_at o p ≡ there → AreRulingsAt o circle p (Some rulings)
    go None e = let clash : Some node ≡ None = sym some ∙ found_is ∙ ap (option_map node_of) e in absurd cc
    go (Some r) e =
        let both : Some node ≡ Some (node_of r) = sym some ∙ found_is ∙ ap (option_map node_of) e in
        let same : node ≡ node_of r = cc in
        let here : H ≡ here_of o p = λ i. record {
          owner = (ap (λ (n : Node). n.owner) same ∙ ap (option_and_then (λ (r : Resource). r.owner)) (sym e)) i;
          principal = principal_is i;
        } in
        let list : effective_of slice ≡ effective_at o p = ap effective_of (slice_is ∙ ap (λ (l : Lists'). l.levels) lists_is) in (
          ap is_some e,
          subst (λ (h : Here). AreRulings (effective_at o p) circle h rulings) here (subst (λ (l : List EffectiveEntry). AreRulings l circle H rulings) list are),
        )
