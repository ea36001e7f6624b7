-- A principal is there exactly where its path is mapped.
use Rattle.book_machine.proofs.Common.{◌≡◌, ◌≢◌, ◌↔◌, inl, inr, ℕ, List, IsTrue, Option, Some, None, is_some, option_map, refl, sym, ap, subst, get, person_path, group_path, node_of, node_at, properties_resource, IsMapped, Office, Properties, Kind, Path}
use Rattle.std.proofs.Common.{drop, get_or}
use Rattle.std.proofs.lemmas.Bool.{eqb-false}
use Rattle.book_office_values.specs.declared.paths.Kind.TheVariants as kind
use Rattle.book_office_values.specs.declared.paths.Path.TheVariants as path
use Rattle.book_office_listings.specs.Verdicts.{principal_of}

same_person : (n m : List ℕ) → person_path n ≡ person_path m → n ≡ m
same_person n m e = ap (drop 8) e

same_group : (n m : List ℕ) → group_path n ≡ group_path m → n ≡ m
same_group n m e = ap (drop 8) e

apart : (n m : List ℕ) → person_path n ≡ group_path m → ⊥
apart n m e = eqb-false (get_or (person_path n) 1 0) (get_or (group_path m) 1 0) refl (ap (λ t. get_or t 1 0) e)

-- what is kept of a person or group that is there
mapped_where : (k : Kind) (found : Option Properties) → IsTrue (is_some (option_map node_of (option_map (properties_resource k 0) found))) ↔ (found ≢ None)
mapped_where k None = (λ there. absurd cc, λ there. absurd (there refl))
mapped_where k (Some x) = (λ there e. absurd cc, λ there. refl)

pub mapped_principal : (o : Office) (p : Path) (principal : List ℕ) → principal_of p ≡ Some principal → IsTrue (is_some (node_at o p)) ↔ IsMapped o principal
mapped_principal o path.Root principal e = absurd cc
mapped_principal o path.People principal e = absurd cc
mapped_principal o path.Groups principal e = absurd cc
mapped_principal o path.Books principal e = absurd cc
mapped_principal o (path.Book b) principal e = absurd cc
mapped_principal o (path.Card b c) principal e = absurd cc
mapped_principal o (path.Person n) principal e =
    let is : person_path n ≡ principal = cc e in
    let kept = mapped_where kind.Person (get o.persons n) in
    subst (λ q. IsTrue (is_some (node_at o (path.Person n))) ↔ IsMapped o q) is (
      λ there. inl (n, refl, kept.0 there),
      λ mapped. elim mapped [
        | inl person ↦ kept.1 (subst (λ m. get o.persons m ≢ None) (sym (same_person n person.0 person.1)) person.2)
        | inr group ↦ absurd (apart n group.0 group.1)
      ],
    )
mapped_principal o (path.Group n) principal e =
    let is : group_path n ≡ principal = cc e in
    let kept = mapped_where kind.Group (get o.groups n) in
    subst (λ q. IsTrue (is_some (node_at o (path.Group n))) ↔ IsMapped o q) is (
      λ there. inr (n, refl, kept.0 there),
      λ mapped. elim mapped [
        | inl person ↦ absurd (apart person.0 n (sym person.1))
        | inr group ↦ kept.1 (subst (λ m. get o.groups m ≢ None) (sym (same_group n group.0 group.1)) group.2)
      ],
    )
