-- The listing that is read, and the listing of the definition.
use Rattle.book_office_listings.proofs.Common.{◌≡◌, ℕ, List, [], ◌∷◌, map, Option, Some, None, option_map, refl, sym, ap, ◌∙◌, subst, AllZip, CircleOf, Office, Path, effective_at, effective_of, Resource, resource_at, IsResponse, IsResponseTo, listed_paths, subject_of, IsChildResponse, Extent, Children, Find, Response, Whole}
use Rattle.std.proofs.Common.{inl, inr, option_and_then, unwrap_or}
use Rattle.std.specs.FinMap.{get, entries}
use Rattle.std.specs.Cmp.Lexicographic.{nat_list_cmp_total}
use Rattle.book_office_values.specs.Paths.{levels}
use Rattle.book_office_values.specs.declared.offices.Book.{Book}
use Rattle.book_office_values.specs.declared.paths.Kind.TheVariants as kind
use Rattle.book_office_values.specs.declared.paths.Path.TheVariants as path
use Rattle.book_office_values.proofs.Members.{Mem, mem_get}
use Rattle.book_office_values.proofs.NameMapLaws.{names_apart}
use Rattle.book_office_values.proofs.Spelling.{go_up}
use Rattle.book_office.specs.Levels.{level_at, lists_at}
use Rattle.book_office.specs.Resources.{node_at, node_of, as_listed, children_at, properties_resource, book_resource, card_resource, number_of, card_in, listed_cards}
use Rattle.book_office.specs.declared.nodes.Listed.{Listed}
use Rattle.book_office.specs.declared.nodes.Node.{Node}
use Rattle.book_office_listings.specs.Listings.{child_path, subject_at}
use Rattle.book_office_listings.specs.Reading.{AreRead, child_level, child_subject, children_for, node_subject}
use Rattle.book_office_listings.specs.Verdicts.{owner_at, principal_of}
use Rattle.book_office_listings.specs.declared.messages.Extent.TheVariants.{Resource as Alone}

-- ---- each child that is listed is there
abbrev AllOf : {A : Type 0} → (A → Type 0) → List A → Type 0
AllOf P [] = Unit {0}
AllOf P (x ∷ xs) = P x × AllOf P xs

record IsChildAt (o : Office) (p : Path) (child : Listed) : Type 0 where
  resource : Resource
  there : resource_at o (child_path p child.name) ≡ Some resource
  is : child ≡ as_listed child.name resource
  above : levels (child_path p child.name) ≡ child_path p child.name ∷ levels p

all_entries : {V : Type 0} (f : List ℕ × V → Listed) (P : Listed → Type 0) (es : List (List ℕ × V)) → ((e : List ℕ × V) → Mem e es → P (f e)) → AllOf P (map f es)
all_entries f P [] each = tt
all_entries f P (e ∷ es) each = (each e (inl refl), all_entries f P es (λ x m. each x (inr m)))

module _ (o : Office) where
  cards_are_there : (b : List ℕ) (found : Option Book) → get o.books b ≡ found → AllOf (IsChildAt o (path.Book b)) (unwrap_or (option_map listed_cards found) [])
  cards_are_there b None at = tt
  cards_are_there b (Some book) at = all_entries (λ e. as_listed e.0 (card_resource (number_of book e.0) e.1)) (IsChildAt o (path.Book b)) (entries book.cards) (λ e m. record {
    resource = card_resource (number_of book e.0) e.1;
    there = ap (option_and_then (λ (k : Book). card_in k e.0)) at ∙ ap (option_map (card_resource (number_of book e.0))) (mem_get nat_list_cmp_total names_apart book.cards e.0 e.1 m);
    is = refl;
    above = refl;
  })

  children_are_there : (p : Path) → AllOf (IsChildAt o p) (children_at o p)
  children_are_there path.Root = (
    record { resource = properties_resource kind.Home 0 o.books_home; there = refl; is = refl; above = refl },
    (
      record { resource = properties_resource kind.Home 0 o.groups_home; there = refl; is = refl; above = refl },
      (record { resource = properties_resource kind.Home 0 o.people; there = refl; is = refl; above = refl }, tt),
    ),
  )
  children_are_there path.People = all_entries (λ e. as_listed e.0 (properties_resource kind.Person 0 e.1)) (IsChildAt o path.People) (entries o.persons) (λ e m. record {
    resource = properties_resource kind.Person 0 e.1;
    there = ap (option_map (properties_resource kind.Person 0)) (mem_get nat_list_cmp_total names_apart o.persons e.0 e.1 m);
    is = refl;
    above = refl;
  })
  children_are_there path.Groups = all_entries (λ e. as_listed e.0 (properties_resource kind.Group 0 e.1)) (IsChildAt o path.Groups) (entries o.groups) (λ e m. record {
    resource = properties_resource kind.Group 0 e.1;
    there = ap (option_map (properties_resource kind.Group 0)) (mem_get nat_list_cmp_total names_apart o.groups e.0 e.1 m);
    is = refl;
    above = refl;
  })
  children_are_there path.Books = all_entries (λ e. as_listed e.0 (book_resource e.1)) (IsChildAt o path.Books) (entries o.books) (λ e m. record {
    resource = book_resource e.1;
    there = ap (option_map book_resource) (mem_get nat_list_cmp_total names_apart o.books e.0 e.1 m);
    is = refl;
    above = refl;
  })
  children_are_there (path.Person n) = tt
  children_are_there (path.Group n) = tt
  children_are_there (path.Book b) = cards_are_there b (get o.books b) refl
  children_are_there (path.Card b c) = tt

module _ (find : Find) (circle : CircleOf) (whole : Whole) (o : Office) where
  -- ---- a child
  child_is : (p : Path) (child : Listed) (response : Response) → IsChildAt o p child
      → IsChildResponse find circle whole p (lists_at o p).levels child response → IsResponse find circle o whole (child_path p child.name) response
  child_is p child response at told =
      let q = child_path p child.name in
      let r = at.resource in
      let owner : owner_at o q ≡ child.owner = ap (option_and_then (λ (x : Resource). x.owner)) at.there ∙ sym (ap (λ (x : Listed). x.owner) at.is) in
      let kind_is : r.kind ≡ child.kind = sym (ap (λ (x : Listed). x.kind) at.is) in
      let label : r.label ≡ child.label = sym (ap (λ (x : Listed). x.label) at.is) in
      let number : r.number ≡ child.number = sym (ap (λ (x : Listed). x.number) at.is) in
      let protected = ap (λ found. unwrap_or (option_map (λ (x : Resource). x.protected) found) []) at.there ∙ sym (ap (λ (x : Listed). x.protected) at.is) in
      let own = ap (λ found. unwrap_or (option_map (λ (x : Resource). x.own) found) []) at.there ∙ sym (ap (λ (x : Listed). x.own) at.is) in
      let level : level_at o q ≡ child_level p child = λ k. record { path = q; protected = protected k; own = own k } in
      let subject : subject_at o q ≡ Some (child_subject p child) =
      ap (option_map (subject_of o q)) at.there
      ∙ (λ k. Some (record { here = record { owner = owner k; principal = principal_of q }; kind = kind_is k; label = label k; number = number k })) in
      let list : effective_at o q ≡ effective_of (child_level p child ∷ (lists_at o p).levels) =
      ap (λ ps. effective_of (map (level_at o) ps)) at.above ∙ ap (λ l. effective_of (l ∷ (lists_at o p).levels)) level in
      (child_subject p child, subject, subst (λ es. IsResponseTo find circle whole q (child_subject p child) es response) (sym list) told)

  children_are : (p : Path) (children : List Listed) (rest : List Response) → AllOf (IsChildAt o p) children
      → AllZip (IsChildResponse find circle whole p (lists_at o p).levels) children rest
      → AllZip (IsResponse find circle o whole) (map (λ (child : Listed). child_path p child.name) children) rest
  children_are p [] [] at told = tt
  children_are p [] (r ∷ rs) at told = told
  children_are p (c ∷ cs) [] at told = told
  children_are p (c ∷ cs) (r ∷ rs) at told = (child_is p c r at.0 told.0, children_are p cs rs at.1 told.1)

  -- ---- the resource itself
  node_is : (p : Path) (node : Node) (found : Option Resource) → resource_at o p ≡ found → option_map node_of found ≡ Some node → subject_at o p ≡ Some (node_subject p node)
  node_is p node None at is = absurd cc
  node_is p node (Some r) at is =
      let same : node_of r ≡ node = cc in
      let owner : owner_at o p ≡ node.owner = ap (option_and_then (λ (x : Resource). x.owner)) at ∙ ap (λ (n : Node). n.owner) same in
      ap (option_map (subject_of o p)) at
      ∙ (λ k. Some (record {
        here = record { owner = owner k; principal = principal_of p };
        kind = (same k).kind;
        label = (same k).label;
        number = (same k).number;
      }))

  module _ (p : Path) (node : Node) (there : node_at o p ≡ Some node) where
    read_none : (children : List Listed) → AreRead find circle whole (lists_at o p).levels node children [] → ⊥
    read_none children = subst (λ ps. AreRead find circle whole (map (level_at o) ps) node children [] → ⊥) (sym (go_up p)) (λ h. h)

    read_some : (children : List Listed) (first : Response) (rest : List Response) → AreRead find circle whole (lists_at o p).levels node children (first ∷ rest)
        → IsResponseTo find circle whole p (node_subject p node) (effective_at o p) first × AllZip (IsChildResponse find circle whole p (lists_at o p).levels) children rest
    read_some children first rest =
        subst (λ ps. AreRead find circle whole (map (level_at o) ps) node children (first ∷ rest)
        → IsResponseTo find circle whole p (node_subject p node) (effective_of (map (level_at o) ps)) first × AllZip (IsChildResponse find circle whole p (map (level_at o) ps)) children rest)
        (sym (go_up p)) (λ h. h)

    listed_alone : (rest : List Response) → AllZip (IsChildResponse find circle whole p (lists_at o p).levels) [] rest → AllZip (IsResponse find circle o whole) [] rest
    listed_alone [] told = tt
    listed_alone (r ∷ rs) told = told

    all_listed : (extent : Extent) (first : Response) (rest : List Response)
        → IsResponseTo find circle whole p (node_subject p node) (effective_at o p) first
        → AllZip (IsChildResponse find circle whole p (lists_at o p).levels) (children_for o p extent) rest
        → AllZip (IsResponse find circle o whole) (listed_paths o p extent) (first ∷ rest)
    all_listed Alone first rest told others = ((node_subject p node, node_is p node (resource_at o p) refl there, told), listed_alone rest others)
    all_listed Children first rest told others =
        ((node_subject p node, node_is p node (resource_at o p) refl there, told), children_are p (children_at o p) rest (children_are_there o p) others)

    pub responses_are : (responses : List Response) → AreRead find circle whole (lists_at o p).levels node (children_for o p find.extent) responses
        → AllZip (IsResponse find circle o whole) (listed_paths o p find.extent) responses
    responses_are [] read = absurd (read_none (children_for o p find.extent) read)
    responses_are (first ∷ rest) read =
        let told = read_some (children_for o p find.extent) first rest read in
        all_listed find.extent first rest told.0 told.1
