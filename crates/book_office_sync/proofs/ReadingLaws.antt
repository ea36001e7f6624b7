-- The items that are read, and those of the definition.
use Rattle.book_office_sync.proofs.Common.{◌≡◌, ℕ, suc, ◌&&◌, Bool, true, false, List, [], ◌∷◌, ◌++◌, map, Option, Some, None, option_map, unwrap_or, refl, sym, ap, ◌∙◌, if◌then◌else◌, get, CircleOf, Change, Book, StoredCard, Office, Level, number_of, found_of, item_of, shown}
use Rattle.std.proofs.Common.{not}
use Rattle.std.specs.List.{flat_map}
use Rattle.std.specs.Option.{option_map_or}
use Rattle.book_rights.specs.declared.privileges.Leaf.{Leaf}
use Rattle.book_lists.specs.Deciding.{decider}
use Rattle.book_lists.specs.Decisions.{bears}
use Rattle.book_lists.specs.Deciders.{granted_read}
use Rattle.book_lists.specs.Readings.{Reading, read_by, bears_read, denying_read}
use Rattle.book_lists.specs.declared.entries.Entry.{Entry}
use Rattle.book_lists.specs.declared.entries.Here.{Here}
use Rattle.book_office_values.specs.declared.paths.Path.{Path}
use Rattle.book_office_values.specs.declared.paths.Path.TheVariants as path
use Rattle.book_office.specs.declared.nodes.EffectiveEntry.{EffectiveEntry}
use Rattle.book_office.specs.Levels.{standing_at, protected_entries, own_entries, effective_of, lists_at}
use Rattle.book_office.specs.Resources.{Resource, book_resource, changed_in}
use Rattle.book_office_sync.specs.Copies.{grants, grants_read, here_of_card}
use Rattle.book_office_sync.specs.Reading.{above_of, entries_under, found_in, item_in}
use Rattle.book_office_sync.proofs.CopiesKept.{seen_by, above, in_force, seen_at}

-- ---- what a scan of entries tells granted
granted_is_grants : (circle : CircleOf) (here : Here) (leaf : Leaf) (entries : List Entry) → granted_read (read_by circle here entries) leaf ≡ grants entries circle here leaf
granted_is_grants circle here leaf [] = refl
granted_is_grants circle here leaf (e ∷ es) = go (bears circle here leaf e) (decider bears_read (read_by circle here es) leaf) (granted_is_grants circle here leaf es)
  where
    go : (b : Bool) (found : Option (ℕ × Reading)) → option_map_or (λ (f : ℕ × Reading). not (denying_read f.1)) found false ≡ grants es circle here leaf
        → option_map_or (λ (f : ℕ × Reading). not (denying_read f.1))
        (if b then Some (0, record { circle = circle; here = here; entry = e }) else option_map (λ (f : ℕ × Reading). (suc f.0, f.1)) found) false
        ≡ (if b then not e.deny else grants es circle here leaf)
    go true found same = refl
    go false None same = same
    go false (Some f) same = same

-- of a leaf for which the entries were gone over, it tells what they grant
pub told_granted : (circle : CircleOf) (here : Here) (entries : List Entry) (need set : Leaf → Bool) (leaf : Leaf)
    → ((l : Leaf) → set l ≡ (need l && granted_read (read_by circle here entries) l)) → need leaf ≡ true → set leaf ≡ grants entries circle here leaf
told_granted circle here entries need set leaf told held =
    told leaf ∙ ap (λ b. b && granted_read (read_by circle here entries) leaf) held ∙ granted_is_grants circle here leaf entries

-- entries with the paths where they stand, without these
standing_entries : (p : Path) (b : Bool) (xs : List Entry) (ys : List EffectiveEntry) → map (λ (e : EffectiveEntry). e.entry) (map (standing_at p b) xs ++ ys) ≡ xs ++ map (λ (e : EffectiveEntry). e.entry) ys
standing_entries p b [] ys = refl
standing_entries p b (x ∷ xs) ys = ap (λ r. x ∷ r) (standing_entries p b xs ys)

-- the protected entries of levels, and the own ones, without the paths where they stand
protected_of : (ls : List Level) → map (λ (e : EffectiveEntry). e.entry) (flat_map protected_entries ls) ≡ flat_map (λ (l : Level). l.protected) ls
protected_of [] = refl
protected_of (l ∷ ls) = standing_entries l.path true l.protected (flat_map protected_entries ls) ∙ ap (λ r. l.protected ++ r) (protected_of ls)

own_of : (ls : List Level) → map (λ (e : EffectiveEntry). e.entry) (flat_map own_entries ls) ≡ flat_map (λ (l : Level). l.own) ls
own_of [] = refl
own_of (l ∷ ls) = standing_entries l.path false l.own (flat_map own_entries ls) ∙ ap (λ r. l.own ++ r) (own_of ls)

mapped_joined : (xs ys : List EffectiveEntry) → map (λ (e : EffectiveEntry). e.entry) (xs ++ ys) ≡ map (λ (e : EffectiveEntry). e.entry) xs ++ map (λ (e : EffectiveEntry). e.entry) ys
mapped_joined [] ys = refl
mapped_joined (x ∷ xs) ys = ap (λ r. x.entry ∷ r) (mapped_joined xs ys)

-- the entries in force at a card below these levels
under_levels : (p : Path) (own : List Entry) (ls : List Level)
    → map (λ (e : EffectiveEntry). e.entry) (effective_of (record { path = p; protected = []; own = own } ∷ ls)) ≡ entries_under (above_of ls) own
under_levels p own ls =
    mapped_joined (flat_map protected_entries (record { path = p; protected = []; own = own } ∷ ls)) (flat_map own_entries (record { path = p; protected = []; own = own } ∷ ls))
    ∙ (λ i. protected_of (record { path = p; protected = []; own = own } ∷ ls) i ++ own_of (record { path = p; protected = []; own = own } ∷ ls) i)

-- the levels of a book, with the book given
abbrev levels_in : Office → List ℕ → Option Book → List Level
levels_in o b found =
    record {
      path = path.Book b;
      protected = unwrap_or (option_map (λ (r : Resource). r.protected) (option_map book_resource found)) [];
      own = unwrap_or (option_map (λ (r : Resource). r.own) (option_map book_resource found)) [];
    }
    ∷ record { path = path.Books; protected = o.books_home.protected; own = o.books_home.own }
    ∷ record { path = path.Root; protected = o.root.protected; own = o.root.own } ∷ []

module _ (o : Office) (circle : CircleOf) (b : List ℕ) (x : Book) (at : get o.books b ≡ Some x) where
  pub in_force_is : (c : List ℕ) (own : List Entry) → entries_under (above_of (lists_at o (path.Book b)).levels) own ≡ in_force (above o x) b c own
  in_force_is c own = ap (λ ls. entries_under (above_of ls) own) (ap (levels_in o b) at) ∙ sym (under_levels (path.Card b c) own (levels_in o b (Some x)))

  told_or_not : (t : Bool) (n : ℕ) (k : StoredCard) → (if t then Some (found_of (shown n k)) else None) ≡ option_map found_of (if t then Some (shown n k) else None)
  told_or_not true n k = refl
  told_or_not false n k = refl

  found_is : (c : List ℕ) (n : ℕ) (card : Option StoredCard) → found_in (above_of (lists_at o (path.Book b)).levels) circle card ≡ option_map found_of (seen_by (above o x) circle b c n card)
  found_is c n None = refl
  found_is c n (Some k) =
      ap (λ es. if grants_read es circle (here_of_card k) then Some (found_of (shown n k)) else None) (in_force_is c k.own)
      ∙ told_or_not (grants_read (in_force (above o x) b c k.own) circle (here_of_card k)) n k

  pub items_are : (cs : List Change) → map (item_in (above_of (lists_at o (path.Book b)).levels) circle) (changed_in x cs) ≡ map (item_of o circle b) cs
  items_are [] = refl
  items_are (c ∷ cs) =
      let found = found_is c.1 (number_of x c.1) (get x.cards c.1) ∙ ap (option_map found_of) (sym (seen_at o circle b c.1 x at)) in
      λ i. record { name = c.1; number = c.0; found = found i } ∷ items_are cs i
