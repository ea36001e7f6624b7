-- The rows of a sound Office pass as those of an Office: each entry.
use Rattle.book_tables_opening.proofs.Common.{◌≡◌, pos, Bool, true, false, ◌&&◌, nat_eq, List, [], ◌∷◌, drop, filter, Some, refl, sym, ap, subst, ◌∙◌, true≢false, IsTrue, AllByRecursion, Value, Database, Row, rowid, Has, all_has, Entry, Who, Href, Everyone, Authenticated, Unauthenticated, Owner, Own, Office, Kind, kind_of, resource_at, IsKnownForm, IsSound, entries_shown, ace_deny, ace_form, ace_invert, ace_mask, ace_node, ace_principal, ace_protected, ace_protected_place, entry_principal, number_in, text_in, has, IsBook, is_entry, by_place, flag, int_itself, kind_code, flag_in, principal_value, entry_of, list_in, resource_of, IsNode, IsEntry, Gives, its_resource, has_int, has_map, is_of_kind, node_shown, IsKnown, IsEntryRow}
use Rattle.std.proofs.lemmas.List.Elements.{recursion_from_All}
use Rattle.book_office_values.specs.declared.paths.Kind.TheVariants as kind
use Rattle.book_office.proofs.StandingResources.{resources_stand_in_place}
use Rattle.book_tables_rows.specs.Columns.{ace_node_place}
use Rattle.book_tables_rows.specs.Lists.{entry_deny, entry_form, entry_invert, entry_mask}
use Rattle.book_tables_rows.specs.Writes.{entries_of}
use Rattle.book_tables.specs.Rows.{entry_values}
use Rattle.book_tables.proofs.LeftRows.{has_filtered}
use Rattle.book_tables.proofs.SameLists.{sorted_has}
use Rattle.book_tables_opening.proofs.HeldResources.{held_resource, held_principal}
use Rattle.book_tables_opening.proofs.ListRows.{by_place_total}
use Rattle.book_tables_opening.proofs.NumberedRows.{mapped_all, shown_node, has_number}
use Rattle.book_tables_opening.proofs.RowForms.{rows, nodes, table_nodes, entry_shown}
use Rattle.book_tables_opening.proofs.SoundResources.{IsSoundResource}

-- ---- how an entry is spelled

flag_again : (b : Bool) → flag b ≡ flag (flag_in (flag b))
flag_again true = refl
flag_again false = refl

has_flag : (x : Row) (b : Bool) → ace_protected x ≡ flag b → has ace_protected_place (flag b) x ≡ true
has_flag x true is = has_int 2 x (pos 1) (pos 1) is ∙ int_itself (pos 1)
has_flag x false is = has_int 2 x (pos 0) (pos 0) is ∙ int_itself (pos 0)

-- the columns behind the place are the rest of the row
rest_of : (row : Row) → (ace_form row ∷ ace_principal row ∷ ace_invert row ∷ ace_deny row ∷ ace_mask row ∷ [])
    ≡ (entry_form (drop 4 row) ∷ entry_principal (drop 4 row) ∷ entry_invert (drop 4 row) ∷ entry_deny (drop 4 row) ∷ entry_mask (drop 4 row) ∷ [])
rest_of [] = refl
rest_of (a ∷ []) = refl
rest_of (a ∷ b ∷ []) = refl
rest_of (a ∷ b ∷ c ∷ []) = refl
rest_of (a ∷ b ∷ c ∷ d ∷ r) = refl

five_of : (row : Row) (e : Entry) → drop 4 row ≡ entry_values e → (ace_form row ∷ ace_principal row ∷ ace_invert row ∷ ace_deny row ∷ ace_mask row ∷ []) ≡ entry_values e
five_of row e is = rest_of row ∙ ap (λ l. entry_form l ∷ entry_principal l ∷ entry_invert l ∷ entry_deny l ∷ entry_mask l ∷ []) is

card_kind : (k : Kind) → nat_eq (kind_code k) 5 ≡ true → k ≡ kind.Card
card_kind kind.Root h = absurd (true≢false (sym h))
card_kind kind.Home h = absurd (true≢false (sym h))
card_kind kind.Person h = absurd (true≢false (sym h))
card_kind kind.Group h = absurd (true≢false (sym h))
card_kind kind.Book h = absurd (true≢false (sym h))
card_kind kind.Card h = refl

module _ (db : Database) (book : IsBook db) (o : Office) (gives : Gives (rows db book) o) (sound : IsSound o) where
  abbrev entries : List Row
  entries = (rows db book).entries

  -- the principal of a form that is known is there
  known_form : (who : Who) (v : Value) → v ≡ principal_value who → IsKnownForm o who → IsKnown (nodes db book) (text_in v)
  known_form (Href t) v is mapped = subst (λ w. IsKnown (nodes db book) (text_in w)) (sym is) (held_principal (rows db book) o gives sound t mapped)
  known_form Everyone v is known = subst (λ w. IsKnown (nodes db book) (text_in w)) (sym is) tt
  known_form Authenticated v is known = subst (λ w. IsKnown (nodes db book) (text_in w)) (sym is) tt
  known_form Unauthenticated v is known = subst (λ w. IsKnown (nodes db book) (text_in w)) (sym is) tt
  known_form Owner v is known = subst (λ w. IsKnown (nodes db book) (text_in w)) (sym is) tt
  known_form Own v is known = subst (λ w. IsKnown (nodes db book) (text_in w)) (sym is) tt

  module _ (x : Row) (there : Has entries x) (e : IsEntry (rows db book) x) where
    its_node : IsNode (rows db book) e.node
    its_node = all_has (IsNode (rows db book)) (rows db book).nodes e.node gives.nodes e.there

    at_node : resource_at o its_node.0 ≡ Some (resource_of entries e.node)
    at_node = its_resource (rows db book) o gives (table_nodes db book) sound its_node.0 its_node.1.named e.node its_node.0 e.there its_node.1

    -- the entry is one of the list of its node
    in_list : Has (list_in entries (rowid e.node) e.list) (entry_of x)
    in_list =
        let own : has ace_node_place (rowid e.node) x ≡ true = has_number db book 1 x e.node e.there e.its in
        let its : has ace_protected_place (flag e.list) x ≡ true = has_flag x e.list e.protected in
        has_map entry_of (entries_of entries (rowid e.node) e.list) x
        (sorted_has by_place by_place_total (filter (is_entry (rowid e.node) e.list) entries) x (has_filtered (is_entry (rowid e.node) e.list) entries x there (λ i. own i && its i)))

    its_form : IsKnownForm o (entry_of x).who
    its_form =
        let held = held_resource o sound its_node.0 (resource_of entries e.node) at_node in
        of_list e.list held in_list
      where
        of_list : (list : Bool) → IsSoundResource o its_node.0 (resource_of entries e.node) → Has (list_in entries (rowid e.node) list) (entry_of x) → IsKnownForm o (entry_of x).who
        of_list true held h = all_has (λ (y : Entry). IsKnownForm o y.who) (list_in entries (rowid e.node) true) (entry_of x) (recursion_from_All _ _ held.protected.known) h
        of_list false held h = all_has (λ (y : Entry). IsKnownForm o y.who) (list_in entries (rowid e.node) false) (entry_of x) (recursion_from_All _ _ held.own.known) h

    -- a card has no protected entry
    own_of_card : (list : Bool) → e.list ≡ list → IsTrue (is_of_kind 5 (node_shown e.node)) → flag_in (ace_protected x) ≡ false
    own_of_card false is passes = ap flag_in (e.protected ∙ ap flag is)
    own_of_card true is passes =
        let of_kind : kind_of its_node.0 ≡ kind.Card = card_kind (kind_of its_node.0) (sym (ap (λ v. nat_eq (number_in v) 5) its_node.1.kind) ∙ passes) in
        let none : list_in entries (rowid e.node) true ≡ [] = (resources_stand_in_place o sound its_node.0 (resource_of entries e.node) at_node).protected of_kind in
        absurd (subst (λ l. Has l (entry_of x)) (ap (list_in entries (rowid e.node)) is ∙ none) in_list)

    entry_row : IsEntryRow (nodes db book) (entry_shown x)
    entry_row =
        let five = five_of x (entry_of x) e.spelled in
        record {
          spelled = record { protected = e.protected ∙ flag_again e.list ∙ ap (λ v. flag (flag_in v)) (sym e.protected); place = e.place; spelled = five };
          node = node_shown e.node;
          there = shown_node db book (ace_node x) e.node e.there e.its;
          placed = own_of_card e.list refl;
          principal = known_form (entry_of x).who (ace_principal x) (ap entry_principal five) its_form;
        }

  pub each_entry : AllByRecursion (IsEntryRow (nodes db book)) (entries_shown (rows db book))
  each_entry = mapped_all entry_shown (IsEntryRow (nodes db book)) entries (λ x there. entry_row x there (all_has (IsEntry (rows db book)) entries x gives.entries there))
