-- A card is put, labelled, copied, moved or taken out, and a book is added or taken out: what the statements make is the change.
use Rattle.book_tables_rows.proofs.Common.{◌≡◌, ℕ, ◌+◌, List, find, Option, Some, None, string_bytes, option_map, sym, ap, subst, ◌∙◌, Int, FoundNode, rowid_place, Rows, has, is_at, is_mapped, is_under, AreFree, IsMeta, HasMeta, Said, Told, told_of, delete_entries, false}
use Rattle.book_tables_rows.specs.Writes as writes
use Rattle.book_tables_rows.specs.Writes.{Pair}
use Rattle.book_tables_rows.specs.Nodes.{PutsCard, LabelsCard, LabelsNode, PutsCopy, RemovesCard, AddsBook, LeavesBook, ArrivesIn, RemovesBook, SetsList, SetsMembers, FitCardRemoval, FitEpoch, FitRemoval}
use Rattle.book_tables_rows.proofs.InScript.{IsThere}
use Rattle.book_tables_rows.proofs.ListSettings.{meta_of_list, meta_of_members, meta_of_reach}

module _ (rows : Rows) (path : List ℕ) (f : FoundNode) (at : IsThere rows path f) where
  pub puts : (card_path name : List ℕ) (owner : Option (List ℕ)) (text : List ℕ)
      → PutsCard rows (writes.put_card_rows (Int f.id) (is_mapped card_path rows) path card_path name owner text (f.number + 1) rows) path card_path name owner text
  puts card_path name owner text = record {
    book = at.row;
    there = at.there;
    rows_are = ap (λ (t : Told). writes.put_card_rows (Int t.id) (is_mapped card_path rows) path card_path name owner text (t.number + 1) rows) (sym at.tells);
  }

  pub labels_card : (card_path label : List ℕ) → LabelsCard rows (writes.label_card_rows path card_path label (f.number + 1) rows) path card_path label
  labels_card card_path label = record {
    book = at.row;
    there = at.there;
    rows_are = ap (λ (t : Told). writes.label_card_rows path card_path label (t.number + 1) rows) (sym at.tells);
  }

  pub labels_node : (label : List ℕ) → LabelsNode rows (writes.set_label_rows path label f.number rows) path label
  labels_node label = record { node = at.row; there = at.there; rows_are = ap (λ (t : Told). writes.set_label_rows path label t.number rows) (sym at.tells) }

  pub adds_book : (book_path : List ℕ) (owner : Option (List ℕ)) → AddsBook rows (writes.add_book_rows (Int f.id) book_path owner rows) path book_path owner
  adds_book book_path owner = record { home = at.row; there = at.there; rows_are = ap (λ (t : Told). writes.add_book_rows (Int t.id) book_path owner rows) (sym at.tells) }

  pub copies : (source_path card_path name : List ℕ) (owner : Option (List ℕ)) (h : FoundNode) (source : IsThere rows source_path h) (text : List ℕ) → option_map string_bytes h.text ≡ Some text
      → PutsCopy rows (writes.put_copy_rows (Int f.id) (is_mapped card_path rows) path card_path name owner (string_bytes h.label) text (f.number + 1) rows) source_path path card_path name owner
  copies source_path card_path name owner h source text text_is = record {
    source = source.row;
    source_there = source.there;
    text = text;
    text_is = ap (λ (t : Told). t.text) source.tells ∙ text_is;
    book = at.row;
    there = at.there;
    rows_are = ap (λ (t : Told). writes.put_copy_rows (Int t.id) (is_mapped card_path rows) path card_path name owner (string_bytes h.label) text (t.number + 1) rows) (sym at.tells)
        ∙ ap (λ (t : Told). writes.put_copy_rows (Int (told_of at.row).id) (is_mapped card_path rows) path card_path name owner t.label text ((told_of at.row).number + 1) rows) (sym source.tells);
  }

  -- without its entries no row refers to it
  pub is_free : FitCardRemoval path rows → AreFree (has rowid_place (Int f.id)) (delete_entries (Int f.id) rows)
  is_free fits = subst (λ (t : Told). AreFree (has rowid_place (Int t.id)) (delete_entries (Int t.id) rows)) at.tells (fits.card at.row at.there)

  pub removes_card : (card_path name : List ℕ) (g : FoundNode) → IsThere rows card_path g → RemovesCard rows (writes.remove_card_rows (Int f.id) (Int g.id) path name (f.number + 1) rows) path card_path name
  removes_card card_path name g card = record {
    book = at.row;
    there = at.there;
    card = card.row;
    card_there = card.there;
    rows_are = ap (λ (t : Told). writes.remove_card_rows (Int t.id) (Int g.id) path name (t.number + 1) rows) (sym at.tells)
        ∙ ap (λ (t : Told). writes.remove_card_rows (Int (told_of at.row).id) (Int t.id) path name ((told_of at.row).number + 1) rows) (sym card.tells);
  }

  -- the name leaves the book, and a card at the destination is taken out
  leaves : (name destination : List ℕ) (cleared : Rows) → cleared ≡ writes.clear_at (find (is_at destination) rows.nodes) rows
      → LeavesBook rows (writes.leave_book (Int f.id) path name (f.number + 1) cleared) path name destination
  leaves name destination cleared is = record {
    book = at.row;
    there = at.there;
    rows_are = ap (λ (t : Told). writes.leave_book (Int t.id) path name (t.number + 1) cleared) (sym at.tells) ∙ ap (writes.leave_book (Int (told_of at.row).id) path name ((told_of at.row).number + 1)) is;
  }

  pub leaves_empty : (name destination : List ℕ) → find (is_at destination) rows.nodes ≡ None → LeavesBook rows (writes.leave_book (Int f.id) path name (f.number + 1) rows) path name destination
  leaves_empty name destination none = leaves name destination rows (sym (ap (λ o. writes.clear_at o rows) none))

  pub leaves_cleared : (name destination : List ℕ) (g : FoundNode) → IsThere rows destination g
      → LeavesBook rows (writes.leave_book (Int f.id) path name (f.number + 1) (writes.delete_node (Int g.id) (delete_entries (Int g.id) rows))) path name destination
  leaves_cleared name destination g card =
      leaves name destination (writes.delete_node (Int g.id) (delete_entries (Int g.id) rows))
      (ap (λ (t : Told). writes.delete_node (Int t.id) (delete_entries (Int t.id) rows)) (sym card.tells) ∙ sym (ap (λ o. writes.clear_at o rows) card.there))

  pub arrives : (card_path destination name : List ℕ) → ArrivesIn rows (writes.arrive_in (Int f.id) path card_path destination name (f.number + 1) rows) path card_path destination name
  arrives card_path destination name = record { book = at.row; there = at.there; rows_are = ap (λ (t : Told). writes.arrive_in (Int t.id) path card_path destination name (t.number + 1) rows) (sym at.tells) }

  -- the statements that take out a book once those entries of its cards are gone
  abbrev pub CanRemove : Rows → Type 0
  CanRemove now = AreFree (is_under (Int f.id)) (writes.delete_gone (Int f.id) now)
      × AreFree (has rowid_place (Int f.id)) (delete_entries (Int f.id) (writes.delete_children (Int f.id) (writes.delete_gone (Int f.id) now))) × HasMeta now

  abbrev pub removed : ℕ → Rows → Rows
  removed epoch now = writes.set_epoch epoch (writes.delete_node (Int f.id) (delete_entries (Int f.id) (writes.delete_children (Int f.id) (writes.delete_gone (Int f.id) now))))

  pub removes_book : (epoch : ℕ) (now : Rows) → now ≡ writes.delete_entries_below (Int f.id) rows → (fits : FitRemoval path rows) → epoch ≡ fits.meta.0 → CanRemove now × RemovesBook rows (removed (epoch + 1) now) path
  removes_book epoch now is fits epoch_is =
      let below : Rows = writes.delete_entries_below (Int f.id) rows in
      let can : CanRemove below = (
        subst (λ (t : Told). AreFree (is_under (Int t.id)) (writes.delete_gone (Int t.id) (writes.delete_entries_below (Int t.id) rows))) at.tells (fits.cards at.row at.there),
        subst (λ (t : Told). AreFree (has rowid_place (Int t.id)) (delete_entries (Int t.id) (writes.remove_cards (Int t.id) rows))) at.tells (fits.book at.row at.there),
        fits.meta,
      ) in (
        subst CanRemove (sym is) can,
        record {
          book = at.row;
          there = at.there;
          epoch = fits.meta.0;
          meta = fits.meta.1;
          rows_are = ap (removed (epoch + 1)) is ∙ ap (λ (t : Told). writes.remove_book_rows (Int t.id) (epoch + 1) rows) (sym at.tells)
              ∙ ap (λ n. writes.remove_book_rows (Int (told_of at.row).id) (n + 1) rows) epoch_is;
        },
      )

-- ---- the list of a node, the members of a group, and the epoch

pub sets_list : (rows : Rows) (path : List ℕ) (list : List Said) (f : FoundNode) (epoch : ℕ) → IsThere rows path f → (fits : FitEpoch rows) → epoch ≡ fits.meta.0
    → HasMeta (writes.write_list (Int f.id) list rows) × SetsList rows (writes.set_list_rows (Int f.id) list (epoch + 1) rows) path list
sets_list rows path list f epoch at fits epoch_is = (
  (fits.meta.0, subst (λ m. IsMeta m fits.meta.0) (sym (meta_of_list (Int f.id) false 0 list (writes.delete_own (Int f.id) rows))) fits.meta.1),
  record {
    node = at.row;
    there = at.there;
    epoch = fits.meta.0;
    meta = fits.meta.1;
    rows_are = ap (λ (t : Told). writes.set_list_rows (Int t.id) list (epoch + 1) rows) (sym at.tells) ∙ ap (λ n. writes.set_list_rows (Int (told_of at.row).id) list (n + 1) rows) epoch_is;
  },
)

pub sets_members : (rows : Rows) (group : List ℕ) (members : List (List ℕ)) (gone come : List Pair) (epoch : ℕ) (fits : FitEpoch rows) → epoch ≡ fits.meta.0
    → HasMeta (writes.renew_reach gone come (writes.write_members group members rows)) × SetsMembers rows (writes.set_members_rows group members gone come (epoch + 1) rows) group members gone come
sets_members rows group members gone come epoch fits epoch_is =
    let same = meta_of_reach gone come (writes.write_members group members rows) ∙ meta_of_members group members (writes.delete_members group rows) in (
      (fits.meta.0, subst (λ m. IsMeta m fits.meta.0) (sym same) fits.meta.1),
      record { epoch = fits.meta.0; meta = fits.meta.1; rows_are = ap (λ n. writes.set_members_rows group members gone come (n + 1) rows) epoch_is },
    )
