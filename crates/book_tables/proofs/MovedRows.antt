-- MOVE of a card: the rows give the Office in which it was moved.
use Rattle.book_tables.proofs.Common.{◌≡◌, ◌≢◌, ℕ, ◌+◌, Bool, true, false, cond, List, [], ◌∷◌, ◌++◌, find, Option, Some, None, option_map, is_some, refl, sym, ap, subst, ◌∙◌, get, insert, remove, AllByRecursion, same_Some, Value, Int, Text, next_rowid, id_in, Row, rowid, IsShaped, all-append, Has, all_has, update_where, delete_where, IsName, Book, StoredCard, Office, Path, IsPath, path_text, book_path, card_path, one_text, same, is_same, same_itself, by_names, some_apart, by_option, put_here, put_elsewhere, removed_here, removed_elsewhere, Resource, resource_at, removed_at, book_resource, card_resource, number_of, gone_number, node_path, rowid_place, Rows, has, number_in, is_at, is_gone, with_number, PassesOnce, key_is, in_left, row_at, resource_in, resource_of, list_in, is_member, removed_from, removed_in, IsNodeAt, IsNode, IsEntry, IsRemoved, Gives}
use Rattle.sqlite_trees.specs.declared.store.Shape.TheVariants.{Table as TableShape}
use Rattle.book_office_values.specs.declared.paths.Path.TheVariants as path
use Rattle.book_tables_rows.specs.Writes as writes
use Rattle.book_tables_rows.specs.Writes.{moved_to, clear_at}
use Rattle.book_tables.proofs.Looking.{found_has, has_text}
use Rattle.book_tables.proofs.LeftRows.{book_or_card, card_book, card_name}
use Rattle.book_tables.proofs.RowFacts.{apart, has_updated, all_updated, all_from_has, is_at_found}
use Rattle.book_tables.proofs.TouchedOffices as office
use Rattle.book_tables.proofs.TouchedOffices.{touched_office}
use Rattle.book_tables.proofs.WrittenCards.{node_changed, numbered_keeps, row_changed}
use Rattle.book_tables.proofs.CardEdits.{card_told, not_gone}
use Rattle.book_tables.proofs.RemovedCards as removed
use Rattle.book_tables.proofs.RemovedCards.{KeepsAbove, node_kept, gone_kept}
use Rattle.book_tables.proofs.GoneNames as gone

-- ---- a row that goes to another path

-- where none passed, the rows that are changed pass
moved_here : (p q : Row → Bool) (f : Row → Row) (xs : List Row) → find q xs ≡ None → ((x : Row) → q (f x) ≡ true) → find q (update_where p f xs) ≡ option_map f (find p xs)
moved_here p q f [] none passes = refl
moved_here p q f (x ∷ xs) none passes = go (p x) (q x) refl refl (moved_here p q f xs)
  where
    go : (a b : Bool) → p x ≡ a → q x ≡ b → (find q xs ≡ None → ((x : Row) → q (f x) ≡ true) → find q (update_where p f xs) ≡ option_map f (find p xs))
        → find q (update_where p f (x ∷ xs)) ≡ option_map f (find p (x ∷ xs))
    go a true e h more = some_apart (let some = rw h at none in some)
    go true false e h more = simp (e, passes x)
    go false false e h more = simp (e, h) (more (rw h at none) passes)

-- a path that is neither the old nor the new one
moved_elsewhere : (p q : Row → Bool) (f : Row → Row) (xs : List Row) → AllByRecursion (λ x. p x ≡ true → (q x ≡ false) × (q (f x) ≡ false)) xs → find q (update_where p f xs) ≡ find q xs
moved_elsewhere p q f [] h = refl
moved_elsewhere p q f (x ∷ xs) h = go (p x) refl (moved_elsewhere p q f xs h.1)
  where
    go : (a : Bool) → p x ≡ a → find q (update_where p f xs) ≡ find q xs → find q (update_where p f (x ∷ xs)) ≡ find q (x ∷ xs)
    go true e more = let k = h.0 e in simp (e, k.0, k.1) more
    go false e more = simp e (ap (λ r. cond (q x) (Some x) r) more)

-- none stays at the old path
moved_away : (p : Row → Bool) (f : Row → Row) (xs : List Row) → ((x : Row) → p (f x) ≡ false) → find p (update_where p f xs) ≡ None
moved_away p f [] h = refl
moved_away p f (x ∷ xs) h = go (p x) refl (moved_away p f xs h)
  where
    go : (a : Bool) → p x ≡ a → find p (update_where p f xs) ≡ None → find p (update_where p f (x ∷ xs)) ≡ None
    go true e more = simp (e, h x) more
    go false e more = simp e more

all_moved : (P Q : Row → Type 0) (p : Row → Bool) (f : Row → Row) → ((x : Row) → P x → p x ≡ true → Q (f x)) → ((x : Row) → P x → p x ≡ false → Q x)
    → (xs : List Row) → AllByRecursion P xs → AllByRecursion Q (update_where p f xs)
all_moved P Q p f moved stays [] all = tt
all_moved P Q p f moved stays (x ∷ xs) all =
    (elim (p x) as (λ b. p x ≡ b → Q (cond b (f x) x)) [ true ↦ λ e. moved x all.0 e | false ↦ λ e. stays x all.0 e ] refl, all_moved P Q p f moved stays xs all.1)

-- ---- the rows without a card at the destination

pub record AreCleared (rows cleared : Rows) (cp : List ℕ) : Type 0 where
  pub none : row_at cleared cp ≡ None
  pub others : (t : List ℕ) → t ≢ cp → row_at cleared t ≡ row_at rows t
  pub lists : (t : List ℕ) (r : Row) → row_at rows t ≡ Some r → t ≢ cp → (pr : Bool) → list_in cleared.entries (rowid r) pr ≡ list_in rows.entries (rowid r) pr
  pub entry : (after : Rows) → ((x : Row) → Has cleared.nodes x → (y : Row) × Has after.nodes y × (rowid y ≡ rowid x)) → (e : Row) → Has cleared.entries e → IsEntry after e
  pub nodes : (x : Row) → Has cleared.nodes x → Has rows.nodes x
  pub gone : cleared.gone ≡ rows.gone
  pub members : cleared.members ≡ rows.members
  pub meta : cleared.meta ≡ rows.meta

pub are_cleared : (rows : Rows) (o : Office) → Gives rows o → IsShaped TableShape rows.nodes → ((t : List ℕ) → PassesOnce (is_at t) rows.nodes)
    → (b c : List ℕ) → IsName b → IsName c → (found : Option Row) → row_at rows (card_path b c) ≡ found → AreCleared rows (clear_at found rows) (card_path b c)
are_cleared rows o gives shaped once b c named named_c None is = record {
  none = is;
  others = λ t differs. refl;
  lists = λ t r found differs pr. refl;
  entry = λ after there e in_entries.
      let it = all_has (IsEntry rows) rows.entries e gives.entries in_entries in
      let y = there it.node it.there in
      record { node = y.0; there = y.1; its = it.its ∙ sym y.2; list = it.list; protected = it.protected; place = it.place; spelled = it.spelled };
  nodes = λ x h. h;
  gone = refl;
  members = refl;
  meta = refl;
}
are_cleared rows o gives shaped once b c named named_c (Some row) is = record {
  none = removed.card_left rows o gives shaped once b c named named_c row is;
  others = removed.others_left rows o gives shaped once b c named named_c row is;
  lists = removed.lists_left rows o gives shaped once b c named named_c row is;
  entry = removed.entry_left rows o gives shaped once b c named named_c row is;
  nodes = λ x h. (in_left (has rowid_place (Int (id_in (rowid row)))) rows.nodes x h).0;
  gone = refl;
  members = refl;
  meta = refl;
}

-- ---- the move

module _ (rows : Rows) (o : Office) (gives : Gives rows o) (shaped : IsShaped TableShape rows.nodes) (sb sc tb tc : List ℕ)
    (sbook : Book) (sthere : get o.books sb ≡ Some sbook) (card : StoredCard) (its : get sbook.cards sc ≡ Some card)
    (named_sb : IsName sb) (named_sc : IsName sc) (named_tb : IsName tb) (named_tc : IsName tc) (differ : sb ≡ tb → sc ≢ tc)
    (source_row : Row) (at_source : row_at rows (book_path sb) ≡ Some source_row) (cleared : Rows) (clear : AreCleared rows cleared (card_path tb tc)) where
  abbrev sbp : List ℕ
  sbp = book_path sb

  abbrev scp : List ℕ
  scp = card_path sb sc

  abbrev tbp : List ℕ
  tbp = book_path tb

  abbrev dcp : List ℕ
  dcp = card_path tb tc

  abbrev n1 : ℕ
  n1 = sbook.changes.number + 1

  abbrev id1 : Value
  id1 = Int (id_in (rowid source_row))

  abbrev pub o1 : Office
  o1 = touched_office o sb sc sbook (remove sbook.cards sc)

  abbrev pub between : Rows
  between = writes.leave_book id1 sbp sc n1 cleared

  is_sc : IsPath (path.Card sb sc)
  is_sc = (named_sb, named_sc)

  is_tc : IsPath (path.Card tb tc)
  is_tc = (named_tb, named_tc)

  paths_apart : path.Card sb sc ≢ path.Card tb tc
  paths_apart e = differ (card_book e) (card_name e)

  card_texts_apart : scp ≢ dcp
  card_texts_apart is = paths_apart (one_text (path.Card sb sc) (path.Card tb tc) is_sc is_tc is)

  book_card : (a b c : List ℕ) → IsName a → IsName b → IsName c → book_path a ≢ card_path b c
  book_card a b c x y z is = book_or_card (one_text (path.Book a) (path.Card b c) x (y, z) is)

  id1_is : rowid source_row ≡ id1
  id1_is = key_is source_row (all_has _ rows.nodes source_row shaped.1 (found_has (is_at sbp) rows.nodes source_row at_source).0)

  abbrev upd1 : Row → Row
  upd1 r = cond (is_at sbp r) (with_number n1 r) r

  upd1_id : (r : Row) → rowid (upd1 r) ≡ rowid r
  upd1_id r = elim (is_at sbp r) as (λ b. rowid (cond b (with_number n1 r) r) ≡ rowid r) [ true ↦ refl | false ↦ refl ]

  upd1_path : (r : Row) → node_path (upd1 r) ≡ node_path r
  upd1_path r = elim (is_at sbp r) as (λ b. node_path (cond b (with_number n1 r) r) ≡ node_path r) [ true ↦ refl | false ↦ refl ]

  found_between : (t : List ℕ) → row_at between t ≡ option_map upd1 (row_at cleared t)
  found_between t = row_changed cleared.nodes sbp t (with_number n1) (numbered_keeps n1)

  between_not : (t : List ℕ) → t ≢ dcp → row_at between t ≡ option_map upd1 (row_at rows t)
  between_not t not_dcp = found_between t ∙ ap (option_map upd1) (clear.others t not_dcp)

  upd1_other : (t : List ℕ) (found : Option Row) → row_at rows t ≡ found → t ≢ sbp → option_map upd1 found ≡ found
  upd1_other t None is h = refl
  upd1_other t (Some r) is h = ap (λ x. Some (cond x (with_number n1 r) r)) (is_at_found rows gives.nodes shaped t sbp r is ∙ apart t sbp h)

  between_other : (t : List ℕ) → t ≢ dcp → t ≢ sbp → row_at between t ≡ row_at rows t
  between_other t not_dcp not_sbp = between_not t not_dcp ∙ upd1_other t (row_at rows t) refl not_sbp

  between_none : row_at between dcp ≡ None
  between_none = found_between dcp ∙ ap (option_map upd1) clear.none

  between_book : row_at between sbp ≡ Some (with_number n1 source_row)
  between_book = between_not sbp (book_card sb tb tc named_sb named_tb named_tc) ∙ ap (option_map upd1) at_source
      ∙ ap (λ t. Some (cond t (with_number n1 source_row) source_row)) (is_at_found rows gives.nodes shaped sbp sbp source_row at_source ∙ same_itself sbp)

  abbrev here1 : get (remove sbook.cards sc) sc ≡ None
  here1 = removed_here sbook.cards sc

  abbrev others1 : (d : List ℕ) → d ≢ sc → get (remove sbook.cards sc) d ≡ get sbook.cards d
  others1 = removed_elsewhere sbook.cards sc

  -- the lists of the rows that were there
  same_lists : (t : List ℕ) (found : Option Row) → row_at rows t ≡ found → t ≢ dcp → option_map (resource_of cleared.entries) found ≡ option_map (resource_of rows.entries) found
  same_lists t None is differs = refl
  same_lists t (Some r) is differs = ap Some (λ i. record (resource_of rows.entries r) { protected = clear.lists t r is differs true i; own = clear.lists t r is differs false i })

  source_book_resource : resource_of cleared.entries source_row ≡ book_resource sbook
  source_book_resource = same_Some _ _ (
      sym (ap (option_map (resource_of cleared.entries)) at_source) ∙ same_lists sbp (row_at rows sbp) refl (book_card sb tb tc named_sb named_tb named_tc)
      ∙ gives.resources (path.Book sb) named_sb ∙ ap (option_map book_resource) sthere)

  -- between leaving and arriving, all but the two cards are those of the Office that the card has left
  resources_between : (p : Path) → IsPath p → p ≢ path.Card sb sc → p ≢ path.Card tb tc → resource_in between (path_text p) ≡ resource_at o1 p
  resources_between p is_path not_source not_target =
      let not_dcp : path_text p ≢ dcp = λ is. not_target (one_text p (path.Card tb tc) is_path is_tc is) in
      by_names (path_text p) sbp (λ _. resource_in between (path_text p) ≡ resource_at o1 p)
      (λ is.
      let same_path : p ≡ path.Book sb = one_text p (path.Book sb) is_path named_sb is in
      ap (option_map (resource_of cleared.entries)) (ap (row_at between) is ∙ between_book)
      ∙ ap (λ (r : Resource). Some (record r { number = n1 })) source_book_resource
      ∙ sym (office.at_book o sb sc sbook sthere (remove sbook.cards sc) None here1 others1) ∙ ap (resource_at o1) (sym same_path))
      (λ not_sbp.
      ap (option_map (resource_of cleared.entries)) (between_other (path_text p) not_dcp not_sbp)
      ∙ same_lists (path_text p) (row_at rows (path_text p)) refl not_dcp ∙ gives.resources p is_path
      ∙ sym (office.elsewhere o sb sc sbook sthere (remove sbook.cards sc) None here1 others1 p (λ is. not_sbp (ap path_text is)) not_source))

  -- ---- arriving

  module _ (target_row : Row) (at_target : row_at between tbp ≡ Some target_row) (tbook : Book) (tthere : get o1.books tb ≡ Some tbook) where
    abbrev n2 : ℕ
    n2 = tbook.changes.number + 1

    abbrev id2 : Value
    id2 = Int (id_in (rowid target_row))

    abbrev pub o2 : Office
    o2 = touched_office o1 tb tc tbook (insert tbook.cards tc card)

    abbrev pub after : Rows
    after = writes.arrive_in id2 tbp scp dcp tc n2 between

    abbrev here2 : get (insert tbook.cards tc card) tc ≡ Some card
    here2 = put_here tbook.cards tc card

    abbrev others2 : (d : List ℕ) → d ≢ tc → get (insert tbook.cards tc card) d ≡ get tbook.cards d
    others2 = put_elsewhere tbook.cards tc card

    pub target_resource : resource_of cleared.entries target_row ≡ book_resource tbook
    target_resource = same_Some _ _ (
        sym (ap (option_map (resource_of cleared.entries)) at_target) ∙ resources_between (path.Book tb) named_tb (λ e. book_or_card e) (λ e. book_or_card e)
        ∙ ap (option_map book_resource) tthere)

    abbrev moved : Row → Row
    moved = moved_to dcp id2 n2

    abbrev mid : List Row
    mid = update_where (is_at scp) moved between.nodes

    abbrev upd2 : Row → Row
    upd2 r = cond (is_at tbp r) (with_number n2 r) r

    upd2_id : (r : Row) → rowid (upd2 r) ≡ rowid r
    upd2_id r = elim (is_at tbp r) as (λ b. rowid (cond b (with_number n2 r) r) ≡ rowid r) [ true ↦ refl | false ↦ refl ]

    found_after : (t : List ℕ) → row_at after t ≡ option_map upd2 (find (is_at t) mid)
    found_after t = row_changed mid tbp t (with_number n2) (numbered_keeps n2)

    at_moved : (x : Row) (t : List ℕ) → is_at t (moved x) ≡ same dcp t
    at_moved x t = has_text 2 (moved x) dcp t refl

    -- each row between has a path's text
    texts_between : AllByRecursion (λ x. (u : List ℕ) × (node_path x ≡ Text u)) between.nodes
    texts_between = all_updated (λ x. (u : List ℕ) × (node_path x ≡ Text u)) (is_at sbp) (with_number n1) (λ x h. h) cleared.nodes
        (all_from_has _ cleared.nodes (λ x there. let n = all_has (IsNode rows) rows.nodes x gives.nodes (clear.nodes x there) in (path_text n.0, n.1.path)))

    mid_other : (t : List ℕ) → t ≢ scp → t ≢ dcp → find (is_at t) mid ≡ row_at between t
    mid_other t not_scp not_dcp = moved_elsewhere (is_at scp) (is_at t) moved between.nodes (all_from_has _ between.nodes (λ x there at_scp.
        let u = all_has (λ x. (u : List ℕ) × (node_path x ≡ Text u)) between.nodes x texts_between there in
        let is : u.0 ≡ scp = is_same u.0 scp (sym (has_text 2 x u.0 scp u.1) ∙ at_scp) in
        (has_text 2 x u.0 t u.1 ∙ apart u.0 t (λ e. not_scp (sym e ∙ is)), at_moved x t ∙ apart dcp t (λ e. not_dcp (sym e)))))

    source_card : (row : Row) → row_at rows scp ≡ Some row → row_at between scp ≡ Some row
    source_card row found = between_other scp card_texts_apart (λ is. book_card sb sb sc named_sb named_sb named_sc (sym is)) ∙ found

    after_card : (row : Row) → row_at rows scp ≡ Some row → row_at after dcp ≡ Some (moved row)
    after_card row found =
        found_after dcp
        ∙ ap (option_map upd2) (moved_here (is_at scp) (is_at dcp) moved between.nodes between_none (λ x. at_moved x dcp ∙ same_itself dcp) ∙ ap (option_map moved) (source_card row found))
        ∙ ap (λ t. Some (cond t (with_number n2 (moved row)) (moved row))) (at_moved row tbp ∙ apart dcp tbp (λ is. book_card tb tb tc named_tb named_tb named_tc (sym is)))

    after_source : row_at after scp ≡ None
    after_source = found_after scp ∙ ap (option_map upd2) (moved_away (is_at scp) moved between.nodes (λ x. at_moved x scp ∙ apart dcp scp (λ e. card_texts_apart (sym e))))

    -- the rows at other texts are changed in their numbers alone
    after_other : (t : List ℕ) → t ≢ scp → t ≢ dcp → row_at after t ≡ option_map upd2 (row_at between t)
    after_other t not_scp not_dcp = found_after t ∙ ap (option_map upd2) (mid_other t not_scp not_dcp)

    text_of_target : is_at tbp target_row ≡ true
    text_of_target = (found_has (is_at tbp) between.nodes target_row at_target).1

    after_book : row_at after tbp ≡ Some (with_number n2 target_row)
    after_book =
        after_other tbp (book_card tb sb sc named_tb named_sb named_sc) (book_card tb tb tc named_tb named_tb named_tc) ∙ ap (option_map upd2) at_target
        ∙ ap (λ t. Some (cond t (with_number n2 target_row) target_row)) text_of_target

    upd2_other : (t : List ℕ) (found : Option Row) → row_at between t ≡ found → t ≢ tbp → option_map upd2 found ≡ found
    upd2_other t None is h = refl
    upd2_other t (Some r) is h =
        let f = found_has (is_at t) between.nodes r is in
        let u = all_has (λ x. (u : List ℕ) × (node_path x ≡ Text u)) between.nodes r texts_between f.0 in
        let same_text : u.0 ≡ t = is_same u.0 t (sym (has_text 2 r u.0 t u.1) ∙ f.1) in
        ap (λ x. Some (cond x (with_number n2 r) r)) (has_text 2 r u.0 tbp u.1 ∙ apart u.0 tbp (λ e. h (sym same_text ∙ e)))

    -- ---- resources

    moved_resource : (row : Row) → row_at rows scp ≡ Some row → resource_of cleared.entries (moved row) ≡ card_resource n2 card
    moved_resource row found =
        let told : resource_of rows.entries row ≡ card_resource (number_of sbook sc) card =
        same_Some _ _ (sym (ap (option_map (resource_of rows.entries)) found) ∙ card_told rows o gives sb sc named_sb named_sc sbook sthere ∙ ap (option_map (card_resource (number_of sbook sc))) its) in
        let there : resource_of cleared.entries row ≡ card_resource (number_of sbook sc) card = same_Some _ _ (same_lists scp (Some row) found card_texts_apart) ∙ told in
        ap (λ (r : Resource). record r { number = n2 }) there

    resources_after : (row : Row) → row_at rows scp ≡ Some row → (p : Path) → IsPath p → resource_in after (path_text p) ≡ resource_at o2 p
    resources_after row found p is_path =
        by_names (path_text p) dcp (λ _. resource_in after (path_text p) ≡ resource_at o2 p)
        (λ is.
        let same_path : p ≡ path.Card tb tc = one_text p (path.Card tb tc) is_path is_tc is in
        ap (option_map (resource_of cleared.entries)) (ap (row_at after) is ∙ after_card row found) ∙ ap Some (moved_resource row found)
        ∙ sym (office.at_card o1 tb tc tbook tthere (insert tbook.cards tc card) (Some card) here2 others2) ∙ ap (resource_at o2) (sym same_path))
        (λ not_dcp. by_names (path_text p) scp (λ _. resource_in after (path_text p) ≡ resource_at o2 p)
        (λ is.
        let same_path : p ≡ path.Card sb sc = one_text p (path.Card sb sc) is_path is_sc is in
        ap (option_map (resource_of cleared.entries)) (ap (row_at after) is ∙ after_source)
        ∙ sym (office.elsewhere o1 tb tc tbook tthere (insert tbook.cards tc card) (Some card) here2 others2 (path.Card sb sc) (λ e. book_or_card (sym e)) paths_apart
        ∙ office.at_card o sb sc sbook sthere (remove sbook.cards sc) None here1 others1) ∙ ap (resource_at o2) (sym same_path))
        (λ not_scp. by_names (path_text p) tbp (λ _. resource_in after (path_text p) ≡ resource_at o2 p)
        (λ is.
        let same_path : p ≡ path.Book tb = one_text p (path.Book tb) is_path named_tb is in
        ap (option_map (resource_of cleared.entries)) (ap (row_at after) is ∙ after_book)
        ∙ ap (λ (r : Resource). Some (record r { number = n2 })) target_resource
        ∙ sym (office.at_book o1 tb tc tbook tthere (insert tbook.cards tc card) (Some card) here2 others2) ∙ ap (resource_at o2) (sym same_path))
        (λ not_tbp.
        ap (option_map (resource_of cleared.entries)) (after_other (path_text p) not_scp not_dcp ∙ upd2_other (path_text p) (row_at between (path_text p)) refl not_tbp)
        ∙ resources_between p is_path (λ e. not_scp (ap path_text e)) (λ e. not_dcp (ap path_text e))
        ∙ sym (office.elsewhere o1 tb tc tbook tthere (insert tbook.cards tc card) (Some card) here2 others2 p (λ e. not_tbp (ap path_text e)) (λ e. not_dcp (ap path_text e))))))

    -- ---- rows

    keeps_above : KeepsAbove rows after
    keeps_above q is_path no_card r found =
        let not_scp : path_text q ≢ scp = λ is. no_card sb sc (one_text q (path.Card sb sc) is_path is_sc is) in
        let not_dcp : path_text q ≢ dcp = λ is. no_card tb tc (one_text q (path.Card tb tc) is_path is_tc is) in
        (upd2 (upd1 r), after_other (path_text q) not_scp not_dcp ∙ ap (option_map upd2) (between_not (path_text q) not_dcp ∙ ap (option_map upd1) found), upd2_id (upd1 r) ∙ upd1_id r)

    kept_row : (x : Row) → Has cleared.nodes x → (y : Row) × Has after.nodes y × (rowid y ≡ rowid x)
    kept_row x there =
        let one = has_updated (is_at sbp) (with_number n1) (λ r. refl) cleared.nodes x there in
        let two = has_updated (is_at scp) moved (λ r. refl) between.nodes one.0 one.1 in
        let three = has_updated (is_at tbp) (with_number n2) (λ r. refl) mid two.0 two.1 in
        (three.0, three.1, three.2 ∙ two.2 ∙ one.2)

    id2_is : rowid target_row ≡ id2
    id2_is = by_option (row_at cleared tbp)
        (λ none. some_apart (sym at_target ∙ found_between tbp ∙ ap (option_map upd1) none))
        (λ r is.
        let same_row : target_row ≡ upd1 r = same_Some _ _ (sym at_target ∙ found_between tbp ∙ ap (option_map upd1) is) in
        let there = clear.nodes r (found_has (is_at tbp) cleared.nodes r is).0 in
        let k = key_is r (all_has _ rows.nodes r shaped.1 there) in
        let ids : rowid target_row ≡ rowid r = ap rowid same_row ∙ upd1_id r in
        ids ∙ k ∙ ap (λ v. Int (id_in v)) (sym ids))

    source_moved : (x : Row) → IsNode rows x → is_at scp x ≡ true → IsNode after (moved x)
    source_moved x (p, n) at_scp =
        let texts : path_text p ≡ scp = is_same (path_text p) scp (sym (has_text 2 x (path_text p) scp n.path) ∙ at_scp) in
        let at_card : IsNodeAt rows x (path.Card sb sc) = subst (IsNodeAt rows x) (one_text p (path.Card sb sc) n.named is_sc texts) n in
        (path.Card tb tc, record { named = is_tc; path = refl; parent = (with_number n2 target_row, after_book, sym id2_is); kind = at_card.kind; number = refl })

    nodes_after : AllByRecursion (IsNode after) after.nodes
    nodes_after =
        all_updated (IsNode after) (is_at tbp) (with_number n2) (node_changed after (with_number n2) (numbered_keeps n2)) mid
        (all_moved (IsNode rows) (IsNode after) (is_at scp) moved source_moved (λ x n _. node_kept rows after keeps_above x n) between.nodes
        (all_updated (IsNode rows) (is_at sbp) (with_number n1) (node_changed rows (with_number n1) (numbered_keeps n1)) cleared.nodes
        (all_from_has (IsNode rows) cleared.nodes (λ x there. all_has (IsNode rows) rows.nodes x gives.nodes (clear.nodes x there)))))

    -- ---- removed names

    abbrev grown : List Row
    grown = cleared.gone ++ writes.gone_row (next_rowid cleared.gone) id1 sc n1 ∷ []

    abbrev grown_rows : List Row
    grown_rows = gone.grown rows o gives shaped sb sc named_sb source_row at_source rows.gone n1 id1 id1_is (next_rowid rows.gone)

    grown_is : grown ≡ grown_rows
    grown_is = ap (λ g. g ++ writes.gone_row (next_rowid g) id1 sc n1 ∷ []) clear.gone

    all_grown : AllByRecursion (IsRemoved rows) grown_rows
    all_grown = all-append (IsRemoved rows) rows.gone _ gives.removed (gone.added_row rows o gives shaped sb sc named_sb source_row at_source rows.gone n1 id1 id1_is (next_rowid rows.gone), tt)

    -- the row of a book has its number afterwards
    same_book : (g : List Row) (name : List ℕ) (found : Option Row) → removed_from g name (option_map upd2 (option_map upd1 found)) ≡ removed_from g name found
    same_book g name None = refl
    same_book g name (Some r) = ap (λ v. option_map (λ row. number_in (gone_number row)) (find (is_gone v name) g)) (upd2_id (upd1 r) ∙ upd1_id r)

    book_after : (a : List ℕ) → IsName a → row_at after (book_path a) ≡ option_map upd2 (option_map upd1 (row_at rows (book_path a)))
    book_after a named_a =
        after_other (book_path a) (book_card a sb sc named_a named_sb named_sc) (book_card a tb tc named_a named_tb named_tc)
        ∙ ap (option_map upd2) (between_not (book_path a) (book_card a tb tc named_a named_tb named_tc))

    module _ (row : Row) (at_row : row_at rows tbp ≡ Some row) where
      same_id : rowid row ≡ id2
      same_id = sym (upd1_id row) ∙ ap rowid (same_Some _ _ (sym (ap (option_map upd1) at_row) ∙ sym (between_not tbp (book_card tb tb tc named_tb named_tb named_tc)) ∙ at_target)) ∙ id2_is

      abbrev left_rows : List Row
      left_rows = gone.left rows o gives shaped tb tc named_tb row at_row grown_rows all_grown

      gone_is : after.gone ≡ left_rows
      gone_is = λ i. delete_where (is_gone (sym same_id i) tc) (grown_is i)

      removed_is : (a name : List ℕ) → IsName a → removed_in after a name ≡ removed_from left_rows name (row_at rows (book_path a))
      removed_is a name named_a = (λ i. removed_from (gone_is i) name (book_after a named_a i)) ∙ same_book left_rows name (row_at rows (book_path a))

      -- a name other than the one that arrived
      other_name : (a name : List ℕ) → IsName a → (a ≡ tb → name ≢ tc) → removed_from left_rows name (row_at rows (book_path a)) ≡ removed_at o1 a name
      other_name a name named_a other =
          gone.deleted_elsewhere rows o gives shaped tb tc named_tb row at_row grown_rows all_grown a name named_a other
          ∙ by_names a sb (λ _. removed_from grown_rows name (row_at rows (book_path a)) ≡ removed_at o1 a name)
          (λ is. by_names name sc (λ _. removed_from grown_rows name (row_at rows (book_path a)) ≡ removed_at o1 a name)
          (λ same_name.
          ap (removed_from grown_rows name) (ap (λ k. row_at rows (book_path k)) is ∙ at_source)
          ∙ ap (λ k. removed_from grown_rows k (Some source_row)) same_name
          ∙ gone.added_here rows o gives shaped sb sc named_sb source_row at_source rows.gone n1 id1 id1_is (next_rowid rows.gone) (not_gone rows o gives sb sc named_sb source_row at_source sbook sthere card its)
          ∙ sym (office.removed_here o sb sc sbook sthere (remove sbook.cards sc) None here1 others1) ∙ (λ i. removed_at o1 (sym is i) (sym same_name i)))
          (λ other_c. before a name named_a (λ _. other_c) ∙ ap (λ k. removed_at o k name) is
          ∙ sym (office.removed_in_book o sb sc sbook sthere (remove sbook.cards sc) None here1 others1 name other_c) ∙ ap (λ k. removed_at o1 k name) (sym is)))
          (λ differs. before a name named_a (λ is. absurd (differs is))
          ∙ sym (office.removed_elsewhere o sb sc sbook sthere (remove sbook.cards sc) None here1 others1 a name differs))
        where
          before : (a name : List ℕ) → IsName a → (a ≡ sb → name ≢ sc) → removed_from grown_rows name (row_at rows (book_path a)) ≡ removed_at o a name
          before a name named_a other =
              gone.added_elsewhere rows o gives shaped sb sc named_sb source_row at_source rows.gone n1 id1 id1_is (next_rowid rows.gone) a name named_a other ∙ gives.gone a name named_a

      removed_after : (a name : List ℕ) → IsName a → removed_in after a name ≡ removed_at o2 a name
      removed_after a name named_a = removed_is a name named_a ∙ by_names a tb (λ _. removed_from left_rows name (row_at rows (book_path a)) ≡ removed_at o2 a name)
          (λ is. by_names name tc (λ _. removed_from left_rows name (row_at rows (book_path a)) ≡ removed_at o2 a name)
          (λ same_name.
          ap (removed_from left_rows name) (ap (λ k. row_at rows (book_path k)) is ∙ at_row)
          ∙ ap (λ k. removed_from left_rows k (Some row)) same_name
          ∙ gone.deleted_here rows o gives shaped tb tc named_tb row at_row grown_rows all_grown
          ∙ sym (office.removed_here o1 tb tc tbook tthere (insert tbook.cards tc card) (Some card) here2 others2) ∙ (λ i. removed_at o2 (sym is i) (sym same_name i)))
          (λ other. other_name a name named_a (λ _. other) ∙ ap (λ k. removed_at o1 k name) is
          ∙ sym (office.removed_in_book o1 tb tc tbook tthere (insert tbook.cards tc card) (Some card) here2 others2 name other) ∙ ap (λ k. removed_at o2 k name) (sym is)))
          (λ differs. other_name a name named_a (λ is. absurd (differs is))
          ∙ sym (office.removed_elsewhere o1 tb tc tbook tthere (insert tbook.cards tc card) (Some card) here2 others2 a name differs))

      gone_rows : AllByRecursion (IsRemoved after) after.gone
      gone_rows = subst (AllByRecursion (IsRemoved after)) (sym gone_is) (all_from_has (IsRemoved after) left_rows (λ g there.
          gone_kept rows after keeps_above g (all_has (IsRemoved rows) grown_rows g all_grown (in_left (is_gone (rowid row) tc) grown_rows g there).0)))

      pub gives_moved : (card_row : Row) → row_at rows scp ≡ Some card_row → Gives after o2
      gives_moved card_row found = record {
        nodes = nodes_after;
        entries = all_from_has (IsEntry after) cleared.entries (clear.entry after kept_row);
        removed = gone_rows;
        resources = resources_after card_row found;
        members = λ m. ap (λ ms. is_some (find (is_member m) ms)) clear.members ∙ gives.members m;
        gone = removed_after;
        meta = (gives.meta.0, clear.meta ∙ gives.meta.1);
      }
