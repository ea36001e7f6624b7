-- Edits that write no row of `reach`.
use Rattle.book_tables.proofs.Common.{◌≡◌, ℕ, ◌+◌, Bool, true, false, List, [], ◌∷◌, Option, Some, None, refl, sym, ap, subst, ◌∙◌, Value, Int, Row, id_in, rowid, Memberships, Place, Joined, in_turn, Rows}
use Rattle.book_tables_rows.specs.Adopting.{Listed, add_under, write_found, write_place, list_found, write_lists, write_group, written_rows}
use Rattle.book_tables_rows.specs.Nodes.{PutsCard, RemovesBook, RemovesCard, AddsBook, LabelsCard, LabelsNode, PutsCopy, MovesCard, SetsList}
use Rattle.book_tables_rows.specs.Writes as writes
use Rattle.book_tables_rows.specs.Writes.{Said}
use Rattle.book_tables.specs.Reach.{HoldsReach}

-- the same rows hold what chains of the same pairs lead to
pub still_holds : (old new : Rows) (before after : Memberships) → new.reach ≡ old.reach → after ≡ before → HoldsReach old.reach before → HoldsReach new.reach after
still_holds old new before after rows pairs holds = subst (λ p. HoldsReach new.reach p) (sym pairs) (subst (λ rs. HoldsReach rs before) (sym rows) holds)

-- ---- the rows

abbrev reach_in : Rows → List Row
reach_in rows = rows.reach

card_written : (id : Value) (there : Bool) (at name : List ℕ) (owner : Option (List ℕ)) (text : List ℕ) (number : ℕ) (rows : Rows) → (writes.write_card id there at name owner text number rows).reach ≡ rows.reach
card_written id true at name owner text number rows = refl
card_written id false at name owner text number rows = refl

copy_written : (id : Value) (there : Bool) (at name : List ℕ) (owner : Option (List ℕ)) (label text : List ℕ) (number : ℕ) (rows : Rows) → (writes.write_copy id there at name owner label text number rows).reach ≡ rows.reach
copy_written id true at name owner label text number rows = refl
copy_written id false at name owner label text number rows = refl

cleared : (found : Option Row) (rows : Rows) → (writes.clear_at found rows).reach ≡ rows.reach
cleared None rows = refl
cleared (Some card) rows = refl

pub listed : (id : Value) (protected : Bool) (place : ℕ) (list : List Said) (rows : Rows) → (writes.insert_list id protected place list rows).reach ≡ rows.reach
listed id protected place [] rows = refl
listed id protected place (e ∷ more) rows = listed id protected (place + 1) more (writes.insert_listed id protected place e rows)

module _ (rows after : Rows) where
  pub put_keeps : (book_path card_path name : List ℕ) (owner : Option (List ℕ)) (text : List ℕ) → PutsCard rows after book_path card_path name owner text → after.reach ≡ rows.reach
  put_keeps book_path card_path name owner text made = ap reach_in made.rows_are ∙ card_written _ _ card_path name owner text _ rows

  pub copy_keeps : (source book_path card_path name : List ℕ) (owner : Option (List ℕ)) → PutsCopy rows after source book_path card_path name owner → after.reach ≡ rows.reach
  copy_keeps source book_path card_path name owner made = ap reach_in made.rows_are ∙ copy_written _ _ card_path name owner _ _ _ rows

  pub removal_keeps : (book_path card_path name : List ℕ) → RemovesCard rows after book_path card_path name → after.reach ≡ rows.reach
  removal_keeps book_path card_path name made = ap reach_in made.rows_are

  pub move_keeps : (source_book card_path source_name target_book destination target_name : List ℕ) → MovesCard rows after source_book card_path source_name target_book destination target_name → after.reach ≡ rows.reach
  move_keeps source_book card_path source_name target_book destination target_name made = ap reach_in made.arrived.rows_are ∙ ap reach_in made.left.rows_are ∙ cleared _ rows

  pub book_keeps : (home path : List ℕ) (owner : Option (List ℕ)) → AddsBook rows after home path owner → after.reach ≡ rows.reach
  book_keeps home path owner made = ap reach_in made.rows_are

  pub no_book_keeps : (path : List ℕ) → RemovesBook rows after path → after.reach ≡ rows.reach
  no_book_keeps path made = ap reach_in made.rows_are

  pub card_label_keeps : (book_path card_path label : List ℕ) → LabelsCard rows after book_path card_path label → after.reach ≡ rows.reach
  card_label_keeps book_path card_path label made = ap reach_in made.rows_are

  pub label_keeps : (path label : List ℕ) → LabelsNode rows after path label → after.reach ≡ rows.reach
  label_keeps path label made = ap reach_in made.rows_are

  pub list_keeps : (path : List ℕ) (list : List Said) → SetsList rows after path list → after.reach ≡ rows.reach
  list_keeps path list made = ap reach_in made.rows_are ∙ listed _ false 0 list (writes.delete_own _ rows)

-- ---- what is written with a policy

keeps_in_turn : {A : Type 0} (write : A → Rows → Rows) → ((a : A) (rows : Rows) → (write a rows).reach ≡ rows.reach) → (items : List A) (rows : Rows) → (in_turn write items rows).reach ≡ rows.reach
keeps_in_turn write keeps [] rows = refl
keeps_in_turn write keeps (a ∷ more) rows = keeps_in_turn write keeps more (write a rows) ∙ keeps a rows

place_added : (above : Option Row) (p : Place) (rows : Rows) → (add_under above p rows).reach ≡ rows.reach
place_added None p rows = refl
place_added (Some row) p rows = refl

place_found : (found : Option Row) (p : Place) (rows : Rows) → (write_found found p rows).reach ≡ rows.reach
place_found None p rows = place_added _ p rows
place_found (Some row) p rows = refl

lists_found : (found : Option Row) (l : Listed) (rows : Rows) → (list_found found l rows).reach ≡ rows.reach
lists_found None l rows = refl
lists_found (Some row) l rows =
    let id : Value = Int (id_in (rowid row)) in
    listed id false 0 l.own (writes.insert_list id true 0 l.protected (writes.delete_entries id rows)) ∙ listed id true 0 l.protected (writes.delete_entries id rows)

members_inserted : (group : List ℕ) (members : List (List ℕ)) (rows : Rows) → (writes.insert_members group members rows).reach ≡ rows.reach
members_inserted group [] rows = refl
members_inserted group (m ∷ more) rows = members_inserted group more (writes.insert_member group m rows)

pub members_keep : (group : List ℕ) (members : List (List ℕ)) (rows : Rows) → (writes.write_members group members rows).reach ≡ rows.reach
members_keep group members rows = members_inserted group members (writes.delete_members group rows)

pub policy_keeps : (places : List Place) (lists : List Listed) (groups : List Joined) (rows : Rows) → (written_rows places lists groups rows).reach ≡ rows.reach
policy_keeps places lists groups rows =
    let placed = in_turn write_place places rows in
    keeps_in_turn write_group (λ g r. members_keep g.group g.members r) groups (in_turn write_lists lists placed)
    ∙ keeps_in_turn write_lists (λ l r. lists_found _ l r) lists placed
    ∙ keeps_in_turn write_place (λ p r. place_found _ p r) places rows
