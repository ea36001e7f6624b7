-- What a policy changes is written, step by step.
use Rattle.book_tables_rows.proofs.Common.{◌≡◌, inl, inr, ℕ, ◌+◌, List, [], ◌∷◌, find, Option, Some, None, refl, sym, ap, subst, ◌∙◌, false, true, drop, map, Int, Row, State, FoundNode, CanPlace, CanList, Rows, is_at, IsMeta, HasMeta, Told}
use Rattle.std.proofs.Common.{is_none, ◌≤◌}
use Rattle.std.proofs.lemmas.List.{drop_all}
use Rattle.book_tables_rows.specs.Adopting.{Place, Listed, Joined, AdoptsPolicy, CanAdopt, add_under, write_found, write_place, list_found, write_lists, write_group, in_turn, InTurn, written_rows, adopted_rows}
use Rattle.book_tables_rows.specs.Parts.{part_count, part_from, turns}
use Rattle.book_tables_rows.specs.Nodes.{FitEpoch}
use Rattle.book_tables_rows.specs.Writes as writes
use Rattle.book_tables_rows.specs.Writes.{Pair}
use Rattle.book_tables_rows.specs.Plans.{Awaits, nothing}
use Rattle.book_tables_rows.specs.declared.adopting.Part.{Part}
use Rattle.book_tables_rows.specs.declared.adopting.Part.TheVariants.{Places, Lists, Groups}
use Rattle.book_tables_rows.proofs.InScript.{IsThere}
use Rattle.book_tables_rows.proofs.ListSettings.{meta_of_list, meta_of_members, meta_of_reach}

-- ---- a node that is written, and its lists

pub some_there : {A : Type 0} (o : Option A) → is_none o ≡ false → (a : A) × (o ≡ Some a)
some_there None e = absurd cc
some_there (Some a) e = (a, refl)

module _ (rows : Rows) (place : Place) where
  pub places_old : (f : FoundNode) → IsThere rows place.path f → CanPlace place rows × (writes.set_place place.path place.owner place.label rows ≡ write_place place rows)
  places_old f at = (inl (at.row, at.there), sym (ap (λ o. write_found o place rows) at.there))

  pub places_new : (f : FoundNode) → find (is_at place.path) rows.nodes ≡ None → IsThere rows place.parent f
      → CanPlace place rows × (writes.insert_node place.path (Int f.id) place.kind place.owner place.label None 0 rows ≡ write_place place rows)
  places_new f none above = (
    inr (above.row, above.there),
    ap (λ (t : Told). writes.insert_node place.path (Int t.id) place.kind place.owner place.label None 0 rows) (sym above.tells)
        ∙ sym (ap (λ o. write_found o place rows) none ∙ ap (λ o. add_under o place rows) above.there),
  )

pub lists_both : (rows : Rows) (lists : Listed) (f : FoundNode) → IsThere rows lists.path f → CanList lists rows × (writes.write_both (Int f.id) lists.protected lists.own rows ≡ write_lists lists rows)
lists_both rows lists f at = (
  (at.row, at.there),
  ap (λ (t : Told). writes.write_both (Int t.id) lists.protected lists.own rows) (sym at.tells) ∙ sym (ap (λ o. list_found o lists rows) at.there),
)

-- ---- one after another

pub turn : {A : Type 0} (Can : A → Rows → Type 0) (write : A → Rows → Rows) (old new : State) (item : A) (more : List A) → Awaits old new nothing (turns Can write (item ∷ [])) → Awaits old new (turns Can write more) (turns Can write (item ∷ more))
turn Can write old new item more h = record {
  inside = h.inside;
  rows = λ book fit. let x = h.rows book tt in (x.0, tt, (λ such. ((x.2 tt).0, subst (InTurn Can write more) x.3 such)), ap (in_turn write more) x.3);
}

pub turn_at : {A B : Type 0} (made : A → B) (Can : B → Rows → Type 0) (write : B → Rows → Rows) (old new : State) (list : List A) (place : ℕ) (item : A) → drop place list ≡ item ∷ drop (place + 1) list
    → Awaits old new nothing (turns Can write (made item ∷ [])) → Awaits old new (turns Can write (map made (drop (place + 1) list))) (turns Can write (map made (drop place list)))
turn_at made Can write old new list place item next h =
    let more = drop (place + 1) list in
    subst (λ xs. Awaits old new (turns Can write (map made more)) (turns Can write (map made xs))) (sym next) (turn Can write old new (made item) (map made more) h)

-- nothing of a part is left behind its last item
pub none_left : (part : Part) (place : ℕ) → part_count part ≤ place → ((rows : Rows) → (part_from part place).Such rows) × ((rows : Rows) → (part_from part place).write rows ≡ rows)
none_left (Places places) place over = rw (drop_all place places.now over) ((λ rows. tt), (λ rows. refl))
none_left (Lists lists) place over = rw (drop_all place lists.now over) ((λ rows. tt), (λ rows. refl))
none_left (Groups groups) place over = rw (drop_all place groups.now over) ((λ rows. tt), (λ rows. refl))

-- ---- none of them is a row of meta

meta_turns : {A : Type 0} (write : A → Rows → Rows) → ((item : A) (rows : Rows) → (write item rows).meta ≡ rows.meta) → (list : List A) (rows : Rows) → (in_turn write list rows).meta ≡ rows.meta
meta_turns write same [] rows = refl
meta_turns write same (item ∷ more) rows = meta_turns write same more (write item rows) ∙ same item rows

meta_added : (place : Place) (rows : Rows) (found : Option Row) → (add_under found place rows).meta ≡ rows.meta
meta_added place rows None = refl
meta_added place rows (Some above) = refl

meta_placed : (place : Place) (rows : Rows) (found : Option Row) → (write_found found place rows).meta ≡ rows.meta
meta_placed place rows None = meta_added place rows (find (is_at place.parent) rows.nodes)
meta_placed place rows (Some node) = refl

meta_listed : (lists : Listed) (rows : Rows) (found : Option Row) → (list_found found lists rows).meta ≡ rows.meta
meta_listed lists rows None = refl
meta_listed lists rows (Some node) =
    meta_of_list _ false 0 lists.own _ ∙ meta_of_list _ true 0 lists.protected _

pub meta_written : (places : List Place) (lists : List Listed) (groups : List Joined) (rows : Rows) → (written_rows places lists groups rows).meta ≡ rows.meta
meta_written places lists groups rows =
    meta_turns write_group (λ group rows. meta_of_members group.group group.members (writes.delete_members group.group rows)) groups (in_turn write_lists lists (in_turn write_place places rows))
    ∙ meta_turns write_lists (λ lists rows. meta_listed lists rows (find (is_at lists.path) rows.nodes)) lists (in_turn write_place places rows)
    ∙ meta_turns write_place (λ place rows. meta_placed place rows (find (is_at place.path) rows.nodes)) places rows

-- ---- and the epoch

pub adopts : (rows : Rows) (places : List Place) (lists : List Listed) (groups : List Joined) (gone come : List Pair) (epoch : ℕ) (fits : FitEpoch rows) → epoch ≡ fits.meta.0
    → HasMeta (writes.renew_reach gone come (written_rows places lists groups rows))
    × (CanAdopt places lists rows → AdoptsPolicy rows (adopted_rows places lists groups gone come (epoch + 1) rows) places lists groups gone come)
adopts rows places lists groups gone come epoch fits epoch_is =
    let same = meta_of_reach gone come (written_rows places lists groups rows) ∙ meta_written places lists groups rows in (
      (fits.meta.0, subst (λ m. IsMeta m fits.meta.0) (sym same) fits.meta.1),
      λ can. record { there = can; epoch = fits.meta.0; meta = fits.meta.1; rows_are = ap (λ n. adopted_rows places lists groups gone come (n + 1) rows) epoch_is },
    )
