-- The law: the decisions in a widened Office are those that were.
use Rattle.std.proofs.Common.{◌≡◌, Bool, true, false, List, [], ◌∷◌, ◌++◌, map, Option, Some, None, option_map, unwrap_or, sym, ◌∙◌, subst}
use Rattle.std.specs.List.{AllByRecursion}
use Rattle.std.proofs.lemmas.Option.{same_Some}
use Rattle.sqlite.specs.Order.{Row}
use Rattle.sqlite.specs.Effect.{Database}
use Rattle.sqlite.specs.Tree.{rowid}
use Rattle.book_lists.specs.Widening.{IsOfFirst}
use Rattle.book_lists.specs.declared.entries.Entry.{Entry}
use Rattle.book_lists.proofs.Widened.{decided_alike}
use Rattle.book_office_values.specs.declared.offices.Office.{Office}
use Rattle.book_office_values.specs.declared.paths.Path.{Path}
use Rattle.book_office_values.specs.Paths.{levels, path_text}
use Rattle.book_office_values.proofs.OneName.{by_option, some_apart}
use Rattle.book_office.specs.InForce.{list_in as list_of_level, lists_in, in_force_at}
use Rattle.book_office.specs.Levels.{level_at}
use Rattle.book_office.specs.Resources.{Resource, resource_at}
use Rattle.book_office.proofs.StandingResources.{resources_stand_in_place}
use Rattle.book_tables_renewing.specs.Renewal.{first_rows_of}
use Rattle.book_tables.specs.Rows.{resource_of, row_at}
use Rattle.book_lists.specs.Widening.{widened_entry}
use Rattle.book_tables_migrating.specs.Migrating.{StandsFirst, WidenedOfficesDecideAlike}
use Rattle.book_tables_migrating.proofs.MappedLists.{effective_mapped, in_force_mapped}
use Rattle.book_tables_migrating.proofs.MappedRows.{list_first}

abbrev AreOfFirst : List Entry → Type 0
AreOfFirst = AllByRecursion (λ (e : Entry). IsOfFirst e.set)

append_first : (xs ys : List Entry) → AreOfFirst xs → AreOfFirst ys → AreOfFirst (xs ++ ys)
append_first [] ys h k = k
append_first (x ∷ xs) ys h k = (h.0, append_first xs ys h.1 k)

module _ (db : Database) (o : Office) (st : StandsFirst db o) where
  abbrev entries : List Row
  entries = (first_rows_of db.trees).entries

  -- both lists of a resource of the rows
  lists_first : (found : Option Row) (r : Resource) → option_map (resource_of entries) found ≡ Some r → AreOfFirst r.protected × AreOfFirst r.own
  lists_first None r is = some_apart (sym is)
  lists_first (Some row) r is =
      subst (λ (r : Resource). AreOfFirst r.protected × AreOfFirst r.own) (same_Some (resource_of entries row) r is)
      (list_first entries st.first.masks (rowid row) true, list_first entries st.first.masks (rowid row) false)

  level_first : (protected : Bool) (p : Path) → AreOfFirst (list_of_level protected (level_at o p))
  level_first protected p = by_option (resource_at o p) (λ none. go protected (resource_at o p) none)
      (λ r is.
      let named = (resources_stand_in_place o st.sound p r is).named in
      some protected (resource_at o p) r is (lists_first (row_at (first_rows_of db.trees) (path_text p)) r (st.gives.resources p named ∙ is)))
    where
      go : (protected : Bool) (found : Option Resource) → found ≡ None → AreOfFirst (list_of_level protected (record { path = p; protected = unwrap_or (option_map (λ (r : Resource). r.protected) found) []; own = unwrap_or (option_map (λ (r : Resource). r.own) found) [] }))
      go true None e = tt
      go false None e = tt
      go protected (Some r) e = some_apart e

      some : (protected : Bool) (found : Option Resource) (r : Resource) → found ≡ Some r → AreOfFirst r.protected × AreOfFirst r.own
          → AreOfFirst (list_of_level protected (record { path = p; protected = unwrap_or (option_map (λ (r : Resource). r.protected) found) []; own = unwrap_or (option_map (λ (r : Resource). r.own) found) [] }))
      some protected None r e both = some_apart (sym e)
      some true (Some s) r e both = subst (λ (r : Resource). AreOfFirst r.protected) (sym (same_Some s r e)) both.0
      some false (Some s) r e both = subst (λ (r : Resource). AreOfFirst r.own) (sym (same_Some s r e)) both.1

  levels_first : (protected : Bool) (ps : List Path) → AreOfFirst (lists_in protected (map (level_at o) ps))
  levels_first protected [] = tt
  levels_first protected (p ∷ ps) = append_first (list_of_level protected (level_at o p)) (lists_in protected (map (level_at o) ps)) (level_first protected p) (levels_first protected ps)

  in_force_first : (p : Path) → AreOfFirst (in_force_at o p)
  in_force_first p = append_first (lists_in true (map (level_at o) (levels p))) (lists_in false (map (level_at o) (levels p))) (levels_first true (levels p)) (levels_first false (levels p))

pub offices_alike : WidenedOfficesDecideAlike
offices_alike db o st p circle here need first = (
  in_force_mapped widened_entry o p,
  effective_mapped widened_entry o p,
  decided_alike (in_force_at o p) circle here need (in_force_first db o st p) first,
)
