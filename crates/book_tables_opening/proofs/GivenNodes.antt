-- The rows of a sound Office pass as those of an Office: each node, and the homes.
use Rattle.book_tables_opening.proofs.Common.{Option, Some, None, option_map, sym, ap, subst, ◌∙◌, AllByRecursion, Value, id_in, Database, Row, rowid, Has, all_has, Office, Path, path_text, parent_of, IsSound, node_parent, Rows, rows_of, IsBook, resource_of, IsParent, IsNode, Gives, nodes_of, its_resource, all_from_has, number_of_row, has_mapped, IsBelow, IsNodeRow, node_shown, whole_nodes}
use Rattle.book_office_values.specs.declared.paths.Path.TheVariants as path
use Rattle.book_office.proofs.StandingResources.{homes_are_there}
use Rattle.book_tables_opening.specs.Opening.{HasHomes}
use Rattle.book_tables_opening.proofs.HeldResources.{held_resource, held_owner, shown_there}
use Rattle.book_tables_opening.proofs.ShownNodes.{number_shown}

module _ (db : Database) (book : IsBook db) (o : Office) (gives : Gives (rows_of db.trees) o) (sound : IsSound o) where
  abbrev rows : Rows
  rows = rows_of db.trees

  -- a row below another has its number
  pub below_number : (v : Value) (above : Option Path) → IsParent rows v above → IsBelow (whole_nodes rows) above v
  below_number v None h = h
  below_number v (Some p) (row, found, is) =
      let number = number_of_row rows gives.nodes (nodes_of db book).shaped (path_text p) row found in
      (number.0, number_shown rows (path_text p) ∙ ap (option_map (λ r. id_in (rowid r))) found ∙ ap (λ v. Some (id_in v)) number.1, is ∙ number.1)

  each_row : (row : Row) → Has rows.nodes row → IsNodeRow (whole_nodes rows) (node_shown row)
  each_row row there =
      let node = all_has (IsNode rows) rows.nodes row gives.nodes there in
      let held = held_resource o sound node.0 (resource_of rows.entries row) (its_resource rows o gives (nodes_of db book) sound node.0 node.1.named row node.0 there node.1) in
      record {
        at = node.0;
        named = node.1.named;
        path = node.1.path;
        parent = below_number (node_parent row) (parent_of node.0) node.1.parent;
        kind = node.1.kind;
        owner = held_owner rows o gives sound _ held.owner;
        label = held.label;
        text = held.text;
        natural = node.1.number;
        number = held.number;
      }

  pub each_node : AllByRecursion (IsNodeRow (whole_nodes rows)) (whole_nodes rows)
  each_node = all_from_has (IsNodeRow (whole_nodes rows)) (whole_nodes rows) (λ shown there.
      let row = has_mapped node_shown rows.nodes shown there in
      subst (IsNodeRow (whole_nodes rows)) (sym row.2) (each_row row.0 row.1))

  pub homes : HasHomes (whole_nodes rows)
  homes =
      let there = homes_are_there o in
      record {
        root = shown_there rows o gives path.Root tt there.0;
        people = shown_there rows o gives path.People tt there.1;
        groups = shown_there rows o gives path.Groups tt there.2;
        books = shown_there rows o gives path.Books tt there.3;
      }
