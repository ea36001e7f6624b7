-- What reads of whole tables show.
use Rattle.std.specs.Prelude.{ℕ, List, [], ◌∷◌, map, codes}
use Rattle.sqlite.specs.Order.{Row}
use Rattle.sqlite.specs.Tree.{rowid}
use Rattle.book_tables_rows.specs.Columns.{ace_deny, ace_form, ace_invert, ace_mask, ace_node, ace_place, ace_principal, ace_protected, gone_book, gone_name, gone_number, meta_epoch, meta_version, node_kind, node_label, node_number, node_owner, node_parent, node_path}
use Rattle.book_tables_rows.specs.Rows.{Rows}

abbrev pub list_nodes : List ℕ
list_nodes = codes "SELECT id, path, parent, kind, owner, label, number FROM node"

abbrev pub list_all_entries : List ℕ
list_all_entries = codes "SELECT node, protected, place, form, principal, invert, deny, mask FROM ace2"

-- the rows of `ace`, if there are any
abbrev pub list_former : List ℕ
list_former = codes "SELECT node FROM ace"

abbrev pub list_all_gone : List ℕ
list_all_gone = codes "SELECT book, name, number FROM gone"

-- number of the row, path, parent, kind, owner, label and change number of each node
abbrev pub nodes_shown : Rows → List Row
nodes_shown rows = map (λ row. rowid row ∷ node_path row ∷ node_parent row ∷ node_kind row ∷ node_owner row ∷ node_label row ∷ node_number row ∷ []) rows.nodes

-- each entry, with all its columns
abbrev pub entries_shown : Rows → List Row
entries_shown rows = map (λ row. ace_node row ∷ ace_protected row ∷ ace_place row ∷ ace_form row ∷ ace_principal row ∷ ace_invert row ∷ ace_deny row ∷ ace_mask row ∷ []) rows.entries

-- book, name and number of each removed name
abbrev pub gone_shown : Rows → List Row
gone_shown rows = map (λ row. gone_book row ∷ gone_name row ∷ gone_number row ∷ []) rows.gone

-- version and epoch
abbrev pub meta_shown : Rows → List Row
meta_shown rows = map (λ row. meta_version row ∷ meta_epoch row ∷ []) rows.meta
