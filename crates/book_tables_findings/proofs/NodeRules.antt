-- The rules of a row of `node`.
use Rattle.book_tables_findings.proofs.Common.{◌≡◌, List, Option, Some, None, Result, Ok, Err, IfOk, IfSome, IfNone, Row}
use Rattle.sqlite.specs.declared.types.Value.TheVariants.{Text}
use Rattle.book_office_values.specs.declared.paths.Path.{Path}
use Rattle.book_office_values.specs.Paths.{IsPath, path_text}
use Rattle.book_tables_opening.specs.Opening.{IsTextlessRow}
use Rattle.book_tables_opening.specs.Shown.{shown_path}
use Rattle.book_tables_opening.proofs.PathRows.{node_row, stands, says}
use Rattle.book_tables_findings.specs.Findings.{BreaksAt, BreaksNode, KeepsAt}
use Rattle.book_tables_findings.specs.declared.findings.NodeRule.{NodeRule}
use Rattle.book_tables_findings.specs.declared.findings.NodeRule.TheVariants as of_node

module _ (nodes : List Row) (row : Row) (at : Path) (named : IsPath at) (is : shown_path row ≡ Text (path_text at)) where
  breaks_at : (rule : NodeRule) → BreaksAt nodes at row rule → BreaksNode nodes row rule
  breaks_at of_node.Path b = absurd b
  breaks_at of_node.Parent b = record { at = at; named = named; path = is; broken = b }
  breaks_at of_node.Kind b = record { at = at; named = named; path = is; broken = b }
  breaks_at of_node.Owner b = record { at = at; named = named; path = is; broken = b }
  breaks_at of_node.Label b = record { at = at; named = named; path = is; broken = b }
  breaks_at of_node.Number b = record { at = at; named = named; path = is; broken = b }

  -- what is told of a row at its path is told of the row
  pub node_found : {E : Type 0} (r : Result (Option NodeRule) E) → IfOk r (λ found. IfSome found (BreaksAt nodes at row)) → IfOk r (λ found. IfSome found (BreaksNode nodes row))
  node_found (Ok (Some rule)) b = breaks_at rule b
  node_found (Ok None) b = tt
  node_found (Err e) b = tt

  pub node_none : {E : Type 0} (r : Result (Option NodeRule) E) → IfOk r (λ found. IfNone found (KeepsAt nodes at row)) → IfOk r (λ found. IfNone found (IsTextlessRow nodes row))
  node_none (Ok (Some rule)) k = tt
  node_none (Ok None) k = node_row nodes row at named is k.stands k.content
  node_none (Err e) k = tt

-- a row that breaks a rule is none of a node
pub no_node : (nodes : List Row) (row : Row) (rule : NodeRule) → BreaksNode nodes row rule → IsTextlessRow nodes row → ⊥
no_node nodes row of_node.Path none n = none n.at n.named n.path
no_node nodes row of_node.Parent b n = b.broken (stands nodes row b.at b.named b.path n).parent
no_node nodes row of_node.Kind b n = b.broken (stands nodes row b.at b.named b.path n).kind
no_node nodes row of_node.Owner b n = b.broken n.owner
no_node nodes row of_node.Label b n = b.broken n.label
no_node nodes row of_node.Number b n = let s = says nodes row b.at b.named b.path n in b.broken (s.natural, s.number)
