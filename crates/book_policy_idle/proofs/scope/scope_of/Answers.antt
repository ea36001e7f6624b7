use Rattle.std.proofs.Common.{◌∙◌, List, ap, ap₂, map}
use Rattle.book_office_values.specs.declared.paths.Path.{Path}
use Rattle.book_policy_values.specs.declared.parts.PolicyEntry.{PolicyEntry}
use Rattle.book_policy_values.specs.declared.parts.PolicyTables.{PolicyTables}
use Rattle.book_policy_idle.specs.Marks.{spot_at}
use Rattle.book_policy_idle.proofs.scope.scope_of.Goals as goal

pub returns : goal.returns
returns c = record {
  asking = c.in_ok-askers.ensures;
  there = c.in_ok-places.ensures;
  spots =
      c.in_ok-spots.ensures
      ∙ ap₂ (λ (es : List PolicyEntry) (ps : List Path). map (spot_at es) ps) (c.as_slice-entries.ensures ∙ ap (λ (t : PolicyTables). t.entries) c.tables.ensures) c.as_slice.ensures;
}
