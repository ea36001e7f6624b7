use Rattle.book_tables.proofs.Common.{◌≡◌, List, map, ap, ◌∙◌, empty, entries, state, Inside, Office, inside_of, NamesTo, Properties, listed_principals, Listed, added, place_told}
use Rattle.book_office_values.specs.declared.paths.Kind.TheVariants as kind
use Rattle.book_tables.proofs.Listings.{principals_told}
use Rattle.book_tables.proofs.Readings.{then_tells}
use Rattle.book_tables.proofs.bare_office.read_groups.Goals as goal

pub returns-clause-reads : goal.returns-clause-reads
returns-clause-reads g c =
    let old : Inside = inside_of (state g.S.Store c.args.transaction.now.conn.now) c.args.failures.now in
    let new : Inside = inside_of (state g.S.Store c.children.new.transaction.conn.now) c.children.new.failures in
    then_tells old new c.in_ok-listed.listed (λ (o : Office) (listed : List Listed). listed ≡ listed_principals kind.Group (entries o.groups)) c.in_ok-listed.ensures.reads
    c.in_ok-principals_of.field-0 (λ (o : Office) (groups : NamesTo Properties). groups ≡ o.groups)
    (λ o e. c.in_ok-principals_of.ensures ∙ ap (λ (listed : List Listed). added empty (map place_told listed)) e ∙ principals_told kind.Group o.groups)
