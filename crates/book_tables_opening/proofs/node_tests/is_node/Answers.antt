use Rattle.book_tables_opening.proofs.Common.{◌≡◌, rules, Text, IsPath, path_text, shown_path}
use Rattle.book_tables_opening.specs.Opening.{StandsAt}
use Rattle.book_tables_opening.proofs.PathRows.{stands}
use Rattle.book_tables_opening.proofs.node_tests.is_node.Goals as goal

pub returns-then-not-branch : goal.returns-then-not-branch
returns-then-not-branch c =
    let found : IsPath c.in-Some.path × (shown_path c.args.row.now ≡ Text (path_text c.in-Some.path)) = search rules in
    (λ none. search (rules, none), λ n. let at : StandsAt c.args.directory.now c.in-Some.path c.args.row.now = stands c.args.directory.now c.args.row.now c.in-Some.path found.0 found.1 n in search (rules, at))
