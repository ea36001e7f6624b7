use Rattle.book_tables_opening.proofs.Common.{◌≡◌, ◌≢◌, Some, rules, subst, text_in, IsPath, path_text, shown_path}
use Rattle.book_office_values.specs.Paths.{SpellsPath}
use Rattle.book_tables_opening.proofs.PathRows.{slashed}
use Rattle.book_tables_opening.proofs.node_tests.path_at.Goals as goal

pub returns-then-not-branch-clause-none : goal.returns-then-not-branch-clause-none
returns-then-not-branch-clause-none c =
    let has : text_in (shown_path c.args.row.now) ≡ Some c.in-Some.bytes.now = search rules in
    let found : IsPath c.in-Some-2.path × SpellsPath c.in-Ok.text.now c.in-Some-2.path = search rules in
    let same : c.in-Ok.text.now ≡ c.in-Some.bytes.now = search rules in
    let apart : c.in-Some.bytes.now ≢ path_text c.in-Some-2.path = λ is. search (rules, is) in
    slashed (shown_path c.args.row.now) c.in-Some.bytes.now c.in-Some-2.path has found.0 (subst (λ t. SpellsPath t c.in-Some-2.path) same found.1) apart
