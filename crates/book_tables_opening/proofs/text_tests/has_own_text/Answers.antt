use Rattle.book_tables_opening.proofs.Common.{◌∙◌, ◌↔◌, rules, IsTrue, ap, subst, state, rows_of, is_of_kind}
use mir.Syntax.{w64}
use Rattle.std.proofs.Common.{FitsSigned}
use Rattle.std.proofs.lemmas.Int.{to_z-of_z}
use Rattle.book_tables_rows.specs.Lists.{ShowsRows}
use Rattle.book_tables_opening.specs.Opening.{IsTextFor}
use Rattle.book_tables_opening.specs.WholeNodes.{first_text, text_of_number, texts_shown}
use Rattle.book_tables_opening.proofs.NodeTexts.{text_shown}
use Rattle.book_tables_opening.proofs.text_tests.has_own_text.Goals as goal

pub returns-clause-told : goal.returns-clause-told
returns-clause-told g c clean book =
    let old = state g.S.Store c.args.transaction.now.conn.now in
    let id = c.int_at.result in
    let range : FitsSigned w64 id = search rules in
    let number = to_z-of_z w64 id range in
    let found = c.in_ok-found.found.items in
    let shown : ShowsRows old (texts_shown id) found = rw number at (c.in_ok-found.ensures.shown clean) in
    let told : IsTrue c.shows_own_text.result ↔ IsTextFor (is_of_kind 5 c.args.node.now) (first_text found) = rw c.deref.ensures.value at c.shows_own_text.ensures in
    subst (λ text. IsTrue c.shows_own_text.result ↔ IsTextFor (is_of_kind 5 c.args.node.now) text) (text_shown old id found shown book ∙ ap (text_of_number (rows_of old.now.trees)) c.int_at.ensures) told
