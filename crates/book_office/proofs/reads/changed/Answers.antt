use Rattle.book_office.proofs.Common.{rules, ◌≡◌, [], sym, ap, ◌∙◌, option_map, unwrap_or, Some, get}
use Rattle.std.proofs.lemmas.Result.{IfOk-weaker}
use Rattle.book_office_values.specs.Changes.{Change, changes_after, first_of}
use Rattle.book_office_values.specs.declared.offices.Book.{Book}
use Rattle.book_office.specs.Resources.{changed_in}
use Rattle.book_office.specs.declared.nodes.Changed.{Changed}
use Rattle.book_office.proofs.FirstOf.{first_map}
use Rattle.book_office.proofs.reads.changed.Goals as goal

pub returns-in-Some : goal.returns-in-Some
returns-in-Some c =
    let book : Book = c.in-Some.book.now in
    let most = c.args.at_most in
    let after = changes_after book.changes.last c.args.number in
    let there : get c.args.office.now.books c.args.book.now ≡ Some book = search rules in
    let told : Change → Changed = λ e. record { number = e.0; name = e.1; card = get book.cards e.1 } in
    IfOk-weaker c.changes_of.result _ _ (λ changes is.
    is ∙ first_map told most after
    ∙ ap (λ found. first_of most (unwrap_or (option_map (λ (k : Book). changed_in k (changes_after k.changes.last c.args.number)) found) [])) (sym there)) c.changes_of.ensures
