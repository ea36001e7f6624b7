use Rattle.book_office_adopting.proofs.Common.{◌≡◌, not, rules, sym, ap, ◌∙◌, len, Office, taken_over, same_office, bare}
use Rattle.book_office_adopting.proofs.TakenOver.{stays, stays_bare, told, len_bare}
use Rattle.book_office_adopting.proofs.adopting.adoption_of.Goals as goal

pub returns : goal.returns
returns c =
    let t = c.args.policy.now in
    let o = c.args.office.now in
    let is : c.in_ok-new.new ≡ bare (taken_over t o) = search rules in
    let same : c.in_ok-same.same ≡ same_office o (taken_over t o) = told t o c.in_ok-same.same
    (λ e. stays t o (c.in_ok-same.ensures.0 e ∙ ap bare is))
    (λ e. c.in_ok-same.ensures.1 (stays_bare t o e ∙ ap bare (sym is))) in
    let books : c.len-books.result ≡ len (taken_over t o).books = c.len-books.ensures ∙ ap (λ (p : Office). len p.books) is ∙ len_bare t o in
    λ i. record { changed = not (same i); books = books i }
