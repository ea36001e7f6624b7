use Rattle.book_office_listings.proofs.Common.{◌∷◌, subst, effective_of, Level, IsResponseTo, Subject}
use Rattle.std.proofs.Common.{IfOk}
use Rattle.book_office_listings.specs.Listings.{child_path}
use Rattle.book_office_listings.specs.Reading.{child_level}
use Rattle.book_office_listings.proofs.listings.child_response.Goals as goal

pub returns : goal.returns
returns c = λ is.
    let find = c.args.find.now in
    let circle = c.args.circle.now in
    let whole = c.args.whole.now in
    let path = c.args.path.now in
    let levels = c.args.levels.now in
    let child = c.args.child in
    let answered = c.decided.ensures (c.in_ok-verdict.ensures is) in
    subst (λ (subject : Subject). IfOk c.decided.result
    (IsResponseTo find circle whole (child_path path child.name) subject (effective_of (child_level path child ∷ levels)))) c.in_ok-level.ensures.subject
    (subst (λ (level : Level). IfOk c.decided.result (IsResponseTo find circle whole level.path c.in_ok-level.subject (effective_of (level ∷ levels)))) c.in_ok-level.ensures.level
    answered)
