use Rattle.book_office_listings.proofs.Common.{◌≡◌, ◌++◌, ◌∷◌, Bool, Leaf, ap, sym, ◌∙◌, read_by, effective_of, bare_entries}
use Rattle.std.proofs.Common.{◌&&◌}
use Rattle.book_lists.proofs.OneReader.{granted_one}
use Rattle.book_lists.proofs.OneOutcome.{one_grant}
use Rattle.book_lists.specs.Readings.{bears_read, denying_read}
use Rattle.book_lists.specs.Deciders.{granted_read}
use Rattle.book_lists.proofs.FirstFound.{grants_tells}
use Rattle.book_office_listings.specs.Values.{granted_by}
use Rattle.book_office_listings.proofs.ToldValues.{told_privileges}
use Rattle.book_office_listings.proofs.granting.granted_at.Goals as goal

pub returns : goal.returns
returns c =
    let circle = c.args.circle.now in
    let here = c.args.here.now in
    let above = c.args.above.now in
    let walked = effective_of (c.from_ref.result.now ++ above) in
    let list = effective_of (c.args.own.now ∷ above) in
    let set = c.all.result in
    let same : walked ≡ list = ap (λ levels. effective_of (levels ++ above)) c.from_ref.ensures.value in
    let readings = read_by circle here (bare_entries list) in
    let told = c.granted.ensures set (read_by circle here (bare_entries walked)) c.walk.ensures in
    let is : (leaf : Leaf) → c.granted.result leaf ≡ granted_read readings leaf = λ leaf.
    told leaf ∙ ap (λ (f : Leaf → Bool). f leaf && granted_read (read_by circle here (bare_entries walked)) leaf) c.all.ensures
    ∙ ap (λ es. granted_read (read_by circle here (bare_entries es)) leaf) same in
    one_grant (bare_entries list) circle here c.granted.result (granted_by list circle here)
    (granted_one circle here (bare_entries list) c.granted.result (λ leaf.
    let tells = grants_tells bears_read denying_read readings leaf in
    (λ has. tells.0 (sym (is leaf) ∙ has), λ g. is leaf ∙ tells.1 g)))
    (told_privileges list circle here)
