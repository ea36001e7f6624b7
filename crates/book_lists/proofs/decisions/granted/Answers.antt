use Rattle.book_lists.proofs.Common.{◌≡◌, ◌&&◌, Bool, [], ap, sym, ◌∙◌, read_by, Leaf}
use Rattle.book_lists.specs.Deciders.{granted_read}
use Rattle.book_lists.specs.Readings.{bears_read, denying_read}
use Rattle.book_lists.proofs.FirstFound.{grants_tells}
use Rattle.book_lists.proofs.OneReader.{granted_one}
use Rattle.book_lists.proofs.decisions.granted.Goals as goal

pub returns : goal.returns
returns c =
    let circle = c.args.circle.now in
    let here = c.args.here.now in
    let entries = c.args.entries.now in
    let told = c.granted.ensures c.all.result (read_by circle here entries) (c.over.ensures.scanned c.all.result [] c.start-deciders.ensures) in
    let same : (leaf : Leaf) → c.granted.result leaf ≡ granted_read (read_by circle here entries) leaf =
    λ leaf. told leaf ∙ ap (λ (f : Leaf → Bool). f leaf && granted_read (read_by circle here entries) leaf) c.all.ensures in
    granted_one circle here entries c.granted.result (λ leaf.
    let tells = grants_tells bears_read denying_read (read_by circle here entries) leaf in
    (λ has. tells.0 (sym (same leaf) ∙ has), λ g. same leaf ∙ tells.1 g))
