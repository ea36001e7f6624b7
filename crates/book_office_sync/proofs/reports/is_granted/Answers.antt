use Rattle.book_office_sync.proofs.Common.{◌≡◌, ◌∙◌, Bool, true, refl, ap}
use Rattle.std.proofs.lemmas.Bool.{eq-eqb}
use Rattle.book_rights.specs.declared.privileges.Leaf.{Leaf}
use Rattle.book_rights.specs.Leaves.{place_of, with_leaf}
use Rattle.book_office_sync.specs.Reading.{entries_under}
use Rattle.book_office_sync.proofs.ReadingLaws.{told_granted}
use Rattle.book_office_sync.proofs.reports.is_granted.Goals as goal

pub returns : goal.returns
returns c =
    let leaf = c.args.leaf in
    let held : c.with-set.result leaf ≡ true =
    ap (λ (f : Leaf → Bool). f leaf) c.with-set.ensures ∙ ap (λ (f : Leaf → Bool). with_leaf f leaf leaf) c.empty.ensures
    ∙ eq-eqb (place_of leaf) (place_of leaf) refl in
    c.has.ensures
    ∙ told_granted c.args.circle.now c.args.here.now (entries_under c.args.above.now c.args.own.now) c.with-set.result c.granted.result leaf
    (c.granted.ensures c.with-set.result _ c.deciders_at.ensures) held
