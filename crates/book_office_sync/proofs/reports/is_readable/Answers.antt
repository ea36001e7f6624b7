use Rattle.book_office_sync.proofs.Common.{◌≡◌, ◌∙◌, ◌&&◌, Bool, true, false, ap, sym}
use Rattle.book_rights.specs.declared.privileges.Leaf.{Leaf}
use Rattle.book_rights.specs.declared.privileges.Leaf.TheVariants.{ReadTexts, ReadNames}
use Rattle.book_office_sync.specs.Copies.{grants}
use Rattle.book_office_sync.specs.Reading.{entries_under}
use Rattle.book_office_sync.proofs.ReadingLaws.{told_granted}
use Rattle.book_office_sync.proofs.reports.is_readable.Goals as goal

pub returns-then-has : goal.returns-then-has
returns-then-has c =
    let circle = c.args.circle.now in
    let here = c.args.here.now in
    let entries = entries_under c.args.above.now c.args.own.now in
    let told = c.granted-granted.ensures c.leaves-read.result _ c.deciders_at.ensures in
    let texts = told_granted circle here entries c.leaves-read.result c.granted-granted.result ReadTexts told (ap (λ (f : Leaf → Bool). f ReadTexts) c.leaves-read.ensures) in
    let names = told_granted circle here entries c.leaves-read.result c.granted-granted.result ReadNames told (ap (λ (f : Leaf → Bool). f ReadNames) c.leaves-read.ensures) in
    let read : grants entries circle here ReadTexts ≡ true = sym texts ∙ sym c.has.ensures ∙ c.if-has.true in
    c.has-then-has.ensures ∙ names ∙ ap (λ b. b && grants entries circle here ReadNames) (sym read)

pub returns-else-has : goal.returns-else-has
returns-else-has c =
    let circle = c.args.circle.now in
    let here = c.args.here.now in
    let entries = entries_under c.args.above.now c.args.own.now in
    let told = c.granted-granted.ensures c.leaves-read.result _ c.deciders_at.ensures in
    let texts = told_granted circle here entries c.leaves-read.result c.granted-granted.result ReadTexts told (ap (λ (f : Leaf → Bool). f ReadTexts) c.leaves-read.ensures) in
    let unread : grants entries circle here ReadTexts ≡ false = sym texts ∙ sym c.has.ensures ∙ c.if-has.false in
    c.if-has.false ∙ sym (ap (λ b. b && grants entries circle here ReadNames) unread)
