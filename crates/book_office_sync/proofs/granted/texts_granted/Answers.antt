use Rattle.book_office_sync.proofs.Common.{◌∙◌, None, ap, arith, subst, sym}
use Rattle.book_office_sync.specs.Granted.{put_texts}
use Rattle.book_office_sync.specs.Pages.{IsPage, changes_told}
use Rattle.book_office_sync.proofs.GrantedTexts.{put_parts, texts_read}
use Rattle.book_office.proofs.Fallbacks.{then_falls}
use Rattle.book_office_sync.proofs.granted.texts_granted.Goals as goal

pub returns-in_default : goal.returns-in_default
returns-in_default g c =
    let so_far = c.pages.invariant in
    let page = c.in_ok-changes.ensures in
    let circle = c.args.circle.now in
    let b = c.args.book.now in
    let above = c.in_ok-above.above in
    let says = g.T.FromText.from_text_gives in
    let changes = c.in_ok-changes.field-0.changes in
    record {
      was_honest = λ h. so_far.was_honest (page.was_honest h);
      falls = then_falls so_far.falls page.falls;
      value = λ h o stands.
          let known = so_far.value (page.was_honest h) o stands in
          let told = subst (IsPage o b None c.pages.after changes) c.in_default.is (page.value h o (so_far.kept (page.was_honest h) o stands)) in
          texts_read says o circle b c.args.leaf ((g.K.Keeper.standing c.args.keeper.now).sound o stands) above c.put_texts.new.told known.0
          (c.in_ok-put_texts.ensures ∙ ap (λ l. put_texts says above circle c.args.leaf l c.pages.told) (sym told) ∙ sym known.3);
      kept = λ h o stands. page.kept h o (so_far.kept (page.was_honest h) o stands);
      left = λ h y l. so_far.left (page.was_honest h) y (page.left h y l);
      counted = page.counted ∙ so_far.counted;
    }

pub pages-preserved : goal.pages-preserved
pages-preserved g c =
    let so_far = c.pages.invariant in
    let page = c.in_ok-changes.ensures in
    let circle = c.args.circle.now in
    let b = c.args.book.now in
    let above = c.in_ok-above.above in
    let says = g.T.FromText.from_text_gives in
    let changes = c.in_ok-changes.field-0.changes in
    record {
      was_honest = λ h. so_far.was_honest (page.was_honest h);
      falls = then_falls so_far.falls page.falls;
      value = λ h o stands.
          let known = so_far.value (page.was_honest h) o stands in
          let told = subst (IsPage o b None c.pages.after changes) c.in-Some.is (page.value h o (so_far.kept (page.was_honest h) o stands)) in
          let rest = changes_told o b None c.in-Some.number in
          let low = known.1 in
          let rises = told.0 in
          let last = told.1 in (
            known.0,
            omega (arith, low, rises),
            omega (arith, low, rises, last),
            known.3 ∙ ap (λ l. put_texts says above circle c.args.leaf l c.pages.told) told.2 ∙ put_parts says above circle c.args.leaf changes rest c.pages.told
                ∙ ap (put_texts says above circle c.args.leaf rest) (sym c.in_ok-put_texts.ensures),
          );
      kept = λ h o stands. page.kept h o (so_far.kept (page.was_honest h) o stands);
      left = λ h y l. so_far.left (page.was_honest h) y (page.left h y l);
      counted = page.counted ∙ so_far.counted;
    }

-- no book has so many changes
pub returns : goal.returns
returns g c =
    let so_far = c.pages.invariant in
    record {
      was_honest = so_far.was_honest;
      falls = so_far.falls;
      value = λ h o stands q.
          let last = (so_far.value h o stands).2 in
          absurd (omega (arith, last, c.pages-test.false));
      kept = so_far.kept;
      left = so_far.left;
      counted = so_far.counted;
    }
