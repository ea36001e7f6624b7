use Rattle.book_office_members.proofs.Common.{◌∙◌, ◌++◌, [], ap, arith, empty, patch, refl, subst, sym, AreCardsOf}
use Rattle.book_office_sync.specs.Views.{viewed, IsViewPage}
use Rattle.book_office_sync.proofs.ViewCopies.{patched_parts}
use Rattle.book_office_members.proofs.Views.{no_cards, parts_joined}
use Rattle.book_office.proofs.Fallbacks.{still_falls, then_falls}
use Rattle.book_office_members.proofs.reporting.cards_viewed.Goals as goal

pub pages-init : goal.pages-init
pages-init g c = record {
  was_honest = λ h. h;
  falls = still_falls;
  value = λ h o stands. (omega arith, omega arith, ([], refl, subst (AreCardsOf empty) (sym c.new-cards.ensures) no_cards));
  kept = λ h o stands. stands;
  left = λ h y l. l;
  counted = refl;
}

pub returns-in_default : goal.returns-in_default
returns-in_default g c =
    let so_far = c.pages.invariant in
    let page = c.in_ok-items.ensures in
    let circle = c.args.circle.now in
    let b = c.args.book.now in
    let items = c.in_ok-items.field-0.items in
    record {
      was_honest = λ h. so_far.was_honest (page.was_honest h);
      falls = then_falls so_far.falls page.falls;
      value = λ h o stands.
          let known = (so_far.value (page.was_honest h) o stands).2 in
          let told = subst (IsViewPage o circle b c.pages.after items) c.in_default.is (page.value h o (so_far.kept (page.was_honest h) o stands)) in
          subst (λ all. AreCardsOf (patch empty all) c.apply_items.new.cards) (sym (known.1 ∙ ap (λ l. known.0 ++ l) told))
          (subst (λ copy. AreCardsOf copy c.apply_items.new.cards) (sym (patched_parts empty known.0 items)) (c.in_ok-apply_items.ensures (patch empty known.0) known.2));
      kept = λ h o stands. page.kept h o (so_far.kept (page.was_honest h) o stands);
      left = λ h y l. so_far.left (page.was_honest h) y (page.left h y l);
      counted = page.counted ∙ so_far.counted;
    }

pub pages-preserved : goal.pages-preserved
pages-preserved g c =
    let so_far = c.pages.invariant in
    let page = c.in_ok-items.ensures in
    let circle = c.args.circle.now in
    let b = c.args.book.now in
    let items = c.in_ok-items.field-0.items in
    record {
      was_honest = λ h. so_far.was_honest (page.was_honest h);
      falls = then_falls so_far.falls page.falls;
      value = λ h o stands.
          let before = so_far.value (page.was_honest h) o stands in
          let known = before.2 in
          let told = subst (IsViewPage o circle b c.pages.after items) c.in-Some.is (page.value h o (so_far.kept (page.was_honest h) o stands)) in
          let low = before.0 in
          let rises = told.0 in
          let last = told.1 in (
            omega (arith, low, rises),
            omega (arith, low, rises, last),
            (
              known.0 ++ items,
              known.1 ∙ ap (λ l. known.0 ++ l) told.2 ∙ sym (parts_joined known.0 items (viewed o circle b c.in-Some.number)),
              subst (λ copy. AreCardsOf copy c.apply_items.new.cards) (sym (patched_parts empty known.0 items)) (c.in_ok-apply_items.ensures (patch empty known.0) known.2),
            ),
          );
      kept = λ h o stands. page.kept h o (so_far.kept (page.was_honest h) o stands);
      left = λ h y l. so_far.left (page.was_honest h) y (page.left h y l);
      counted = page.counted ∙ so_far.counted;
    }

-- no book has so many changes
pub returns : goal.returns
returns g c =
    let so_far = c.pages.invariant in
    record {
      was_honest = so_far.was_honest;
      falls = so_far.falls;
      value = λ h o stands.
          let last = (so_far.value h o stands).1 in
          absurd (omega (arith, last, c.pages-test.false));
      kept = so_far.kept;
      left = so_far.left;
      counted = so_far.counted;
    }
