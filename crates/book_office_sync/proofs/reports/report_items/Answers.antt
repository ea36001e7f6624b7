use Rattle.book_office_sync.proofs.Common.{◌∙◌, ◌++◌, ap, arith, item_of, map, option_copied, rules, start_of, subst, sym}
use Rattle.book_office_sync.specs.Copies.{is_cut, reported}
use Rattle.book_office_sync.specs.Limits.{told_items}
use Rattle.book_office_sync.specs.Pages.{IsPage, changes_told}
use Rattle.book_office_sync.proofs.PagedReports.{enough_last, enough_more, items_told, page_added}
use Rattle.book_office.proofs.Fallbacks.{then_falls}
use Rattle.book_office_sync.proofs.reports.report_items.Goals as goal

pub returns-in_err-push_told : goal.returns-in_err-push_told
returns-in_err-push_told g c =
    let so_far = c.pages.invariant in
    let page = c.in_ok-changes.ensures in
    record {
      was_honest = λ h. so_far.was_honest (page.was_honest h);
      falls = then_falls so_far.falls page.falls;
      value = λ h. search rules;
      kept = λ h o stands. page.kept h o (so_far.kept (page.was_honest h) o stands);
      left = λ h y l. so_far.left (page.was_honest h) y (page.left h y l);
      counted = let both = page.counted ∙ so_far.counted in search (rules, both);
    }

pub returns-in_default : goal.returns-in_default
returns-in_default g c =
    let so_far = c.pages.invariant in
    let page = c.in_ok-changes.ensures in
    let circle = c.args.circle.now in
    let b = c.args.book.now in
    let token = option_copied c.args.token in
    let above = c.in_ok-above.above in
    let changes = c.in_ok-changes.field-0.changes in
    let items = c.push_told.new.items.items in
    record {
      was_honest = λ h. so_far.was_honest (page.was_honest h);
      falls = then_falls so_far.falls page.falls;
      value = λ h o stands x at.
          let known = so_far.value (page.was_honest h) o stands in
          let told = subst (IsPage o b token c.pages.after changes) c.in_default.is (page.value h o (so_far.kept (page.was_honest h) o stands)) in
          let whole = sym (items_told o circle b x at above known.0 token (start_of token)) ∙ known.3 in
          enough_last c.args.limit (map (item_of o circle b) (reported o circle b x token)) c.pages.items.items (told_items above circle token (changes_told o b token c.pages.after)) items c.from_vec.result
          whole (c.in_ok-push_told.ensures ∙ ap (λ l. c.pages.items.items ++ told_items above circle token l) (sym told)) c.from_vec.ensures;
      kept = λ h o stands. page.kept h o (so_far.kept (page.was_honest h) o stands);
      left = λ h y l. so_far.left (page.was_honest h) y (page.left h y l);
      counted = page.counted ∙ so_far.counted;
    }

pub returns-then-is_cut : goal.returns-then-is_cut
returns-then-is_cut g c =
    let so_far = c.pages.invariant in
    let page = c.in_ok-changes.ensures in
    let circle = c.args.circle.now in
    let b = c.args.book.now in
    let token = option_copied c.args.token in
    let above = c.in_ok-above.above in
    let changes = c.in_ok-changes.field-0.changes in
    let items = c.push_told.new.items.items in
    record {
      was_honest = λ h. so_far.was_honest (page.was_honest h);
      falls = then_falls so_far.falls page.falls;
      value = λ h o stands x at.
          let known = so_far.value (page.was_honest h) o stands in
          let told = subst (IsPage o b token c.pages.after changes) c.in-Some.is (page.value h o (so_far.kept (page.was_honest h) o stands)) in
          let rest = changes_told o b token c.in-Some.number in
          let whole = sym (items_told o circle b x at above known.0 token (start_of token))
          ∙ page_added above circle token (changes_told o b token c.pages.after) changes rest (told_items above circle token (changes_told o b token (start_of token))) c.pages.items.items items known.3 told.2 c.in_ok-push_told.ensures in
          enough_more c.args.limit (map (item_of o circle b) (reported o circle b x token)) items (told_items above circle token rest) c.from_vec-then-is_cut.result whole c.from_vec-then-is_cut.ensures
          (ap (is_cut c.args.limit) (sym c.deref.ensures.value) ∙ sym c.is_cut.ensures ∙ c.if-is_cut.true);
      kept = λ h o stands. page.kept h o (so_far.kept (page.was_honest h) o stands);
      left = λ h y l. so_far.left (page.was_honest h) y (page.left h y l);
      counted = page.counted ∙ so_far.counted;
    }

pub pages-preserved : goal.pages-preserved
pages-preserved g c =
    let so_far = c.pages.invariant in
    let page = c.in_ok-changes.ensures in
    let circle = c.args.circle.now in
    let b = c.args.book.now in
    let token = option_copied c.args.token in
    let above = c.in_ok-above.above in
    let changes = c.in_ok-changes.field-0.changes in
    let items = c.push_told.new.items.items in
    record {
      was_honest = λ h. so_far.was_honest (page.was_honest h);
      falls = then_falls so_far.falls page.falls;
      value = λ h o stands.
          let known = so_far.value (page.was_honest h) o stands in
          let told = subst (IsPage o b token c.pages.after changes) c.in-Some.is (page.value h o (so_far.kept (page.was_honest h) o stands)) in
          let low = known.1 in
          let rises = told.0 in
          let last = told.1 in (
            known.0,
            omega (arith, low, rises),
            omega (arith, low, rises, last),
            page_added above circle token (changes_told o b token c.pages.after) changes (changes_told o b token c.in-Some.number) (told_items above circle token (changes_told o b token (start_of token))) c.pages.items.items items
                known.3 told.2 c.in_ok-push_told.ensures,
          );
      kept = λ h o stands. page.kept h o (so_far.kept (page.was_honest h) o stands);
      left = λ h y l. so_far.left (page.was_honest h) y (page.left h y l);
      counted = page.counted ∙ so_far.counted;
    }

-- no book has so many changes
pub returns : goal.returns
returns g c =
    let so_far = c.pages.invariant in
    record {
      was_honest = so_far.was_honest;
      falls = so_far.falls;
      value = λ h o stands x at.
          let last = (so_far.value h o stands).2 in
          absurd (omega (arith, last, c.pages-test.false));
      kept = so_far.kept;
      left = so_far.left;
      counted = so_far.counted;
    }
