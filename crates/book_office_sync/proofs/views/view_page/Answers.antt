use Rattle.book_office_sync.proofs.Common.{◌∙◌, ◌++◌, None, ap}
use Rattle.book_office_sync.specs.Limits.{told_items}
use Rattle.book_office_sync.proofs.PagedReports.{view_page_is}
use Rattle.book_office.proofs.Fallbacks.{then_falls}
use Rattle.book_office_sync.proofs.views.view_page.Goals as goal

pub returns : goal.returns
returns g c =
    let first = c.in_ok-above.ensures in
    let second = c.in_ok-changes.ensures in
    record {
      was_honest = λ h. first.was_honest (second.was_honest h);
      falls = then_falls first.falls second.falls;
      value = λ h o stands.
          let above = first.value (second.was_honest h) o stands in
          view_page_is o c.args.circle.now c.args.book.now c.in_ok-above.above above c.args.after c.in_ok-changes.field-0.changes c.from_vec.result c.in_ok-changes.field-0.next
          (second.value h o (first.kept (second.was_honest h) o stands)) (c.from_vec.ensures ∙ c.in_ok-push_told.ensures ∙ ap (λ l. l ++ told_items c.in_ok-above.above c.args.circle.now None c.in_ok-changes.field-0.changes) c.new-items.ensures.items);
      kept = λ h o stands. second.kept h o (first.kept (second.was_honest h) o stands);
      left = λ h x l. first.left (second.was_honest h) x (second.left h x l);
      counted = second.counted ∙ first.counted;
    }
