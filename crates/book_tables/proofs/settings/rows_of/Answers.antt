use Rattle.book_tables.proofs.Common.{◌≡◌, ◌+◌, ◌++◌, ◌∷◌, [], get_or, subst, rules, sym, said, entry_said}
use Rattle.book_tables.proofs.PushedItems.{AreOnTheWay, one_pushed, all_pushed}
use Rattle.book_tables.proofs.settings.rows_of.Goals as goal

pub entries-preserved : goal.entries-preserved
entries-preserved c =
    let list = c.args.list.now in
    let item = c.entry-item.result in
    let is : get_or list c.entries.entry-index item ≡ item = search rules in
    let said_is : said c.in_ok-row_of.field-0 ≡ entry_said item = search rules in
    let pushed : c.push.new.self.items ≡ c.entries.rows.items ++ c.in_ok-row_of.field-0 ∷ [] = search rules in
    subst (λ items. AreOnTheWay said entry_said list items (c.entries.entry-index + 1)) (sym pushed)
    (one_pushed said entry_said list c.entries.rows.items c.entries.entry-index c.in_ok-row_of.field-0 item c.entries-test.true is said_is c.entries.invariant)

pub returns : goal.returns
returns c = all_pushed said entry_said c.args.list.now c.entries.rows.items c.entries.entry-index c.entries-test.false c.entries.invariant
