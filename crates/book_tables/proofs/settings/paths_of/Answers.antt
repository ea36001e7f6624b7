use Rattle.book_tables.proofs.Common.{◌≡◌, ◌+◌, ◌++◌, ◌∷◌, [], get_or, subst, rules, sym, string_bytes, ◌∙◌}
use Rattle.book_tables.proofs.PushedItems.{AreOnTheWay, one_pushed, all_pushed, map_nothing}
use Rattle.book_tables.proofs.settings.paths_of.Goals as goal

pub principals-preserved : goal.principals-preserved
principals-preserved c =
    let list = c.args.principals.now in
    let item = c.principal-item.result in
    let is : get_or list c.principals.principal-index item ≡ item = search rules in
    let text_is : string_bytes c.in_ok-from_str.field-0 ≡ item = search rules in
    let pushed : c.push.new.self.items ≡ c.principals.paths.items ++ c.in_ok-from_str.field-0 ∷ [] = search rules in
    subst (λ items. AreOnTheWay string_bytes (λ p. p) list items (c.principals.principal-index + 1)) (sym pushed)
    (one_pushed string_bytes (λ p. p) list c.principals.paths.items c.principals.principal-index c.in_ok-from_str.field-0 item c.principals-test.true is text_is c.principals.invariant)

pub returns : goal.returns
returns c = all_pushed string_bytes (λ p. p) c.args.principals.now c.principals.paths.items c.principals.principal-index c.principals-test.false c.principals.invariant ∙ map_nothing c.args.principals.now
