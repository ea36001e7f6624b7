use Rattle.book_office.proofs.Common.{rules, ◌≡◌, ◌∙◌, ◌++◌, ◌∷◌, [], ap, sym, map, into_iter_items}
use Rattle.std.proofs.lemmas.List.{append_assoc}
use Rattle.book_office.specs.Levels.{standing_at}
use Rattle.book_office.proofs.views.push_entries.Goals as goal

pub loop-entry-preserved : goal.loop-entry-preserved
loop-entry-preserved c =
    let stand = standing_at c.args.path.now c.args.protected in
    let entries = c.loop-entry.entries.items in
    let rest = into_iter_items c.next.new.self in
    let next : into_iter_items c.loop-entry.entry-iterator ≡ c.in-Some.entry ∷ rest = search rules in
    let pushed : c.push.new.self.items ≡ entries ++ stand c.in-Some.entry ∷ [] = search rules in
    record {
      parts = ap (λ xs. xs ++ map stand rest) pushed ∙ append_assoc entries (stand c.in-Some.entry ∷ []) (map stand rest)
          ∙ ap (λ xs. entries ++ map stand xs) (sym next) ∙ c.loop-entry.invariant.parts;
      count = search rules;
    }
