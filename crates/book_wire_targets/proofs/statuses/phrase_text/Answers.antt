use Rattle.std.proofs.Common.{List, ℕ, [], ap, sym, Option}
use Rattle.std.specs.Prelude.{unwrap_or}
use Rattle.book_wire_targets.proofs.Phrases.{no_phrase}
use Rattle.book_wire_targets.proofs.statuses.phrase_text.Goals as goal

pub returns-in-Err : goal.returns-in-Err
returns-in-Err c = ap (λ (o : Option (List ℕ)). unwrap_or o []) (sym (no_phrase c.args.status (λ s. c.in-Err.ensures s)))
