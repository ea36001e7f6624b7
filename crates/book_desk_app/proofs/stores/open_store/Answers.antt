use Rattle.std.proofs.Common.{rules}
use Rattle.std.proofs.lemmas.Bool.{false≢true}
use Rattle.book_desk_app.proofs.GivenBack.{unopened}
use Rattle.book_desk_app.proofs.stores.open_store.Goals as goal

pub returns-in-Ok-open_found-clause-opened : goal.returns-in-Ok-open_found-clause-opened
returns-in-Ok-open_found-clause-opened g c = (
  c.in-Ok-open_found.ensures.counted,
  λ clean. record {
    made = λ bare. absurd (false≢true (c.if-is_empty.ensures.1 (rw c.connection.ensures bare)));
    opened = λ _. c.in-Ok-open_found.ensures.stands clean;
    same = λ _. c.in-Ok-open_found.ensures.same clean;
  },
)

pub returns-in-Err-open_found-clause-refused : goal.returns-in-Err-open_found-clause-refused
returns-in-Err-open_found-clause-refused g c = (
  c.in-Err-open_found.fault,
  search rules,
  unopened g.S.Store c.args.found c.in-Err-open_found.fault c.in-Err-open_found.left
      (λ bare. false≢true (c.if-is_empty.ensures.1 (rw c.connection.ensures bare))) c.in-Err-open_found.ensures.refused c.in-Err-open_found.ensures.other c.in-Err-open_found.ensures.kept c.in-Err-open_found.ensures.connected,
)
