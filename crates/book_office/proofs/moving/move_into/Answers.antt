use Rattle.book_office.proofs.Common.{◌≡◌, sym, ap, ◌∙◌, get, insert, move_to, at_some, insert_same, same_Some}
use Rattle.book_office.proofs.moving.move_into.Goals as goal
use Rattle.std.specs.Prelude.{Result, Ok, Err, OnOk, OnErr}

both_ok : {E A P Q R : Type 0} (r : Result A E) → OnOk r P → OnOk r Q → (P → Q → R) → OnOk r R
both_ok (Ok x) p q f = f p q
both_ok (Err e) p q f = tt

both_err : {E A P Q R : Type 0} (r : Result A E) → OnErr r P → OnErr r Q → (P → Q → R) → OnErr r R
both_err (Ok x) p q f = tt
both_err (Err e) p q f = f p q

pub returns-in-Some-clause-ok : goal.returns-in-Some-clause-ok
returns-in-Some-clause-ok c = both_ok c.move_between.result c.move_between.ensures.ok c.move_between.ensures.ok_target (λ source into low target at within there.
    let is : c.in-Some.target.now ≡ target = same_Some c.in-Some.target.now target (c.in-Some.ensures.value ∙ at) in (
      source,
      at_some c.get_mut.result _ c.in-Some.is (c.get_mut.follows.holds c.move_between.new.target)
          ∙ ap (insert c.args.books.now c.args.to_book.now) (into there ∙ ap (move_to (get c.args.source.now.cards c.args.from.now) c.args.to.now) is),
    ))

pub returns-in-Some-clause-err : goal.returns-in-Some-clause-err
returns-in-Some-clause-err c = both_err c.move_between.result c.move_between.ensures.err c.move_between.ensures.err_target (λ source e. (
  source,
  at_some c.get_mut.result _ c.in-Some.is (c.get_mut.follows.holds c.move_between.new.target)
      ∙ ap (insert c.args.books.now c.args.to_book.now) e
      ∙ insert_same c.args.books.now c.args.to_book.now c.in-Some.target.now (sym c.in-Some.ensures.value),
))
