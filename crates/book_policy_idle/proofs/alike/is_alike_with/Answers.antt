use Rattle.std.proofs.Common.{◌≡◌, ◌↔◌, true, sym, subst}
use Rattle.std.specs.Prelude.{All}
use Rattle.book_policy_idle.specs.Alike.{AreDecidedAlike, Differs}
use Rattle.book_policy_idle.specs.Marks.{Both}
use Rattle.book_policy_idle.specs.declared.alike.Compared.{Compared}
use Rattle.book_policy_idle.proofs.Granting.{differs}
use Rattle.book_policy_idle.proofs.alike.is_alike_with.Goals as goal

pub is_alike_for_each-requires : goal.is_alike_for_each-requires
is_alike_for_each-requires c = subst Differs (sym c.in_ok-compared.ensures) (differs c.args.index c.args.own c.args.spot.now)

pub returns : goal.returns
returns c =
    subst (λ (k : Compared). (c.is_alike_for_each.result ≡ true)
    ↔ All (Both (AreDecidedAlike k.whole k.others) c.args.spot.now.here c.args.spot.now.is_book) c.args.askers.now) c.in_ok-compared.ensures c.is_alike_for_each.ensures
