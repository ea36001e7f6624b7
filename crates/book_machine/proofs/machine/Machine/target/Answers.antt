use Rattle.book_machine.proofs.Common.{◌≡◌, sym, ap, ◌∙◌, subst, at_node, target_of, target_seen}
use Rattle.book_machine.proofs.StagesInTurn.{counted_after}
use Rattle.book_machine.specs.Asking.{MeetsSeen}
use Rattle.book_office.proofs.Fallbacks.{then_falls}
use Rattle.book_machine.proofs.machine.Machine.target.Goals as goal

pub returns : goal.returns
returns g c =
    let m = c.args.request.now.method in
    let path = c.in-Some.path in
    record {
      was_honest = λ h. c.in_ok-node.ensures.was_honest (c.target_at.ensures.was_honest h);
      falls = then_falls c.in_ok-node.ensures.falls c.target_at.ensures.falls;
      tells = λ h o stands.
          let was = c.target_at.ensures.was_honest h in
          let found : target_of o m c.args.request.now.path ≡ at_node o m path c.in_ok-node.node =
          ap (target_of o m) c.in-Some.is ∙ ap (at_node o m path) (sym (c.in_ok-node.ensures.value was o stands)) in
          subst (λ stage. MeetsSeen target_seen c.target_at.result stage) (sym found) (c.target_at.ensures.tells h o (c.in_ok-node.ensures.kept was o stands));
      kept = λ h o stands. c.target_at.ensures.kept h o (c.in_ok-node.ensures.kept (c.target_at.ensures.was_honest h) o stands);
      left = λ h x left. c.in_ok-node.ensures.left (c.target_at.ensures.was_honest h) x (c.target_at.ensures.left h x left);
      counted = counted_after _ _ _ _ c.target_at.ensures.counted c.in_ok-node.ensures.counted;
    }
