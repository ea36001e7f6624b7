use Rattle.book_machine.proofs.Common.{rules, ◌≡◌, sym, ap, subst, destination_in, JudgesNeed, place_path}
use Rattle.book_rights.specs.declared.places.Place.TheVariants as at
use Rattle.book_machine.proofs.machine.Machine.check_need.Goals as goal

pub returns-then-eq : goal.returns-then-eq
returns-then-eq g c =
    let ready = c.args.ready.now in
    let path = ready.target.path.now in
    let need = c.args.need in
    let asked = c.check_here.ensures in
    let is : need.place ≡ at.Target = search rules in
    record {
      was_honest = asked.was_honest;
      falls = asked.falls;
      tells = λ h o stands here. subst (λ p. JudgesNeed o c.args.circle.now p need.set c.check_here.result)
          (ap (place_path (destination_in ready.asked) path) (sym is))
          (asked.tells h o stands here);
      kept = asked.kept;
      left = asked.left;
      counted = asked.counted;
    }
