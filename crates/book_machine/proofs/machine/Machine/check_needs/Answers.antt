use Rattle.book_machine.proofs.Common.{subst, ◌∙◌, destination_in, JudgesNeeds, target_seen}
use Rattle.book_rights.specs.Needs.{needs_of}
use Rattle.book_machine.proofs.Judging.{owned_again, owner_of_target}
use Rattle.book_machine.specs.Verdicts.{owned_by}
use Rattle.book_machine.proofs.machine.Machine.check_needs.Goals as goal

pub returns : goal.returns
returns g c =
    let ready = c.args.ready.now in
    let path = ready.target.path.now in
    let same = c.needs-needs.ensures ∙ (λ i. needs_of (c.method.ensures i) (c.shape_at.ensures i)) in
    let asked = c.check_each-verdict.ensures in
    let taken = c.take_owner-owner.ensures in
    let node = c.put_owner.ensures ∙ (λ i. owned_by (taken.owner i) (taken.rest i)) ∙ owned_again ready.target.node in
    record {
      judges = record {
        was_honest = asked.was_honest;
        falls = asked.falls;
        tells = λ h o stands there. subst (λ needs. JudgesNeeds o c.args.circle.now (destination_in ready.asked) path needs c.check_each-verdict.result) same
            (asked.tells h o stands (λ i. record { owner = (taken.owner ∙ owner_of_target o (target_seen ready.target) there) i; principal = c.in_ok-principal.ensures i }));
        kept = asked.kept;
        left = asked.left;
        counted = asked.counted;
      };
      kept = λ i. record ready { target = record ready.target { node = node i } };
    }
