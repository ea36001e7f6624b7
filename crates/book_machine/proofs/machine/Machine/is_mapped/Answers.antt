use Rattle.book_machine.proofs.Common.{◌≡◌, ◌↔◌, IsTrue, is_some, sym, subst, node_at, IsMapped, TellsWhether}
use Rattle.book_machine.proofs.AskingEach.{asks_read}
use Rattle.book_machine.proofs.FoundPrincipals.{mapped_principal}
use Rattle.book_machine.proofs.machine.Machine.is_mapped.Goals as goal

pub returns : goal.returns
returns g c = asks_read _ _ c.in_ok-has.field-0 c.in_ok-has.field-0 (λ o mapped. mapped ≡ is_some (node_at o c.in_ok-path.path)) (λ o r. TellsWhether (IsMapped o c.args.principal.now) r) c.in_ok-has.ensures
    (λ o is. subst (λ b. IsTrue b ↔ IsMapped o c.args.principal.now) (sym is) (mapped_principal o c.in_ok-path.path c.args.principal.now c.in_ok-path.ensures))
