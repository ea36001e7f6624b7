use Rattle.book_machine.proofs.Common.{◌≡◌, ◌∙◌, ap, flat_map, Level, protected_entries_at}
use Rattle.book_office.specs.Levels.{lists_at}
use Rattle.book_office.specs.declared.nodes.Lists.{Lists}
use Rattle.book_machine.proofs.AskingEach.{asks_read}
use Rattle.book_machine.proofs.ProtectedEntries.{protected_of_levels}
use Rattle.book_machine.specs.Asking.{MeetsItems}
use Rattle.book_machine.proofs.machine.Machine.protected.Goals as goal

pub returns : goal.returns
returns g c = asks_read _ _ c.in_ok-lists.lists c.in_ok-protected_in.field-0 (λ o lists. lists ≡ lists_at o c.args.path.now) (λ o r. MeetsItems r (protected_entries_at o c.args.path.now)) c.in_ok-lists.ensures
    (λ o is. c.in_ok-protected_in.ensures ∙ ap (λ (l : Lists). flat_map (λ (level : Level). level.protected) l.levels) is ∙ protected_of_levels (lists_at o c.args.path.now).levels)
