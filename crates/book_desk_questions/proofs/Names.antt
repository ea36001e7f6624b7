-- No name of a refusal has more than 32 bytes, and no name of a command that asks more than 8.
use Rattle.std.proofs.Common.{◌≤◌, length, lit≤}
use Rattle.book_machine.specs.Refusals.{refusal_name}
use Rattle.book_machine.specs.declared.refusals.Refusal.{Refusal}
use Rattle.book_machine.specs.declared.refusals.Refusal.TheVariants.{BadRequest, UnknownCaller, BadCard, NeedPrivileges, NoProtectedAceConflict, NoInheritedAceConflict, LimitedNumberOfAces, NotSupportedPrivilege, RecognizedPrincipal, ValidSyncToken, NotFound, NotAllowed, NoParent, Overwrite, BodyOnMkcol, Full, Unavailable}
use Rattle.book_desk_questions.specs.Asked.{asking_name}
use Rattle.book_desk_questions.specs.declared.asked.Asking.{Asking}
use Rattle.book_desk_questions.specs.declared.asked.Asking.TheVariants as asking

pub refusal_names_are_short : (refusal : Refusal) → length (refusal_name refusal) ≤ 32
refusal_names_are_short BadRequest = lit≤ tt
refusal_names_are_short UnknownCaller = lit≤ tt
refusal_names_are_short (BadCard fault) = lit≤ tt
refusal_names_are_short (NeedPrivileges denial) = lit≤ tt
refusal_names_are_short NoProtectedAceConflict = lit≤ tt
refusal_names_are_short NoInheritedAceConflict = lit≤ tt
refusal_names_are_short LimitedNumberOfAces = lit≤ tt
refusal_names_are_short NotSupportedPrivilege = lit≤ tt
refusal_names_are_short RecognizedPrincipal = lit≤ tt
refusal_names_are_short ValidSyncToken = lit≤ tt
refusal_names_are_short NotFound = lit≤ tt
refusal_names_are_short (NotAllowed methods) = lit≤ tt
refusal_names_are_short NoParent = lit≤ tt
refusal_names_are_short Overwrite = lit≤ tt
refusal_names_are_short BodyOnMkcol = lit≤ tt
refusal_names_are_short Full = lit≤ tt
refusal_names_are_short Unavailable = lit≤ tt

pub asking_names_are_short : (command : Asking) → length (asking_name command) ≤ 8
asking_names_are_short asking.Why = lit≤ tt
asking_names_are_short asking.Who = lit≤ tt
asking_names_are_short asking.Rights = lit≤ tt
asking_names_are_short asking.Ask = lit≤ tt
asking_names_are_short asking.Audit = lit≤ tt
asking_names_are_short asking.Show = lit≤ tt
