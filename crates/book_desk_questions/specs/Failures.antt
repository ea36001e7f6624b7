-- What is told where a question was not answered, and the status that ends the program (own profile).
use Rattle.std.specs.Prelude.{ℕ, List, ◌++◌, codes}
use Rattle.book_machine.specs.Refusals.{refusal_name}
use Rattle.book_machine.specs.declared.refusals.Refusal.{Refusal}
use Rattle.book_machine.specs.declared.refusals.Refusal.TheVariants as refusals
use Rattle.book_desk_questions.specs.Asked.{asking_name}
use Rattle.book_desk_questions.specs.declared.asked.Asking.{Asking}
use Rattle.book_desk_questions.specs.declared.failures.Unanswered.{Unanswered}
use Rattle.book_desk_questions.specs.declared.failures.Unanswered.TheVariants.{Refused, UnknownPrivilege, TooMany, Output}

abbrev pub unanswered_text : Asking → Unanswered → List ℕ
unanswered_text a (Refused refusal) = asking_name a ++ (codes ": " ++ refusal_name refusal)
unanswered_text a UnknownPrivilege = asking_name a ++ (codes ": " ++ codes "unknown-privilege")
unanswered_text a TooMany = asking_name a ++ (codes ": " ++ codes "too-many")
unanswered_text a Output = codes "output" ++ (codes ": " ++ codes "write")

-- 3 is memory, the store, or a failed write
abbrev pub refused_status : Refusal → ℕ
refused_status refusals.Unavailable = 3
refused_status refusals.BadRequest = 1
refused_status refusals.UnknownCaller = 1
refused_status (refusals.BadCard fault) = 1
refused_status (refusals.NeedPrivileges denial) = 1
refused_status refusals.NoProtectedAceConflict = 1
refused_status refusals.NoInheritedAceConflict = 1
refused_status refusals.LimitedNumberOfAces = 1
refused_status refusals.NotSupportedPrivilege = 1
refused_status refusals.RecognizedPrincipal = 1
refused_status refusals.ValidSyncToken = 1
refused_status refusals.NotFound = 1
refused_status (refusals.NotAllowed methods) = 1
refused_status refusals.NoParent = 1
refused_status refusals.Overwrite = 1
refused_status refusals.BodyOnMkcol = 1
refused_status refusals.Full = 1

abbrev pub unanswered_status : Unanswered → ℕ
unanswered_status (Refused refusal) = refused_status refusal
unanswered_status UnknownPrivilege = 1
unanswered_status TooMany = 1
unanswered_status Output = 3
