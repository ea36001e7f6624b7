-- What is told of a policy's file, by what it is.
use Rattle.std.proofs.Common.{◌≡◌, ℕ, Bool, true, false, List, Option, Some, None, refl, sym, ◌∙◌, subst}
use Rattle.std.specs.Io.KnownBytes.{Keeps}
use Rattle.book_policy.specs.Rules.{IsPolicyOf}
use Rattle.book_policy_values.specs.declared.parts.PolicyTables.{PolicyTables}
use Rattle.book_policy_checks.specs.Telling.{TellsChecked}
use Rattle.book_policy_checks.specs.declared.telling.Checked.TheVariants as checked
use Rattle.book_office_values.specs.declared.offices.Office.{Office}
use Rattle.book_policy_warnings.specs.Telling.{AreWarningsFrom, TellsBytes, TellsOver, TellsPolicyOver, TellsUnsound, TellsWarnings}
use Rattle.book_policy_warnings.specs.declared.telling.Told.{Told}
use Rattle.book_policy_warnings.specs.declared.telling.Told.TheVariants as told
use Rattle.book_policy_warnings.specs.declared.telling.ToldOver.{ToldOver}
use Rattle.book_policy_warnings.specs.declared.telling.ToldOver.TheVariants as over
use Rattle.book_policy_warnings.specs.declared.warnings.Warning.{Warning}

pub keeps_same : (held : Option (List ℕ)) → Keeps held held
keeps_same None = tt
keeps_same (Some xs) = refl

pub memory_apart : checked.Memory ≡ checked.Sound → ⊥
memory_apart e = cc

pub not_utf8_apart : checked.NotUtf8 ≡ checked.Sound → ⊥
not_utf8_apart e = cc

pub faulty_apart : (whole : Bool) → checked.Faulty whole ≡ checked.Sound → ⊥
faulty_apart whole e = cc

pub false_apart : false ≡ true → ⊥
false_apart e = cc

-- some warnings are told, which are of a kind
pub tells_of : (Are : List Warning → Type 0) (warnings : List Warning) (held holds : Option (List ℕ)) (is_told : Told) → Are warnings
    → TellsWarnings (λ told. told ≡ warnings) held holds is_told → TellsWarnings Are held holds is_told
tells_of Are warnings held holds (told.Sound warned) are tells = (tells.0, subst Are (sym tells.1) are, tells.2, tells.3)
tells_of Are warnings held holds told.Unwritten are tells = tells
tells_of Are warnings held holds (told.Unsound checked) are tells = tells

-- the file is a policy
pub told_policy : (Are : PolicyTables → List Warning → Type 0) (bytes : List ℕ) (held holds errors : Option (List ℕ)) (t : PolicyTables) (is_told : Told) → IsPolicyOf bytes t
    → TellsWarnings (Are t) held holds is_told → TellsBytes Are bytes held holds errors errors is_told
told_policy Are bytes held holds errors t (told.Sound warned) is tells = ((t, is, tells), keeps_same errors)
told_policy Are bytes held holds errors t told.Unwritten is tells = ((t, is), keeps_same errors)
told_policy Are bytes held holds errors t (told.Unsound checked) is tells =
    (tells.1, ((λ e. memory_apart (sym tells.0 ∙ e)), subst (TellsChecked bytes errors errors) (sym tells.0) (keeps_same errors)))

-- it is none, or memory was refused
pub told_unsound : (Are : PolicyTables → List Warning → Type 0) (bytes : List ℕ) (held errors_held errors_hold : Option (List ℕ)) (is_told : Told) → TellsUnsound bytes errors_held errors_hold is_told
    → TellsBytes Are bytes held held errors_held errors_hold is_told
told_unsound Are bytes held errors_held errors_hold (told.Sound warned) tells = absurd tells
told_unsound Are bytes held errors_held errors_hold told.Unwritten tells = absurd tells
told_unsound Are bytes held errors_held errors_hold (told.Unsound checked) tells = (keeps_same held, tells)

-- the file is a policy, over an Office
pub told_over : (start : Office) (bytes : List ℕ) (held holds errors : Option (List ℕ)) (t : PolicyTables) (is_told : ToldOver) → IsPolicyOf bytes t → TellsOver start t held holds is_told
    → TellsPolicyOver start bytes held holds errors errors is_told
told_over start bytes held holds errors t (over.Told told) is tells = told_policy (AreWarningsFrom start) bytes held holds errors t told is tells
told_over start bytes held holds errors t over.Full is tells = ((t, is, tells.0), tells.1, keeps_same errors)
