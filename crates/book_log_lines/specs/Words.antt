-- Methods (RFC 9110, section 9.1), adoptions and principal forms (RFC 3744, section 5.5.1), as a log names them.
use Rattle.std.specs.Prelude.{ℕ, Bool, true, false, List, codes}
use Rattle.book_rights.specs.declared.methods.Method.{Method}
use Rattle.book_rights.specs.declared.methods.Method.TheVariants as method
use Rattle.book_lists.specs.declared.entries.Who.{Who}
use Rattle.book_lists.specs.declared.entries.Who.TheVariants as form
use Rattle.book_log_lines.specs.declared.lines.Adoption.{Adoption}
use Rattle.book_log_lines.specs.declared.lines.Adoption.TheVariants as adoption

abbrev pub method_name : Method → List ℕ
method_name method.Get = codes "GET"
method_name method.Head = codes "HEAD"
method_name method.Options = codes "OPTIONS"
method_name method.Put = codes "PUT"
method_name method.Propfind = codes "PROPFIND"
method_name method.Proppatch = codes "PROPPATCH"
method_name method.Acl = codes "ACL"
method_name method.Copy = codes "COPY"
method_name method.Move = codes "MOVE"
method_name method.Delete = codes "DELETE"
method_name method.Mkcol = codes "MKCOL"
method_name method.Report = codes "REPORT"

abbrev pub adoption_name : Adoption → List ℕ
adoption_name adoption.Changed = codes "changed"
adoption_name adoption.Unchanged = codes "unchanged"
adoption_name adoption.Full = codes "full"
adoption_name adoption.Unavailable = codes "unavailable"

-- a principal form: the path of a principal, or a word
abbrev pub form_text : Who → List ℕ
form_text (form.Href path) = path
form_text form.Everyone = codes "all"
form_text form.Authenticated = codes "authenticated"
form_text form.Unauthenticated = codes "unauthenticated"
form_text form.Owner = codes "owner"
form_text form.Own = codes "self"

abbrev pub action_key : Bool → List ℕ
action_key true = codes "deny"
action_key false = codes "grant"

abbrev pub form_key : Bool → List ℕ
form_key true = codes "invert"
form_key false = codes "principal"
