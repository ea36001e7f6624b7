-- What the bytes of a body mean, by the method of the request.
use Rattle.std.specs.Prelude.{◌≡◌, ◌≢◌, ◌⊎◌, ◌==◌, ℕ, if◌then◌else◌, List, [], length, Option}
use Rattle.std.specs.Str.{is_utf8}
use Rattle.serde_json.specs.Data.{Data}
use Rattle.book_rights.specs.declared.methods.Method.{Method}
use Rattle.book_rights.specs.declared.methods.Method.TheVariants as method
use Rattle.book_machine.specs.declared.messages.Body.{Body}
use Rattle.book_machine.specs.declared.messages.Body.TheVariants as body
use Rattle.book_wire_json.specs.declared.bodies.Form.{Form}
use Rattle.book_wire_json.specs.declared.bodies.Form.TheVariants as form
use Rattle.book_wire_json.specs.Forms.{json_of}
use Rattle.book_wire_json.specs.Properties.{find_body}
use Rattle.book_wire_json.specs.Patches.{IsPatchBody}
use Rattle.book_wire_json.specs.Entries.{IsListBody}
use Rattle.book_wire_json.specs.Reports.{IsReportBody}

-- the text of a card
abbrev pub text_body : List ℕ → Body
text_body bytes = if length bytes == 0 then body.Empty else (if is_utf8 bytes then body.Text bytes else body.Unread)

-- whether there is a body, where no method reads it
abbrev pub unread_body : List ℕ → Body
unread_body bytes = if length bytes == 0 then body.Empty else body.Unread

-- no bytes, or what their JSON value means
abbrev pub IsJsonBody : (Option Data → Body → Type 0) → List ℕ → Body → Type 0
IsJsonBody Means bytes b = ((bytes ≡ []) × (b ≡ body.Empty)) ⊎ ((bytes ≢ []) × Means (json_of bytes) b)

abbrev pub IsFormBody : Form → List ℕ → Body → Type 0
IsFormBody form.Find bytes b = IsJsonBody (λ d x. x ≡ find_body d) bytes b
IsFormBody form.Patch bytes b = IsJsonBody IsPatchBody bytes b
IsFormBody form.List bytes b = IsJsonBody IsListBody bytes b
IsFormBody form.Report bytes b = IsJsonBody IsReportBody bytes b

-- the body that the bytes are; bodies of methods that take none aren't looked at, but for whether a MKCOL has one
abbrev pub IsBody : Method → List ℕ → Body → Type 0
IsBody method.Get bytes b = b ≡ body.Empty
IsBody method.Head bytes b = b ≡ body.Empty
IsBody method.Options bytes b = b ≡ body.Empty
IsBody method.Put bytes b = b ≡ text_body bytes
IsBody method.Propfind bytes b = IsFormBody form.Find bytes b
IsBody method.Proppatch bytes b = IsFormBody form.Patch bytes b
IsBody method.Acl bytes b = IsFormBody form.List bytes b
IsBody method.Copy bytes b = b ≡ body.Empty
IsBody method.Move bytes b = b ≡ body.Empty
IsBody method.Delete bytes b = b ≡ body.Empty
IsBody method.Mkcol bytes b = b ≡ unread_body bytes
IsBody method.Report bytes b = IsFormBody form.Report bytes b
