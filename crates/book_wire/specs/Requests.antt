-- The request that a head and a body spell.
use Rattle.std.specs.Prelude.{◌≡◌, ℕ, Bool, true, false, if◌then◌else◌, List, [], Option, Some, None, option_map}
use Rattle.std.specs.Str.{is_utf8}
use Rattle.book_rights.specs.declared.methods.Method.{Method}
use Rattle.book_rights.specs.declared.methods.Method.TheVariants as method
use Rattle.book_office_values.specs.declared.paths.Path.{Path}
use Rattle.book_machine.specs.declared.messages.Request.{Request}
use Rattle.book_wire_json.specs.Bodies.{IsBody}
use Rattle.book_wire_targets.specs.Targets.{IsPathOf}
use Rattle.book_wire.specs.Head.{Asked}

-- a value that is not UTF-8 is no name, as the empty text is none
abbrev pub caller_text : List ℕ → List ℕ
caller_text value = if is_utf8 value then value else []

abbrev pub caller_name : Option (List ℕ) → Option (List ℕ)
caller_name value = option_map caller_text value

-- bytes that are not UTF-8 ask for no path
abbrev pub IsPathBy : Bool → List ℕ → Option Path → Type 0
IsPathBy true bytes p = IsPathOf bytes p
IsPathBy false bytes p = p ≡ None

abbrev pub IsPathAt : List ℕ → Option Path → Type 0
IsPathAt bytes p = IsPathBy (is_utf8 bytes) bytes p

-- the methods that have a destination (RFC 4918, section 10.3)
abbrev pub has_destination : Method → Bool
has_destination method.Get = false
has_destination method.Head = false
has_destination method.Options = false
has_destination method.Put = false
has_destination method.Propfind = false
has_destination method.Proppatch = false
has_destination method.Acl = false
has_destination method.Copy = true
has_destination method.Move = true
has_destination method.Delete = false
has_destination method.Mkcol = false
has_destination method.Report = false

abbrev pub IsPathOfField : Option (List ℕ) → Option Path → Type 0
IsPathOfField None p = p ≡ None
IsPathOfField (Some value) p = IsPathAt value p

abbrev pub IsDestinationBy : Bool → Option (List ℕ) → Option Path → Type 0
IsDestinationBy true value p = IsPathOfField value p
IsDestinationBy false value p = p ≡ None

abbrev pub IsDestination : Method → Option (List ℕ) → Option Path → Type 0
IsDestination m value p = IsDestinationBy (has_destination m) value p

-- the request is the one that the head and the body spell
pub record IsRequest (asked : Asked) (text : List ℕ) (request : Request) : Type 0 where
  pub method : request.method ≡ asked.method
  pub path : IsPathAt asked.target request.path
  pub destination : IsDestination asked.method asked.destination request.destination
  pub overwrite : request.overwrite ≡ asked.overwrite
  pub depth : request.depth ≡ asked.depth
  pub body : IsBody asked.method text request.body
