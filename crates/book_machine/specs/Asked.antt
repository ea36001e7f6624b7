-- What a request asks, by its method and its body.
use Rattle.std.specs.Prelude.{ℕ, Bool, true, false, ◌&&◌, List, [], ◌∷◌, fold, length, nat_le, Option, Some, None, option_and_then, Result, Ok, Err, if◌then◌else◌}
use Rattle.std.specs.BTreeSet.{insert_key}
use Rattle.std.specs.Option.{option_map_or}
use Rattle.std.specs.Str.{bytes_eq}
use Rattle.book_lists.specs.Principals.{path_cmp}
use Rattle.book_lists.specs.declared.submitted.Submitted.{Submitted}
use Rattle.book_limits.specs.declared.TheConstants.{MAX_MEMBERS, MAX_LABEL_BYTES}
use Rattle.book_office_listings.specs.declared.messages.Extent.{Extent}
use Rattle.book_office_listings.specs.declared.messages.Extent.TheVariants.{Resource as Alone, Children}
use Rattle.book_office_listings.specs.declared.messages.Property.{Property}
use Rattle.book_rights.specs.declared.methods.Method.{Method}
use Rattle.book_rights.specs.declared.methods.Method.TheVariants as method
use Rattle.book_office_values.specs.declared.paths.Path.{Path}
use Rattle.book_office_values.specs.declared.paths.Path.TheVariants as path
use Rattle.book_machine.specs.Named.{path_card}
use Rattle.book_machine.specs.Finding.{find_of, may_be_asked, usual_properties}
use Rattle.book_machine.specs.declared.asked.Asked.{Asked}
use Rattle.book_machine.specs.declared.asked.Asked.TheVariants as asked
use Rattle.book_machine.specs.declared.asked.Destination.{Destination}
use Rattle.book_machine.specs.declared.messages.Body.{Body}
use Rattle.book_machine.specs.declared.messages.Body.TheVariants as body
use Rattle.book_machine.specs.declared.messages.Depth.{Depth}
use Rattle.book_machine.specs.declared.messages.Depth.TheVariants as depth
use Rattle.book_machine.specs.declared.messages.Flag.{Flag}
use Rattle.book_machine.specs.declared.messages.Flag.TheVariants as flag
use Rattle.book_machine.specs.declared.messages.Patch.{Patch}
use Rattle.book_machine.specs.declared.messages.Patch.TheVariants as patch
use Rattle.book_machine.specs.declared.messages.ReportKind.{ReportKind}
use Rattle.book_machine.specs.declared.messages.Request.{Request}
use Rattle.book_machine.specs.declared.refusals.Refusal.{Refusal}
use Rattle.book_machine.specs.declared.refusals.Refusal.TheVariants.{BadRequest, BodyOnMkcol}

-- what is asked, part by part: the method, the properties of a PROPFIND, where a COPY or MOVE leads, the report
pub record Parts : Type 0 where
  pub method : Method
  pub properties : List Property
  pub to : Option Destination
  pub report : Option ReportKind

abbrev pub only_method : Method → Parts
only_method m = record { method = m; properties = []; to = None; report = None }

abbrev pub parts_of : Asked → Parts
parts_of asked.Get = only_method method.Get
parts_of asked.Head = only_method method.Head
parts_of asked.Options = only_method method.Options
parts_of (asked.Put text) = only_method method.Put
parts_of (asked.Propfind find) = record { method = method.Propfind; properties = find.properties; to = None; report = None }
parts_of (asked.Proppatch p) = only_method method.Proppatch
parts_of (asked.Acl list) = only_method method.Acl
parts_of (asked.Copy to) = record { method = method.Copy; properties = []; to = Some to; report = None }
parts_of (asked.Move to) = record { method = method.Move; properties = []; to = Some to; report = None }
parts_of asked.Delete = only_method method.Delete
parts_of asked.Mkcol = only_method method.Mkcol
parts_of (asked.Report which) = record { method = method.Report; properties = []; to = None; report = Some which }

abbrev pub method_of : Asked → Method
method_of what = (parts_of what).method

abbrev pub destination_in : Asked → Option Destination
destination_in what = (parts_of what).to

-- the path of a destination
abbrev pub destination_path : Destination → Path
destination_path to = path.Card to.book to.card

abbrev pub is_empty : List ℕ → Bool
is_empty [] = true
is_empty (c ∷ cs) = false

-- a body, form by form: a text, the properties of a PROPFIND, what a PROPPATCH sets, a list, a report
pub record Forms : Type 0 where
  pub text : Option (List ℕ)
  pub properties : Option (List Property)
  pub patch : Option Patch
  pub list : Option (List Submitted)
  pub report : Option ReportKind

abbrev pub no_form : Forms
no_form = record { text = None; properties = None; patch = None; list = None; report = None }

-- no body is the empty text, and asks for the usual properties (RFC 4918, section 9.1)
abbrev pub forms_of : Body → Forms
forms_of body.Empty = record { text = Some []; properties = Some usual_properties; patch = None; list = None; report = None }
forms_of (body.Text text) = record { text = Some text; properties = None; patch = None; list = None; report = None }
forms_of (body.Find properties) = record { text = None; properties = Some properties; patch = None; list = None; report = None }
forms_of (body.Patch p) = record { text = None; properties = None; patch = Some p; list = None; report = None }
forms_of (body.List list) = record { text = None; properties = None; patch = None; list = Some list; report = None }
forms_of (body.Report which) = record { text = None; properties = None; patch = None; list = None; report = Some which }
forms_of body.Unread = no_form

-- what is asked by the form that a method wants, if the body has it
abbrev pub asked_by : {A : Type 0} → (A → Result Asked Refusal) → Option A → Result Asked Refusal
asked_by ask form = option_map_or ask form (Err BadRequest)

-- a PUT has a text, the empty one where there is no body
abbrev pub put_asked : Body → Result Asked Refusal
put_asked b = asked_by (λ text. Ok (asked.Put text)) (forms_of b).text

-- the properties within their bounds
abbrev pub properties_asked : Extent → List Property → Result Asked Refusal
properties_asked extent properties = if may_be_asked properties then Ok (asked.Propfind (find_of extent properties)) else Err BadRequest

-- a PROPFIND of some depth has properties, the usual ones where there is no body (RFC 4918, section 9.1)
abbrev pub find_asked_to : Extent → Body → Result Asked Refusal
find_asked_to extent b = asked_by (properties_asked extent) (forms_of b).properties

-- the depth is 0 or 1 (RFC 4918, section 10.2; that it may not be infinite is own profile)
abbrev pub find_asked : Depth → Body → Result Asked Refusal
find_asked depth.Zero b = find_asked_to Alone b
find_asked depth.One b = find_asked_to Children b
find_asked depth.Unread b = Err BadRequest

-- the members of a list in byte order, each once
abbrev pub each_once : List (List ℕ) → List (List ℕ)
each_once members = fold (insert_key path_cmp) [] members

-- a label has at most 256 bytes; a group has at most 1,000 members, of which repeated ones count once
abbrev pub patch_asked : Patch → Result Asked Refusal
patch_asked (patch.DisplayName label) = if nat_le (length label) MAX_LABEL_BYTES then Ok (asked.Proppatch (patch.DisplayName label)) else Err BadRequest
patch_asked (patch.GroupMembers members) =
    if nat_le (length (each_once members)) MAX_MEMBERS then Ok (asked.Proppatch (patch.GroupMembers (each_once members))) else Err BadRequest

-- a PROPPATCH sets one property (RFC 4918, section 9.2)
abbrev pub proppatch_asked : Body → Result Asked Refusal
proppatch_asked b = asked_by patch_asked (forms_of b).patch

-- an ACL has a list (RFC 3744, section 8.1)
abbrev pub acl_asked : Body → Result Asked Refusal
acl_asked b = asked_by (λ list. Ok (asked.Acl list)) (forms_of b).list

-- a MKCOL has no body (RFC 4918, section 9.3)
abbrev pub mkcol_asked : Body → Result Asked Refusal
mkcol_asked b = option_map_or (λ text. if is_empty text then Ok asked.Mkcol else Err BodyOnMkcol) (forms_of b).text (Err BodyOnMkcol)

-- a REPORT names a report (RFC 3253, section 3.6)
abbrev pub report_asked : Body → Result Asked Refusal
report_asked b = asked_by (λ which. Ok (asked.Report which)) (forms_of b).report

-- whether a path is that of the card
abbrev pub is_card : List ℕ → List ℕ → Option Path → Bool
is_card b c p = option_map_or (λ card. bytes_eq card.0 b && bytes_eq card.1 c) (option_and_then path_card p) false

-- a card as a destination, and whether it may be replaced: an Overwrite that was read (RFC 4918, section 10.6)
abbrev pub destination_by : List ℕ → List ℕ → Flag → Result Destination Refusal
destination_by b c flag.Yes = Ok (record { book = b; card = c; overwrite = true })
destination_by b c flag.No = Ok (record { book = b; card = c; overwrite = false })
destination_by b c flag.Unread = Err BadRequest

-- a destination is the path of a card (RFC 4918, section 10.3), other than the source (own profile)
abbrev pub destination_asked : Option Path → Flag → Option Path → Result Destination Refusal
destination_asked source overwrite to =
    option_map_or (λ card. if is_card card.0 card.1 source then Err BadRequest else destination_by card.0 card.1 overwrite) (option_and_then path_card to) (Err BadRequest)

abbrev pub copy_asked : Result Destination Refusal → Result Asked Refusal
copy_asked (Ok to) = Ok (asked.Copy to)
copy_asked (Err e) = Err e

abbrev pub move_asked : Result Destination Refusal → Result Asked Refusal
move_asked (Ok to) = Ok (asked.Move to)
move_asked (Err e) = Err e

-- what a request asks; bodies of the other methods are not looked at, PROPFIND alone looks at the depth, and COPY and MOVE alone at
-- destination and Overwrite
abbrev pub asked_of : Method → Request → Result Asked Refusal
asked_of method.Get r = Ok asked.Get
asked_of method.Head r = Ok asked.Head
asked_of method.Options r = Ok asked.Options
asked_of method.Put r = put_asked r.body
asked_of method.Propfind r = find_asked r.depth r.body
asked_of method.Proppatch r = proppatch_asked r.body
asked_of method.Acl r = acl_asked r.body
asked_of method.Copy r = copy_asked (destination_asked r.path r.overwrite r.destination)
asked_of method.Move r = move_asked (destination_asked r.path r.overwrite r.destination)
asked_of method.Delete r = Ok asked.Delete
asked_of method.Mkcol r = mkcol_asked r.body
asked_of method.Report r = report_asked r.body
