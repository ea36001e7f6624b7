-- Targets, methods by name, and phrases of statuses (RFC 9110, sections 7.1, 9.1 and 15.1).
use Rattle.std.specs.Prelude.{◌≡◌, ◌⊎◌, ℕ, ◌==◌, Bool, true, false, List, [], ◌∷◌, codes, if◌then◌else◌, Option, Some, None, Ok, option_map, unwrap_or}
use Rattle.std.specs.Str.{bytes_eq}
use Rattle.http.specs.StatusCode.{reason_phrase}
use Rattle.matchit.specs.Seek.{first}
use Rattle.matchit.specs.Rows.{RowsOf}
use Rattle.matchit.specs.Router.{RouteOf}
use Rattle.url.specs.Parser.{parse_url}
use Rattle.url.specs.Parts.{Parts}
use Rattle.book_rights.specs.declared.methods.Method.{Method}
use Rattle.book_rights.specs.declared.methods.Method.TheVariants as method
use Rattle.book_office_values.specs.Paths.{IsPath, SpellsPath, SpellsNone}
use Rattle.book_office_values.specs.declared.paths.Path.{Path}
use Rattle.book_office_values.specs.declared.paths.Path.TheVariants as path
use Rattle.book_wire_targets.specs.declared.home_routes.Home.{Home}
use Rattle.book_wire_targets.specs.declared.home_routes.Home.TheVariants.{Root, People, Groups, Books}

-- the phrase of a status; none where it has none
abbrev pub phrase_of : ℕ → List ℕ
phrase_of status = unwrap_or (reason_phrase status) []

-- the method with this name; names are compared with case
abbrev pub method_named : List ℕ → Option Method
method_named m =
    if bytes_eq m (codes "GET") then Some method.Get else (
    if bytes_eq m (codes "HEAD") then Some method.Head else (
    if bytes_eq m (codes "OPTIONS") then Some method.Options else (
    if bytes_eq m (codes "PUT") then Some method.Put else (
    if bytes_eq m (codes "PROPFIND") then Some method.Propfind else (
    if bytes_eq m (codes "PROPPATCH") then Some method.Proppatch else (
    if bytes_eq m (codes "ACL") then Some method.Acl else (
    if bytes_eq m (codes "COPY") then Some method.Copy else (
    if bytes_eq m (codes "MOVE") then Some method.Move else (
    if bytes_eq m (codes "DELETE") then Some method.Delete else (
    if bytes_eq m (codes "MKCOL") then Some method.Mkcol else (
    if bytes_eq m (codes "REPORT") then Some method.Report else None)))))))))))

-- the home of which this is the text
abbrev pub home_named : List ℕ → Option Home
home_named text =
    if bytes_eq (codes "/books") text then Some Books else (
    if bytes_eq (codes "/groups") text then Some Groups else (
    if bytes_eq (codes "/people") text then Some People else (
    if bytes_eq (codes "/") text then Some Root else None)))

abbrev pub home_path : Home → Path
home_path Root = path.Root
home_path People = path.People
home_path Groups = path.Groups
home_path Books = path.Books

-- the router finds the four homes by their texts, and nothing else
abbrev pub HasHomes : RowsOf (RouteOf Home) → Type 0
HasHomes rows = (text : List ℕ) → option_map (λ (r : RouteOf Home). r.value) (first rows text) ≡ home_named text

-- the path that the text spells, if it spells one
abbrev pub IsPathIn : List ℕ → Option Path → Type 0
IsPathIn text (Some p) = IsPath p × SpellsPath text p
IsPathIn text None = SpellsNone text

-- the text is a web URL of that path, with no query and no fragment
abbrev pub IsWebPath : List ℕ → List ℕ → Type 0
IsWebPath text path =
    (url : Parts) × (parse_url None text ≡ Ok url) × ((url.scheme ≡ codes "http") ⊎ (url.scheme ≡ codes "https"))
    × (url.query ≡ None) × (url.fragment ≡ None) × (url.path ≡ path)

abbrev pub begins_with_slash : List ℕ → Bool
begins_with_slash [] = false
begins_with_slash (b ∷ rest) = b == 47

-- the text that names the path: the target itself where it begins with a slash, else the path of its URL
abbrev pub IsPathTextBy : Bool → List ℕ → List ℕ → Type 0
IsPathTextBy true target text = text ≡ target
IsPathTextBy false target text = IsWebPath target text

abbrev pub IsPathText : List ℕ → List ℕ → Type 0
IsPathText target text = IsPathTextBy (begins_with_slash target) target text

-- the path that a target asks for, if it asks for one
abbrev pub IsPathOf : List ℕ → Option Path → Type 0
IsPathOf target (Some p) = (text : List ℕ) × IsPathText target text × IsPath p × SpellsPath text p
IsPathOf target None = (text : List ℕ) → IsPathText target text → SpellsNone text
