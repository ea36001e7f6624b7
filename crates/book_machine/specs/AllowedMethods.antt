-- The methods that a resource allows (RFC 9110, section 10.2.1; the lists are own profile).
use Rattle.std.specs.Prelude.{ℕ, Bool, false, ◌||◌, ◌==◌, List, [], ◌∷◌, ◌++◌, codes}
use Rattle.book_rights.specs.declared.methods.Method.{Method}
use Rattle.book_rights.specs.declared.methods.Method.TheVariants.{Get, Head, Options, Put, Propfind, Proppatch, Acl, Copy, Move, Delete, Mkcol, Report}
use Rattle.book_office_values.specs.declared.paths.Kind.{Kind}
use Rattle.book_office_values.specs.declared.paths.Kind.TheVariants as kind
use Rattle.book_machine.specs.declared.allowed_methods.AllowedMethods.{AllowedMethods}
use Rattle.book_machine.specs.declared.allowed_methods.AllowedMethods.TheVariants.{OfCollection, OfPrincipal, OfBook, OfCard, OfNewBook, OfNewCard}

abbrev pub allowed_of : Kind → AllowedMethods
allowed_of kind.Root = OfCollection
allowed_of kind.Home = OfCollection
allowed_of kind.Person = OfPrincipal
allowed_of kind.Group = OfPrincipal
allowed_of kind.Book = OfBook
allowed_of kind.Card = OfCard

-- the one list of the methods of each kind of resource, in the byte order of their names
abbrev pub methods_of : AllowedMethods → List Method
methods_of OfCollection = Acl ∷ Options ∷ Propfind ∷ Report ∷ []
methods_of OfPrincipal = Acl ∷ Options ∷ Propfind ∷ Proppatch ∷ Report ∷ []
methods_of OfBook = Acl ∷ Delete ∷ Options ∷ Propfind ∷ Proppatch ∷ Report ∷ []
methods_of OfCard = Acl ∷ Copy ∷ Delete ∷ Get ∷ Head ∷ Move ∷ Options ∷ Propfind ∷ Proppatch ∷ Put ∷ Report ∷ []
methods_of OfNewBook = Mkcol ∷ []
methods_of OfNewCard = Put ∷ []

-- the name of a method (RFC 9110, section 9; RFC 4918, section 9; RFC 3744, section 8; RFC 3253, section 3.6)
abbrev pub method_name : Method → List ℕ
method_name Get = codes "GET"
method_name Head = codes "HEAD"
method_name Options = codes "OPTIONS"
method_name Put = codes "PUT"
method_name Propfind = codes "PROPFIND"
method_name Proppatch = codes "PROPPATCH"
method_name Acl = codes "ACL"
method_name Copy = codes "COPY"
method_name Move = codes "MOVE"
method_name Delete = codes "DELETE"
method_name Mkcol = codes "MKCOL"
method_name Report = codes "REPORT"

-- the value of the field Allow: the names, each after a comma and a space but the first
abbrev pub names_after : Method → List Method → List ℕ
names_after m [] = method_name m
names_after m (next ∷ rest) = method_name m ++ codes ", " ++ names_after next rest

abbrev pub listed_names : List Method → List ℕ
listed_names [] = []
listed_names (m ∷ rest) = names_after m rest

abbrev pub allowed_text : AllowedMethods → List ℕ
allowed_text allowed = listed_names (methods_of allowed)

-- each method has a number of its own
abbrev pub method_number : Method → ℕ
method_number Get = 0
method_number Head = 1
method_number Options = 2
method_number Put = 3
method_number Propfind = 4
method_number Proppatch = 5
method_number Acl = 6
method_number Copy = 7
method_number Move = 8
method_number Delete = 9
method_number Mkcol = 10
method_number Report = 11

abbrev pub is_among : Method → List Method → Bool
is_among m [] = false
is_among m (x ∷ xs) = method_number m == method_number x || is_among m xs

-- a method goes on at a mapped resource where it is in the list of the kind
abbrev pub goes_on : Method → Kind → Bool
goes_on m k = is_among m (methods_of (allowed_of k))
