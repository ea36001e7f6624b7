-- What each method needs (RFC 3744, appendix B). That COPY over a mapped destination needs both leaves there, that
-- DELETE of a book needs `unbind` twice, and the reports effective and names are own profile.
use Rattle.std.specs.Prelude.{Bool, true, false, ◌||◌, ◌&&◌, List, [], ◌∷◌, Option, Some, None}
use Rattle.book_rights.specs.declared.privileges.Leaf.{Leaf}
use Rattle.book_rights.specs.declared.privileges.Leaf.TheVariants.{WriteContent, WriteProperties, Bind, Unbind, ReadAcl, WriteAcl, ReadCurrentUserPrivilegeSet, ReadNames}
use Rattle.book_rights.specs.declared.methods.Method.{Method}
use Rattle.book_rights.specs.declared.methods.Method.TheVariants.{Get, Head, Options, Put, Propfind, Proppatch, Acl, Copy, Move, Delete, Mkcol, Report}
use Rattle.book_rights.specs.declared.methods.Shape.{Shape}
use Rattle.book_rights.specs.declared.places.Need.{Need}
use Rattle.book_rights.specs.declared.places.Needs.{Needs}
use Rattle.book_rights.specs.declared.places.Place.{Place}
use Rattle.book_rights.specs.declared.places.Place.TheVariants.{Target, Parent, Destination, DestinationParent}
use Rattle.book_rights.specs.Leaves.{only}
use Rattle.book_rights.specs.Privileges.{is_read}

-- these leaves at this place
abbrev pub at : Place → (Leaf → Bool) → Need
at place set = record { place = place; set = set }

-- the first list where the test holds, else the second
abbrev pub either : Bool → List Need → List Need → List Need
either true xs ys = xs
either false xs ys = ys

-- `read`, and with it `read-acl` and `read-current-user-privilege-set` where they are asked
abbrev pub read_and : Bool → Bool → Leaf → Bool
read_and acl privileges leaf = is_read leaf || ((acl && only ReadAcl leaf) || (privileges && only ReadCurrentUserPrivilegeSet leaf))

-- one more, if there is one
abbrev pub listed_too : Option Need → List Need → List Need
listed_too None needs = needs
listed_too (Some need) needs = need ∷ needs

-- the second need, and the third, if there is one
abbrev pub listed_others : Option (Need × Option Need) → List Need
listed_others None = []
listed_others (Some others) = others.0 ∷ listed_too others.1 []

-- the needs as a list
abbrev pub need_list : Needs → List Need
need_list needs = needs.first ∷ listed_others needs.others

-- the needs of a request, in the order in which they are checked
abbrev pub needs_of : Method → Shape → List Need
needs_of Get shape = at Target is_read ∷ []
needs_of Head shape = at Target is_read ∷ []
needs_of Options shape = at Target is_read ∷ []
needs_of Put shape = either shape.target_mapped (at Target (only WriteContent) ∷ []) (at Parent (only Bind) ∷ [])
needs_of Propfind shape = at Target (read_and shape.acl shape.privileges) ∷ []
needs_of Proppatch shape = at Target (only WriteProperties) ∷ []
needs_of Acl shape = at Target (only WriteAcl) ∷ []
needs_of Copy shape = at Target is_read ∷ either shape.destination_mapped
    (at Destination (λ leaf. only WriteContent leaf || only WriteProperties leaf) ∷ [])
    (at DestinationParent (only Bind) ∷ [])
needs_of Move shape = at Parent (only Unbind) ∷ at DestinationParent (only Bind) ∷ either shape.destination_mapped (at DestinationParent (only Unbind) ∷ []) []
needs_of Delete shape = either shape.book (at Parent (only Unbind) ∷ at Target (only Unbind) ∷ []) (at Parent (only Unbind) ∷ [])
needs_of Mkcol shape = at Parent (only Bind) ∷ []
needs_of Report shape = either shape.names (at Target (only ReadNames) ∷ []) (at Target (read_and shape.effective false) ∷ [])
