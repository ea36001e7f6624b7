-- The body of a PROPPATCH (RFC 4918, section 9.2): {"set":{"displayname":TEXT}} or
-- {"set":{"group-member-set":[PATH, ..]}}.
use Rattle.std.specs.Prelude.{◌≡◌, ℕ, List, codes, Option, None, Some, option_and_then}
use Rattle.serde_json.specs.Data.{Data}
use Rattle.serde_json.specs.Find.{as_str}
use Rattle.book_machine.specs.declared.messages.Body.{Body}
use Rattle.book_machine.specs.declared.messages.Body.TheVariants as body
use Rattle.book_machine.specs.declared.messages.Patch.TheVariants as patch
use Rattle.book_wire_json.specs.Forms.{only_under, texts_in}
use Rattle.book_wire_json.specs.Principals.{AllName, HasUnnamed}

-- what stands under the one property that is set, if it is this one
abbrev pub set_under : List ℕ → Data → Option Data
set_under name d = option_and_then (only_under name) (only_under (codes "set") d)

abbrev pub label_set : Data → Option (List ℕ)
label_set d = option_and_then as_str (set_under (codes "displayname") d)

abbrev pub members_set : Data → Option (List (List ℕ))
members_set d = option_and_then texts_in (set_under (codes "group-member-set") d)

-- a label, or the members in the order in which they are named; else Unread. How long they may be the machine says
abbrev pub IsPatchBody : Option Data → Body → Type 0
IsPatchBody d (body.Patch (patch.DisplayName label)) = option_and_then label_set d ≡ Some label
IsPatchBody d (body.Patch (patch.GroupMembers members)) = (texts : List (List ℕ)) × (option_and_then members_set d ≡ Some texts) × AllName texts members
IsPatchBody d body.Unread =
    (option_and_then label_set d ≡ None)
    × ((texts : List (List ℕ)) → option_and_then members_set d ≡ Some texts → HasUnnamed texts)
IsPatchBody d body.Empty = ⊥
IsPatchBody d (body.Text text) = ⊥
IsPatchBody d (body.Find properties) = ⊥
IsPatchBody d (body.List entries) = ⊥
IsPatchBody d (body.Report report) = ⊥
