-- Values of properties by their names, in byte order.
use Rattle.book_wire_json.proofs.Common.{◌≡◌, ℕ, List, [], ◌∷◌, ◌++◌, Some, None, refl, sym, ap, ◌∙◌, Data}
use Rattle.std.proofs.Common.{Bor, Option, Less, Equal, Greater, nat_cmp}
use Rattle.std.specs.Cmp.Lexicographic.{slice_cmp}
use Rattle.std.specs.Ordering.{match_ordering}
use Rattle.serde_json.specs.Data.{Members, member, put}
use Rattle.book_office_listings.specs.declared.messages.PropertyValue.{PropertyValue}
use Rattle.book_wire_json.specs.PropertyValues.{Slot, member_if, present, property_data}
use Rattle.book_wire_json.specs.Writing.{members_of}

-- the name comes behind those of the slots, or before them
abbrev pub Behind : List ℕ → List Slot → Type 0
Behind name [] = Unit {0}
Behind name (s ∷ rest) = (slice_cmp nat_cmp name s.0 ≡ Greater) × Behind name rest

abbrev pub Before : List ℕ → List Slot → Type 0
Before name [] = Unit {0}
Before name (s ∷ rest) = (slice_cmp nat_cmp name s.0 ≡ Less) × Before name rest

past_slot : (n name : List ℕ) (slot : Option (Bor PropertyValue)) (d : Data) (old new : List (List ℕ × Data)) → slice_cmp nat_cmp name n ≡ Greater
    → members_of new ≡ put name d (members_of old) → members_of (member_if n slot ++ new) ≡ put name d (members_of (member_if n slot ++ old))
past_slot n name None d old new greater e = e
past_slot n name (Some u) d old new greater e =
    let here : Data = property_data u.now in
    let ms : Members = members_of old in
    ap (member n here) e ∙ sym (ap (λ o. match_ordering o (member name d (member n here ms)) (member n d ms) (member n here (put name d ms))) greater)

front_slot : (n name : List ℕ) (slot : Option (Bor PropertyValue)) (d : Data) (old : List (List ℕ × Data)) → slice_cmp nat_cmp name n ≡ Less
    → put name d (members_of old) ≡ member name d (members_of old)
    → put name d (members_of (member_if n slot ++ old)) ≡ member name d (members_of (member_if n slot ++ old))
front_slot n name None d old less e = e
front_slot n name (Some u) d old less e =
    let here : Data = property_data u.now in
    let ms : Members = members_of old in
    ap (λ o. match_ordering o (member name d (member n here ms)) (member n d ms) (member n here (put name d ms))) less

put_front : (name : List ℕ) (d : Data) (after : List Slot) → Before name after → put name d (members_of (present after)) ≡ member name d (members_of (present after))
put_front name d [] before = refl
put_front name d (s ∷ rest) before = front_slot s.0 name s.1 d (present rest) before.0 (put_front name d rest before.1)

put_here : (name : List ℕ) (slot : Option (Bor PropertyValue)) (v : Bor PropertyValue) (after : List Slot) → slice_cmp nat_cmp name name ≡ Equal → Before name after
    → members_of (present ((name, Some v) ∷ after)) ≡ put name (property_data v.now) (members_of (present ((name, slot) ∷ after)))
put_here name None v after same before = sym (put_front name (property_data v.now) after before)
put_here name (Some u) v after same before =
    let d : Data = property_data v.now in
    let here : Data = property_data u.now in
    let ms : Members = members_of (present after) in
    sym (ap (λ o. match_ordering o (member name d (member name here ms)) (member name d ms) (member name here (put name d ms))) same)

-- a value that is put into its slot is a member that is put at its name
pub put_slot : (front : List Slot) (name : List ℕ) (slot : Option (Bor PropertyValue)) (v : Bor PropertyValue) (after : List Slot)
    → Behind name front → slice_cmp nat_cmp name name ≡ Equal → Before name after
    → members_of (present (front ++ (name, Some v) ∷ after)) ≡ put name (property_data v.now) (members_of (present (front ++ (name, slot) ∷ after)))
put_slot [] name slot v after behind same before = put_here name slot v after same before
put_slot (s ∷ rest) name slot v after behind same before =
    past_slot s.0 name s.1 (property_data v.now) (present (rest ++ (name, slot) ∷ after)) (present (rest ++ (name, Some v) ∷ after)) behind.0
    (put_slot rest name slot v after behind.1 same before)
