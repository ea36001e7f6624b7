use Rattle.std.proofs.Common.{◌≡◌, ◌<◌, ◌∙◌, List, ℕ, [], Some, false, slice_get, length, get_or, ap, sym, subst, rules}
use Rattle.std.proofs.lemmas.Option.{slice_get_within}
use Rattle.std.specs.FinSet as set
use Rattle.book_lists.specs.Circles.{has_path}
use Rattle.book_lists.specs.Memberships.{Memberships}
use Rattle.book_lists.specs.declared.memberships.Membership.{Membership}
use Rattle.book_lists_reach.specs.Bits.{bit}
use Rattle.book_lists_reach.specs.Pairs.{has_bit}
use Rattle.book_lists_reach.proofs.RowPairs.{any_default, at_places, no_group, no_member}
use Rattle.book_lists_reach.proofs.reach.Reach.has.Goals as goal

pub returns-in_default : goal.returns-in_default
returns-in_default c =
    let m : Membership = record { group = c.args.group.now; member = c.args.member.now } in
    let none = subst (λ ps. has_path ps m.group ≡ false) c.as_slice.ensures.value c.in_default.ensures in
    sym (no_group c.self.inside.principals.items (has_bit c.self.inside.rows.items) m none) ∙ ap (λ (s : Memberships). set.contains s m) c.self.view_is

pub returns-in_default-place_of : goal.returns-in_default-place_of
returns-in_default-place_of c =
    let m : Membership = record { group = c.args.group.now; member = c.args.member.now } in
    let none = subst (λ ps. has_path ps m.member ≡ false) c.as_slice-2.ensures.value c.in_default-place_of.ensures in
    sym (no_member c.self.inside.principals.items (has_bit c.self.inside.rows.items) m none) ∙ ap (λ (s : Memberships). set.contains s m) c.self.view_is

pub index-requires : goal.index-requires
index-requires c =
    let within : c.in-Some.i < length c.as_slice.result.now = slice_get_within c.as_slice.result.now c.in-Some.i c.args.group.now c.in-Some.ensures in
    search rules

pub returns : goal.returns
returns c =
    let m : Membership = record { group = c.args.group.now; member = c.args.member.now } in
    let ps : List (List ℕ) = c.self.inside.principals.items in
    let rows : List (List ℕ) = c.self.inside.rows.items in
    let i = c.in-Some.i in
    let j = c.in-Some-place_of.j in
    let ig = subst (λ xs. slice_get xs i ≡ Some m.group) c.as_slice.ensures.value c.in-Some.ensures in
    let jp = subst (λ xs. slice_get xs j ≡ Some m.member) c.as_slice-2.ensures.value c.in-Some-place_of.ensures in
    let here : i < length ps = slice_get_within ps i m.group ig in
    let within : i < length rows = search rules in
    let row : c.index.result.now ≡ get_or rows i [] = c.index.ensures ∙ any_default rows i c.index.result.now [] within in
    c.has.ensures ∙ ap (λ r. bit r j) row ∙ sym (at_places ps c.self.invariant.0 (has_bit rows) i j m ig jp) ∙ ap (λ (s : Memberships). set.contains s m) c.self.view_is
