use Rattle.book_office_members.proofs.Common.{◌≡◌, ◌++◌, ◌+◌, ◌∷◌, [], ℕ, List, map, length, true, sym, ap, ◌∙◌, subst, arith, rules, has_path, pairs_in, groups_at}
use Rattle.std.proofs.Common.{◌↔◌, ◌≤◌, append-nil, length-append}
use Rattle.std.proofs.lemmas.List.{map-append, length-map}
use Rattle.std.specs.FinSet as set
use Rattle.book_lists.specs.Memberships.{IsDirect}
use Rattle.book_lists.proofs.GroupLists.{contains-pairs_in}
use Rattle.book_lists.proofs.Searches.{Searches, ahead, search_begins, seen_again, seen_first, search_ends, ahead_spent}
use Rattle.book_office_members.proofs.links.search.Goals as goal

pub loop-member-init : goal.loop-member-init
loop-member-init c = rw (c.new-found.ensures, c.in_ok-work.ensures) (search_begins (pairs_in c.args.groups.now.entries) c.args.starts.now)

pub loop-member-preserved-then-has : goal.loop-member-preserved-then-has
loop-member-preserved-then-has c =
    let pairs = pairs_in c.args.groups.now.entries in
    let member = c.in-Some.member.now in
    let rest = map (λ w. w.now) c.pop.new.self.items in
    let work : map (λ w. w.now) c.loop-member.work.items ≡ rest ++ member ∷ [] = ap (map (λ w. w.now)) c.in-Some.ensures.items ∙ map-append (λ w. w.now) c.pop.new.self.items (c.in-Some.member ∷ []) in
    let P : List (List ℕ) → Type 0 = Searches pairs c.args.starts.now c.loop-member.found in
    seen_again pairs c.args.starts.now c.loop-member.found rest member (sym c.has.ensures ∙ c.if-has.true) (subst P work c.loop-member.invariant)

pub loop-member-smaller : goal.loop-member-smaller
loop-member-smaller c =
    let entries = c.args.groups.now.entries in
    let member = c.in-Some.member.now in
    let same : c.in_ok-clone.field-0 ≡ member = c.in_ok-clone.ensures.cases in
    let found : c.insert.new.self ≡ set.insert c.loop-member.found member = c.in_ok-insert.ensures.ok ∙ ap (set.insert c.loop-member.found) same in
    let pushed = c.in_ok-push_targets.ensures in
    let spent = ahead_spent c.loop-member.found member entries (sym c.has.ensures ∙ c.if-has.false) in
    let less : ahead entries c.insert.new.self + set.len (groups_at entries member) ≤ ahead entries c.loop-member.found = rw found spent in
    let popped : length c.loop-member.work.items ≡ length c.pop.new.self.items + 1 = ap length c.in-Some.ensures.items ∙ length-append c.pop.new.self.items (c.in-Some.member ∷ []) in
    let work : length c.push_targets.new.work.items ≡ length c.pop.new.self.items + set.len (groups_at entries member) =
    sym (length-map c.push_targets.new.work.items (λ w. w.now)) ∙ ap length pushed.2 ∙ length-append (map (λ w. w.now) c.pop.new.self.items) pushed.0
    ∙ (λ i. length-map c.pop.new.self.items (λ w. w.now) i + pushed.1.once i) in
    omega (arith, less, popped, work)

pub loop-member-preserved : goal.loop-member-preserved
loop-member-preserved c =
    let entries = c.args.groups.now.entries in
    let pairs = pairs_in entries in
    let start = c.args.starts.now in
    let member = c.in-Some.member.now in
    let rest = map (λ w. w.now) c.pop.new.self.items in
    let same : c.in_ok-clone.field-0 ≡ member = c.in_ok-clone.ensures.cases in
    let found : c.insert.new.self ≡ set.insert c.loop-member.found member = c.in_ok-insert.ensures.ok ∙ ap (set.insert c.loop-member.found) same in
    let pushed = c.in_ok-push_targets.ensures in
    let direct : (q : List ℕ) → (has_path pushed.0 q ≡ true) ↔ IsDirect pairs q member = λ q. (
      λ has. contains-pairs_in entries c.requires q member ∙ sym (pushed.1.each q) ∙ has,
      λ pair. pushed.1.each q ∙ sym (contains-pairs_in entries c.requires q member) ∙ pair,
    ) in
    let popped : map (λ w. w.now) c.loop-member.work.items ≡ rest ++ member ∷ [] = ap (map (λ w. w.now)) c.in-Some.ensures.items ∙ map-append (λ w. w.now) c.pop.new.self.items (c.in-Some.member ∷ []) in
    let P : List (List ℕ) → Type 0 = Searches pairs start c.loop-member.found in
    rw (found, pushed.2) (seen_first pairs start c.loop-member.found rest member pushed.0 direct (subst P popped c.loop-member.invariant))

pub returns : goal.returns
returns c =
    let pairs = pairs_in c.args.groups.now.entries in
    let P : List (List ℕ) → Type 0 = Searches pairs c.args.starts.now c.loop-member.found in
    let rest : c.pop.new.self.items ≡ [] = search rules in
    let empty : map (λ w. w.now) c.loop-member.work.items ≡ [] = ap (map (λ w. w.now)) (c.in_default.ensures.items ∙ append-nil _ ∙ rest) in
    search_ends pairs c.args.starts.now c.loop-member.found (subst P empty c.loop-member.invariant)
