use Rattle.book_lists.proofs.Common.{◌≡◌, ◌++◌, ◌+◌, ◌∷◌, [], ℕ, List, map, length, sym, ap, ◌∙◌, subst, arith, append-nil, length-append, map-append, pairs_in}
use Rattle.std.proofs.Common.{rules}
use Rattle.std.proofs.lemmas.List.{length-map}
use Rattle.std.specs.FinSet as set
use Rattle.book_lists.proofs.Searches.{Searches, search_begins, seen_again, search_ends}
use Rattle.book_lists.proofs.Climbing.{climbs_less, climbs_on}
use Rattle.book_lists.proofs.memberships.search.Goals as goal

pub loop-member-init : goal.loop-member-init
loop-member-init c =
    rw (c.new-found.ensures) (search_begins (pairs_in c.args.groups.now.entries) (map (λ w. w.now) c.args.starts.items))

pub loop-member-preserved-then-has : goal.loop-member-preserved-then-has
loop-member-preserved-then-has c =
    let pairs = pairs_in c.args.groups.now.entries in
    let member = c.in-Some.member.now in
    let rest = map (λ w. w.now) c.pop.new.self.items in
    let work : map (λ w. w.now) c.loop-member.work.items ≡ rest ++ member ∷ [] = ap (map (λ w. w.now)) c.in-Some.ensures.items ∙ map-append (λ w. w.now) c.pop.new.self.items (c.in-Some.member ∷ []) in
    let P : List (List ℕ) → Type 0 = Searches pairs (map (λ w. w.now) c.args.starts.items) c.loop-member.found in
    seen_again pairs (map (λ w. w.now) c.args.starts.items) c.loop-member.found rest member (sym c.has.ensures ∙ c.if-has.true) (subst P work c.loop-member.invariant)

pub loop-member-smaller : goal.loop-member-smaller
loop-member-smaller c =
    let entries = c.args.groups.now.entries in
    let member = c.in-Some.member.now in
    let rest = map (λ w. w.now) c.pop.new.self.items in
    let same : c.in_ok-clone.field-0 ≡ member = c.in_ok-clone.ensures.cases in
    let found : c.insert.new.self ≡ set.insert c.loop-member.found member = c.in_ok-insert.ensures.ok ∙ ap (set.insert c.loop-member.found) same in
    let popped : length c.loop-member.work.items ≡ length c.pop.new.self.items + 1 = ap length c.in-Some.ensures.items ∙ length-append c.pop.new.self.items (c.in-Some.member ∷ []) in
    let before : length rest ≡ length c.pop.new.self.items = length-map c.pop.new.self.items (λ w. w.now) in
    let after : length (map (λ w. w.now) c.climb.new.work.items) ≡ length c.climb.new.work.items = length-map c.climb.new.work.items (λ w. w.now) in
    let less = climbs_less entries c.loop-member.found member c.insert.new.self c.climb.new.found rest (map (λ w. w.now) c.climb.new.work.items) found (sym c.has.ensures ∙ c.if-has.false) c.in_ok-climb.ensures in
    omega (arith, less, popped, before, after)

pub loop-member-preserved : goal.loop-member-preserved
loop-member-preserved c =
    let entries = c.args.groups.now.entries in
    let start = map (λ w. w.now) c.args.starts.items in
    let member = c.in-Some.member.now in
    let rest = map (λ w. w.now) c.pop.new.self.items in
    let same : c.in_ok-clone.field-0 ≡ member = c.in_ok-clone.ensures.cases in
    let found : c.insert.new.self ≡ set.insert c.loop-member.found member = c.in_ok-insert.ensures.ok ∙ ap (set.insert c.loop-member.found) same in
    let popped : map (λ w. w.now) c.loop-member.work.items ≡ rest ++ member ∷ [] = ap (map (λ w. w.now)) c.in-Some.ensures.items ∙ map-append (λ w. w.now) c.pop.new.self.items (c.in-Some.member ∷ []) in
    let P : List (List ℕ) → Type 0 = Searches (pairs_in entries) start c.loop-member.found in
    climbs_on entries c.requires.ordered start c.loop-member.found member c.insert.new.self c.climb.new.found rest (map (λ w. w.now) c.climb.new.work.items) found c.in_ok-climb.ensures (subst P popped c.loop-member.invariant)

pub returns : goal.returns
returns c =
    let pairs = pairs_in c.args.groups.now.entries in
    let P : List (List ℕ) → Type 0 = Searches pairs (map (λ w. w.now) c.args.starts.items) c.loop-member.found in
    let rest : c.pop.new.self.items ≡ [] = search rules in
    let empty : map (λ w. w.now) c.loop-member.work.items ≡ [] = ap (map (λ w. w.now)) (c.in_default.ensures.items ∙ append-nil _ ∙ rest) in
    search_ends pairs (map (λ w. w.now) c.args.starts.items) c.loop-member.found (subst P empty c.loop-member.invariant)
