-- A step of a search that stops where what is above is known.
use Rattle.book_lists.proofs.Common.{◌≡◌, ◌↔◌, ℕ, ◌+◌, ◌<◌, false, true, List, [], ◌∷◌, ◌++◌, length, length-append, inl, inr, sym, ap, subst, ◌∙◌, arith, has_path, pairs_in, path_cmp}
use Rattle.std.specs.FinSet as set
use Rattle.std.specs.List.Sorted.{IsStrictlySortedBy}
use Rattle.std.specs.Map.{keys_of}
use Rattle.book_lists.specs.Climbing.{Climbs}
use Rattle.book_lists.specs.GroupEntries.{GroupEntries}
use Rattle.book_lists.specs.Memberships.{IsDirect}
use Rattle.book_lists.specs.PrincipalSets.{with_paths}
use Rattle.book_lists.proofs.GroupLists.{contains-pairs_in}
use Rattle.book_lists.proofs.Searches.{Searches, ahead, ahead_spent, ahead_kept, ahead_whole, seen_first, seen_whole}

pub climbs_on : (entries : GroupEntries) → IsStrictlySortedBy path_cmp (keys_of entries) → (starts : List (List ℕ)) (found : set.FinSet path_cmp) (member : List ℕ) (with_it after : set.FinSet path_cmp) (work left : List (List ℕ))
    → with_it ≡ set.insert found member → Climbs entries member with_it after work left → Searches (pairs_in entries) starts found (work ++ member ∷ []) → Searches (pairs_in entries) starts after left
climbs_on entries sorted starts found member with_it after work left is (inl step) s =
    let pairs = pairs_in entries in
    let direct : (q : List ℕ) → (has_path step.0 q ≡ true) ↔ IsDirect pairs q member = λ q. (
      λ has. contains-pairs_in entries sorted q member ∙ sym (step.1.each q) ∙ has,
      λ pair. step.1.each q ∙ sym (contains-pairs_in entries sorted q member) ∙ pair,
    ) in
    let now : after ≡ set.insert found member = step.3 ∙ is in
    subst (λ f. Searches pairs starts f left) (sym now) (subst (Searches pairs starts (set.insert found member)) (sym step.2) (seen_first pairs starts found work member step.0 direct s))
climbs_on entries sorted starts found member with_it after work left is (inr step) s =
    let pairs = pairs_in entries in
    let now : after ≡ with_paths step.0 (set.insert found member) = step.3 ∙ ap (with_paths step.0) is in
    subst (λ f. Searches pairs starts f left) (sym now) (subst (Searches pairs starts (with_paths step.0 (set.insert found member))) (sym step.2) (seen_whole pairs starts found work member step.0 step.1 s))

pub climbs_less : (entries : GroupEntries) (found : set.FinSet path_cmp) (member : List ℕ) (with_it after : set.FinSet path_cmp) (work left : List (List ℕ))
    → with_it ≡ set.insert found member → set.contains found member ≡ false → Climbs entries member with_it after work left → ahead entries after + length left < ahead entries found + length work + 1
climbs_less entries found member with_it after work left is new (inl step) =
    let spent = ahead_spent found member entries new in
    let now : ahead entries after ≡ ahead entries (set.insert found member) = ap (ahead entries) (step.3 ∙ is) in
    let more : length left ≡ length work + length step.0 = ap length step.2 ∙ length-append work step.0 in
    let once = step.1.once in
    omega (arith, spent, now, more, once)
climbs_less entries found member with_it after work left is new (inr step) =
    let now : ahead entries after ≡ ahead entries (with_paths step.0 (set.insert found member)) = ap (ahead entries) (step.3 ∙ ap (with_paths step.0) is) in
    let whole = ahead_whole entries step.0 (set.insert found member) in
    let kept = ahead_kept found member entries in
    let same : length left ≡ length work = ap length step.2 in
    omega (arith, now, whole, kept, same)
