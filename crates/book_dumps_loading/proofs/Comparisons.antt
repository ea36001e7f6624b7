-- What was given, and what is left of a text that begins with it.
use Rattle.book_dumps_loading.proofs.Common.{◌≡◌, ◌≢◌, ◌≤◌, ◌+◌, ◌∙◌, ◌++◌, ℕ, List, [], ap, drop, length, sym, take, append_assoc, append-nil}
use Rattle.std.proofs.Common.{Bor, IfNone, IfSome, MatchOption, None, Option, Some, le_refl}
use Rattle.std.proofs.lemmas.List.{append_cancel_left, length-append, length-take-le, take_all, take_at, take-append-drop}
use Rattle.book_dumps_loading.specs.Comparing.{given}

-- a text that begins with a front, and goes on with another, begins with both
pub both_stripped : (front other text rest left : List ℕ) → text ≡ front ++ rest → rest ≡ other ++ left → text ≡ (front ++ other) ++ left
both_stripped front other text rest left p q = p ∙ ap (λ (l : List ℕ). front ++ l) q ∙ sym (append_assoc front other left)

-- one that does not begin with the front begins with none that goes on
pub front_missed : (front other text : List ℕ) → ((rest : List ℕ) → text ≢ front ++ rest) → (left : List ℕ) → text ≢ (front ++ other) ++ left
front_missed front other text miss left e = miss (other ++ left) (e ∙ append_assoc front other left)

-- one that begins with the front, and does not go on with the other, does not begin with both
pub other_missed : (front other text rest : List ℕ) → text ≡ front ++ rest → ((left : List ℕ) → rest ≢ other ++ left) → (left : List ℕ) → text ≢ (front ++ other) ++ left
other_missed front other text rest p miss left e =
    miss left (append_cancel_left front rest (other ++ left) (sym p ∙ e ∙ append_assoc front other left))

-- the same of what is left of the rest
pub both_left : (front other text rest : List ℕ) (r : Option (Bor (List ℕ))) → text ≡ front ++ rest
    → MatchOption r ((left : List ℕ) → rest ≢ other ++ left) (λ x. rest ≡ other ++ x.now) → IfSome r (λ x. text ≡ (front ++ other) ++ x.now)
both_left front other text rest None p left = tt
both_left front other text rest (Some x) p left = both_stripped front other text rest x.now p left

pub none_left : (front other text rest : List ℕ) (r : Option (Bor (List ℕ))) → text ≡ front ++ rest
    → MatchOption r ((left : List ℕ) → rest ≢ other ++ left) (λ x. rest ≡ other ++ x.now) → IfNone r ((left : List ℕ) → text ≢ (front ++ other) ++ left)
none_left front other text rest None p missed = other_missed front other text rest p missed
none_left front other text rest (Some x) p missed = tt

-- so many bytes of a text, and those that come next, are so many more
pub more_taken : (wanted : List ℕ) (equal : ℕ) (bytes : List ℕ) → equal ≤ length wanted
    → drop equal wanted ≡ bytes ++ drop (length bytes) (drop equal wanted) → take (equal + length bytes) wanted ≡ take equal wanted ++ bytes
more_taken wanted equal bytes within starts =
    let front = take equal wanted in
    let rest = drop (length bytes) (drop equal wanted) in
    let whole : wanted ≡ (front ++ bytes) ++ rest =
    sym (take-append-drop equal wanted) ∙ ap (λ (l : List ℕ). front ++ l) starts ∙ sym (append_assoc front bytes rest) in
    let long : length (front ++ bytes) ≡ equal + length bytes = length-append front bytes ∙ ap (λ (n : ℕ). n + length bytes) (length-take-le equal wanted within) in
    ap (take (equal + length bytes)) whole ∙ take_at (front ++ bytes) rest (equal + length bytes) long

-- what was given grows by bytes that go on with the wanted text, where nothing else was given
pub given_more : (wanted : List ℕ) (equal : ℕ) (other bytes : List ℕ) → other ≡ [] → equal ≤ length wanted
    → drop equal wanted ≡ bytes ++ drop (length bytes) (drop equal wanted)
    → given wanted (equal + length bytes) other ≡ given wanted equal other ++ take (length bytes) bytes
given_more wanted equal other bytes none within starts =
    let alone : (n : ℕ) → given wanted n other ≡ take n wanted = λ n. ap (λ (l : List ℕ). take n wanted ++ l) none ∙ append-nil (take n wanted) in
    alone (equal + length bytes) ∙ more_taken wanted equal bytes within starts
    ∙ ap (λ (l : List ℕ). l ++ bytes) (sym (alone equal))
    ∙ ap (λ (l : List ℕ). given wanted equal other ++ l) (sym (take_all (length bytes) bytes (le_refl (length bytes))))
