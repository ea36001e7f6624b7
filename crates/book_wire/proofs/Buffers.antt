-- What is held between two places of a memory.
use Rattle.book_wire.proofs.Common.{◌≡◌, ℕ, ◌+◌, ◌≤◌, List, ◌++◌, length, take, drop, ap, ◌∙◌, append_assoc, arith, length-take-le}
use Rattle.std.proofs.lemmas.List.{drop-append-le}

-- more was put behind it, in a memory that grew
pub held_more : (start end n : ℕ) (old settled grown whole new came held : List ℕ)
    → start ≤ end → end ≤ length grown → drop start (take end old) ≡ held → settled ≡ old → take end grown ≡ take end settled
    → whole ≡ grown → take (end + n) new ≡ take end whole ++ came → drop start (take (end + n) new) ≡ held ++ came
held_more start end n old settled grown whole new came held ordered within is same kept all put =
    ap (drop start) (put ∙ ap (λ (t : List ℕ). take end t ++ came) all)
    ∙ drop-append-le start (take end grown) came (omega (arith, ordered, length-take-le end grown within))
    ∙ ap (λ (t : List ℕ). drop start t ++ came) (kept ∙ ap (take end) same)
    ∙ ap (λ (t : List ℕ). t ++ came) is

-- and then more
pub more_then : (old more text mid new : List ℕ) → mid ≡ old ++ more → new ≡ mid ++ text → new ≡ old ++ (more ++ text)
more_then old more text mid new x y = y ∙ ap (λ (t : List ℕ). t ++ text) x ∙ append_assoc old more text
