-- What stays where one place is written.
use Rattle.std.proofs.Common.{zero, suc, ◌≡◌, ◌<◌, Bool, true, false, not, is_some, ◌∷◌, slice_set}
use Rattle.book_desk_connections.proofs.Common.{ℕ, List, [], ◌++◌, length, Option, Some, None, refl, sym, ap, ◌∙◌, Accepted}
use Rattle.std.specs.Prelude.{get_or}
use Rattle.std.proofs.lemmas.List.{get_or-set_other, get_or_default}
use Rattle.std.proofs.Math.Seq.{get_or-append_seam}
use Rattle.book_desk_connections.specs.ManyConnections.{AllStay, OthersStay}

pub all_same : (places : List (Option Accepted)) → AllStay places places
all_same places = record { stay = λ j. refl }

pub all_equal : (places others : List (Option Accepted)) → others ≡ places → AllStay places others
all_equal places others e = record { stay = λ j. ap (λ (t : List (Option Accepted)). get_or t j None) e }

pushed : (places : List (Option Accepted)) (j : ℕ) → get_or (places ++ None ∷ []) j None ≡ get_or places j None
pushed [] zero = refl
pushed [] (suc j) = refl
pushed (x ∷ xs) zero = refl
pushed (x ∷ xs) (suc j) = pushed xs j

-- one more place, with nothing in it
pub all_pushed : (places others : List (Option Accepted)) → others ≡ places ++ None ∷ [] → AllStay places others
all_pushed places others e = record { stay = λ j. ap (λ (t : List (Option Accepted)). get_or t j None) e ∙ pushed places j }

pub pushed_free : (places others : List (Option Accepted)) (count : ℕ) → count ≡ length places → others ≡ places ++ None ∷ [] → get_or others count None ≡ None
pushed_free places others count at e =
    ap (λ (n : ℕ). get_or others n None) at ∙ ap (λ (t : List (Option Accepted)). get_or t (length places) None) e ∙ get_or-append_seam places None [] None

none_of : (x : Option Accepted) (r : Bool) → is_some x ≡ not r → r ≡ true → x ≡ None
none_of None r e t = refl
none_of (Some l) true e t = absurd (differ e)
  where
    differ : true ≡ false → ⊥
    differ h = cc
none_of (Some l) false e t = absurd (differ t)
  where
    differ : false ≡ true → ⊥
    differ h = cc

-- a place that was read, and had nothing in it
pub none_there : (places : List (Option Accepted)) (i : ℕ) (x : Option Accepted) (r : Bool) → i < length places
    → x ≡ get_or places i x → is_some x ≡ not r → r ≡ true → get_or places i None ≡ None
none_there places i x r within read is t = get_or_default places i None x within ∙ sym read ∙ none_of x r is t

pub others_same : (i : ℕ) (places : List (Option Accepted)) → OthersStay i places places
others_same i places = record { stay = λ j far. refl }

pub others_set : (i : ℕ) (places : List (Option Accepted)) (x : Option Accepted) → OthersStay i places (slice_set places i x)
others_set i places x = record { stay = λ j far. get_or-set_other places i j x None far }

pub others_then : (i : ℕ) (a b c : List (Option Accepted)) → OthersStay i a b → OthersStay i b c → OthersStay i a c
others_then i a b c x y = record { stay = λ j far. y.stay j far ∙ x.stay j far }

pub others_twice : (i : ℕ) (places : List (Option Accepted)) (x y : Option Accepted) → OthersStay i places (slice_set (slice_set places i x) i y)
others_twice i places x y = others_then i places (slice_set places i x) (slice_set (slice_set places i x) i y) (others_set i places x) (others_set i (slice_set places i x) y)

pub others_placed : (i : ℕ) (old mid : List (Option Accepted)) (x : Option Accepted) → AllStay old mid → OthersStay i old (slice_set mid i x)
others_placed i old mid x all = record { stay = λ j far. get_or-set_other mid i j x None far ∙ all.stay j }
