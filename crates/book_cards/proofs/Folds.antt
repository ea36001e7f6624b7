-- Unfolding, a line at a time.
use Rattle.book_cards.proofs.Common.{◌≡◌, ◌≢◌, ℕ, suc, ◌<◌, Bool, true, false, ◌||◌, cond, List, [], ◌∷◌, ◌++◌, length, get_or, refl, ap, ◌∙◌, arith, eqb, is_blank, unfolded}
use Rattle.std.proofs.lemmas.Bool.{or_parts, and_left, and_right}
use Rattle.book_cards.specs.Folding.{is_fold, is_crlf_fold}

-- no byte of the text is c
abbrev pub Lacks : ℕ → List ℕ → Type 0
Lacks c [] = Unit {0}
Lacks c (b ∷ bs) = (eqb b c ≡ false) × Lacks c bs

abbrev pub begins_fold : List ℕ → Bool
begins_fold [] = false
begins_fold (a ∷ []) = false
begins_fold (a ∷ b ∷ []) = is_fold a b
begins_fold (a ∷ b ∷ c ∷ rest) = is_crlf_fold a b c || is_fold a b

-- a byte at which no fold begins stays
pub keep : (a : ℕ) (rest : List ℕ) → begins_fold (a ∷ rest) ≡ false → unfolded (a ∷ rest) ≡ a ∷ unfolded rest
keep a [] e = refl
keep a (b ∷ []) e = ap (λ t. cond t [] (a ∷ (b ∷ []))) e
keep a (b ∷ c ∷ rest) e =
    let parts = or_parts (is_crlf_fold a b c) (is_fold a b) e in
    ap (λ t. cond t (unfolded rest) (cond (is_fold a b) (unfolded (c ∷ rest)) (a ∷ unfolded (b ∷ c ∷ rest)))) parts.0
    ∙ ap (λ t. cond t (unfolded (c ∷ rest)) (a ∷ unfolded (b ∷ c ∷ rest))) parts.1

-- two bytes that are no line feeds begin no fold
apart : (a b : ℕ) (rest : List ℕ) → eqb a 10 ≡ false → eqb b 10 ≡ false → begins_fold (a ∷ b ∷ rest) ≡ false
apart a b [] e h = and_left (eqb a 10) (is_blank b) e
apart a b (c ∷ rest) e h =
    rw (and_right (eqb a 13) (is_fold b c) (and_left (eqb b 10) (is_blank c) h), and_left (eqb a 10) (is_blank b) e) refl

-- nor does a byte that is neither a carriage return nor a line feed
plain : (a : ℕ) (rest : List ℕ) → eqb a 10 ≡ false → eqb a 13 ≡ false → begins_fold (a ∷ rest) ≡ false
plain a [] e h = refl
plain a (b ∷ []) e h = and_left (eqb a 10) (is_blank b) e
plain a (b ∷ c ∷ rest) e h = rw (and_left (eqb a 13) (is_fold b c) h, and_left (eqb a 10) (is_blank b) e) refl

-- what doesn't begin with a blank
abbrev pub Unblank : List ℕ → Type 0
Unblank [] = Unit {0}
Unblank (b ∷ bs) = is_blank b ≡ false

before_feed : (a : ℕ) (y : List ℕ) → eqb a 10 ≡ false → Unblank y → begins_fold (a ∷ 10 ∷ y) ≡ false
before_feed a [] e u = and_left (eqb a 10) (is_blank 10) e
before_feed a (b ∷ y) e u = rw (and_right (eqb a 13) (is_blank b) u, and_left (eqb a 10) (is_blank 10) e) refl

at_feed : (y : List ℕ) → Unblank y → begins_fold (10 ∷ y) ≡ false
at_feed [] u = refl
at_feed (b ∷ []) u = u
at_feed (b ∷ c ∷ y) u = u

pub no_feed : (x : List ℕ) → Lacks 10 x → unfolded x ≡ x
no_feed [] h = refl
no_feed (a ∷ []) h = refl
no_feed (a ∷ b ∷ x) h = keep a (b ∷ x) (apart a b x h.0 h.1.0) ∙ ap (λ t. a ∷ t) (no_feed (b ∷ x) h.1)

pub no_fold : (x y : List ℕ) → Lacks 10 x → Unblank y → unfolded (x ++ 10 ∷ y) ≡ x ++ (10 ∷ unfolded y)
no_fold [] y h u = keep 10 y (at_feed y u)
no_fold (a ∷ []) y h u = keep a (10 ∷ y) (before_feed a y h.0 u) ∙ ap (λ t. a ∷ t) (keep 10 y (at_feed y u))
no_fold (a ∷ b ∷ x) y h u =
    keep a ((b ∷ x) ++ 10 ∷ y) (apart a b (x ++ 10 ∷ y) h.0 h.1.0) ∙ ap (λ t. a ∷ t) (no_fold (b ∷ x) y h.1 u)

-- at a fold: what comes before its carriage return and line feed
pub crlf_fold : (x y : List ℕ) (b : ℕ) → Lacks 10 x → is_blank b ≡ true → unfolded (x ++ (13 ∷ 10 ∷ b ∷ y)) ≡ x ++ unfolded y
crlf_fold [] y b h e = ap (λ t. cond t (unfolded y) (13 ∷ unfolded (10 ∷ b ∷ y))) e
crlf_fold (a ∷ []) y b h e = keep a (13 ∷ 10 ∷ b ∷ y) (apart a 13 (10 ∷ b ∷ y) h.0 refl) ∙ ap (λ t. a ∷ t) (crlf_fold [] y b tt e)
crlf_fold (a ∷ c ∷ x) y b h e =
    keep a ((c ∷ x) ++ (13 ∷ 10 ∷ b ∷ y)) (apart a c (x ++ (13 ∷ 10 ∷ b ∷ y)) h.0 h.1.0) ∙ ap (λ t. a ∷ t) (crlf_fold (c ∷ x) y b h.1 e)

pub feed_fold : (y : List ℕ) (b : ℕ) → is_blank b ≡ true → unfolded (10 ∷ b ∷ y) ≡ unfolded y
feed_fold [] b e = ap (λ t. cond t [] (10 ∷ (b ∷ []))) e
feed_fold (c ∷ y) b e = ap (λ t. cond t (unfolded (c ∷ y)) (10 ∷ unfolded (b ∷ c ∷ y))) e

pub eqb_is : (a n : ℕ) → eqb a n ≡ true → a ≡ n
eqb_is a n e = grind arith

-- or before its line feed alone
pub lf_fold : (x y : List ℕ) (b : ℕ) → Lacks 10 x → ((front : List ℕ) → x ≢ front ++ (13 ∷ [])) → is_blank b ≡ true → unfolded (x ++ (10 ∷ b ∷ y)) ≡ x ++ unfolded y
lf_fold [] y b h other e = feed_fold y b e
lf_fold (a ∷ []) y b h other e =
    let at : (t : Bool) → eqb a 13 ≡ t → unfolded (a ∷ 10 ∷ b ∷ y) ≡ a ∷ unfolded y =
    λ t. elim t as (λ t. eqb a 13 ≡ t → unfolded (a ∷ 10 ∷ b ∷ y) ≡ a ∷ unfolded y) [
      | true ↦ λ s. absurd (other [] (ap (λ n. n ∷ []) (eqb_is a 13 s)))
      | false ↦ λ s. keep a (10 ∷ b ∷ y) (plain a (10 ∷ b ∷ y) h.0 s) ∙ ap (λ r. a ∷ r) (feed_fold y b e)
    ] in
    at (eqb a 13) refl
lf_fold (a ∷ c ∷ x) y b h other e =
    keep a ((c ∷ x) ++ (10 ∷ b ∷ y)) (apart a c (x ++ (10 ∷ b ∷ y)) h.0 h.1.0)
    ∙ ap (λ t. a ∷ t) (lf_fold (c ∷ x) y b h.1 (λ front s. other (a ∷ front) (ap (λ t. a ∷ t) s)) e)

-- from what a search says of each place
pub lacks_from_reads : (c : ℕ) (x : List ℕ) → ((i : ℕ) → i < length x → get_or x i 0 ≢ c) → Lacks c x
lacks_from_reads c [] h = tt
lacks_from_reads c (b ∷ x) h = (ne b (h 0 (omega arith)), lacks_from_reads c x (λ i l. h (suc i) (omega arith)))
  where
    ne : (n : ℕ) → n ≢ c → eqb n c ≡ false
    ne n d = grind arith

pub lacks_front : (c : ℕ) (x y : List ℕ) → Lacks c (x ++ y) → Lacks c x
lacks_front c [] y h = tt
lacks_front c (b ∷ x) y h = (h.0, lacks_front c x y h.1)
