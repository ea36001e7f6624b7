-- The first line of a text.
use Rattle.book_cards.proofs.Common.{◌≡◌, ◌≢◌, ℕ, ◌-◌, ◌<◌, Bool, true, false, cond, Option, Some, None, unwrap_or, List, [], ◌∷◌, ◌++◌, length, take, get_or, refl, ap, sym, ◌∙◌, arith, eqb, lines}
use Rattle.std.proofs.Common.{MatchOption}
use denote.Ref.{Bor}
use Rattle.std.specs.List.{All, slice_split}
use Rattle.std.specs.Str.Lines.{lines_of_parts, strip_carriage_return}
use Rattle.std.proofs.lemmas.Grind.{common_steps}
use Rattle.std.proofs.lemmas.List.Splits.{slice_split_none, slice_split_at, length-slice_split}

pub lines_of_parts-cons : (x : List ℕ) (parts : List (List ℕ)) → 0 < length parts → lines_of_parts (x ∷ parts) ≡ strip_carriage_return x ∷ lines_of_parts parts
lines_of_parts-cons x [] l = absurd (omega arith)
lines_of_parts-cons x (y ∷ more) l = refl

pub ne_eqb : (b c : ℕ) → b ≢ c → eqb b c ≡ false
ne_eqb b c h = grind arith

pub eq_eqb : (b c : ℕ) → b ≡ c → eqb b c ≡ true
eq_eqb b c h = grind arith

lacks : (x : List ℕ) → ((i : ℕ) → i < length x → get_or x i 0 ≢ 10) → All (λ b. eqb b 10 ≡ false) x
lacks x h k d l = ne_eqb (get_or x k d) 10 (λ e. h k l (grind (arith, common_steps)))

-- a line without its carriage return
stripped : (l kept : Bor (List ℕ)) (r : Option (Bor (List ℕ)))
    → MatchOption r ((front : List ℕ) → l.now ≢ front ++ (13 ∷ [])) (λ x. l.now ≡ x.now ++ (13 ∷ []))
    → kept ≡ unwrap_or r l → strip_carriage_return l.now ≡ kept.now
stripped l kept None cr is = at (eqb (get_or l.now (length l.now - 1) 0) 13) refl
  where
    whole : get_or l.now (length l.now - 1) 0 ≡ 13 → l.now ≡ take (length l.now - 1) l.now ++ (13 ∷ [])
    whole e = grind (arith, common_steps)

    at : (t : Bool) → eqb (get_or l.now (length l.now - 1) 0) 13 ≡ t → cond t (take (length l.now - 1) l.now) l.now ≡ kept.now
    at true e = absurd (cr (take (length l.now - 1) l.now) (whole (grind arith)))
    at false e = ap (λ (k : Bor (List ℕ)). k.now) (sym is)
stripped l kept (Some x) cr is =
    let last : get_or l.now (length l.now - 1) 0 ≡ 13 = grind (arith, common_steps) in
    let front : take (length l.now - 1) l.now ≡ x.now = grind (arith, common_steps) in
    ap (λ t. cond t (take (length l.now - 1) l.now) l.now) (eq_eqb _ 13 last) ∙ front ∙ ap (λ (k : Bor (List ℕ)). k.now) (sym is)

pub line_at : (text rest : List ℕ) (l kept : Bor (List ℕ)) (r : Option (Bor (List ℕ)))
    → text ≡ l.now ++ 10 ∷ rest → ((i : ℕ) → i < length l.now → get_or l.now i 0 ≢ 10)
    → MatchOption r ((front : List ℕ) → l.now ≢ front ++ (13 ∷ [])) (λ x. l.now ≡ x.now ++ (13 ∷ []))
    → kept ≡ unwrap_or r l → lines text ≡ kept.now ∷ lines rest
line_at text rest l kept r split none cr is =
    ap lines split ∙ ap lines_of_parts (slice_split_at (λ b. eqb b 10) l.now 10 rest (lacks l.now none) refl)
    ∙ lines_of_parts-cons l.now (slice_split (λ b. eqb b 10) rest) (omega (arith, length-slice_split (λ b. eqb b 10) rest))
    ∙ ap (λ v. v ∷ lines rest) (stripped l kept r cr is)

pub last_line : (text : List ℕ) → 0 < length text → ((i : ℕ) → i < length text → get_or text i 0 ≢ 10) → lines text ≡ text ∷ []
last_line text some none =
    ap lines_of_parts (slice_split_none (λ b. eqb b 10) text (lacks text none))
    ∙ ap (λ t. cond t [] (text ∷ [])) (ne_eqb (length text) 0 (λ z. omega arith))

pub positive : (n : ℕ) → eqb n 0 ≡ false → 0 < n
positive n e = grind arith
