-- The lines of a text are those that make it up.
use Rattle.book_cards.proofs.Common.{◌≡◌, ◌≢◌, ℕ, zero, suc, ◌-◌, ◌<◌, Bool, true, false, cond, List, [], ◌∷◌, ◌++◌, length, take, get_or, refl, ap, sym, ◌∙◌, subst, arith, append_assoc, eqb, lines}
use Rattle.std.specs.List.{All, slice_split}
use Rattle.std.specs.Str.Lines.{lines_of_parts, strip_carriage_return}
use Rattle.std.proofs.lemmas.Grind.{common_steps}
use Rattle.std.proofs.lemmas.List.Splits.{slice_split_none, slice_split_at, length-slice_split}
use Rattle.book_cards.specs.TextLines.{HasNoLineFeed, EndsInNoReturn, MakeUp, nothing, last, by_feed, by_both}
use Rattle.book_cards.proofs.LineEnds.{lines_of_parts-cons, ne_eqb, eq_eqb}
use Rattle.book_cards.proofs.Folds.{eqb_is}

each : (line : List ℕ) → HasNoLineFeed line → All (λ b. eqb b 10 ≡ false) line
each [] h k d l = absurd (omega arith)
each (b ∷ line) h zero d l = h.0
each (b ∷ line) h (suc k) d l = each line h.1 k d (omega arith)

at_feed : (line rest : List ℕ) → HasNoLineFeed line → lines (line ++ 10 ∷ rest) ≡ strip_carriage_return line ∷ lines rest
at_feed line rest lacks =
    ap lines_of_parts (slice_split_at (λ b. eqb b 10) line 10 rest (each line lacks) refl)
    ∙ lines_of_parts-cons line (slice_split (λ b. eqb b 10) rest) (omega (arith, length-slice_split (λ b. eqb b 10) rest))

at_last : (line : List ℕ) → 0 < length line → HasNoLineFeed line → lines line ≡ line ∷ []
at_last line some lacks =
    ap lines_of_parts (slice_split_none (λ b. eqb b 10) line (each line lacks))
    ∙ ap (λ t. cond t [] (line ∷ [])) (ne_eqb (length line) 0 (λ z. omega arith))

-- a carriage return at the end is left out, and nothing else
stripped : (line : List ℕ) → strip_carriage_return (line ++ 13 ∷ []) ≡ line
stripped line =
    let whole = line ++ 13 ∷ [] in
    let ending : get_or whole (length whole - 1) 0 ≡ 13 = grind (arith, common_steps) in
    let front : take (length whole - 1) whole ≡ line = grind (arith, common_steps) in
    ap (λ t. cond t (take (length whole - 1) whole) whole) (eq_eqb _ 13 ending) ∙ front

unstripped : (line : List ℕ) → EndsInNoReturn line → strip_carriage_return line ≡ line
unstripped line lacks = at (eqb (get_or line (length line - 1) 0) 13) refl
  where
    whole : get_or line (length line - 1) 0 ≡ 13 → line ≡ take (length line - 1) line ++ (13 ∷ [])
    whole e = grind (arith, common_steps)

    at : (t : Bool) → eqb (get_or line (length line - 1) 0) 13 ≡ t → cond t (take (length line - 1) line) line ≡ line
    at true e = absurd (lacks (take (length line - 1) line) (whole (grind arith)))
    at false e = refl

with_return : (line : List ℕ) → HasNoLineFeed line → HasNoLineFeed (line ++ 13 ∷ [])
with_return [] h = (refl, tt)
with_return (b ∷ line) h = (h.0, with_return line h.1)

pub related : (all : List (List ℕ)) (text : List ℕ) → MakeUp all text → all ≡ lines text
related _ _ nothing = refl
related _ _ (last line some lacks) = sym (at_last line some lacks)
related _ _ (by_feed line later rest lacks plain made) =
    sym (at_feed line rest lacks ∙ ap (λ l. l ∷ lines rest) (unstripped line plain) ∙ ap (λ t. line ∷ t) (sym (related later rest made)))
related _ _ (by_both line later rest lacks made) =
    sym (ap lines (sym (append_assoc line (13 ∷ []) (10 ∷ rest))) ∙ at_feed (line ++ 13 ∷ []) rest (with_return line lacks)
    ∙ ap (λ l. l ∷ lines rest) (stripped line) ∙ ap (λ t. line ∷ t) (sym (related later rest made)))

Made : List ℕ → Type 0
Made text = (all : List (List ℕ)) × MakeUp all text

-- one byte more at the front, which is no line feed
longer : (b : ℕ) → eqb b 10 ≡ false → (all : List (List ℕ)) (text : List ℕ) → MakeUp all text → Made (b ∷ text)
unfolding Made
longer b ne _ _ nothing = ((b ∷ []) ∷ [], last (b ∷ []) (omega arith) (ne, tt))
longer b ne _ _ (last line some lacks) = ((b ∷ line) ∷ [], last (b ∷ line) (omega arith) (ne, lacks))
longer b ne _ _ (by_both line later rest lacks made) = ((b ∷ line) ∷ later, by_both (b ∷ line) later rest (ne, lacks) made)
longer b ne _ _ (by_feed [] later rest lacks plain made) = here (eqb b 13) refl
  where
    alone : (front : List ℕ) → b ∷ [] ≡ front ++ 13 ∷ [] → b ≡ 13
    alone [] e = ap (λ (t : List ℕ). get_or t 0 0) e
    alone (c ∷ []) e = cc
    alone (c ∷ d ∷ front) e = cc

    here : (t : Bool) → eqb b 13 ≡ t → (all : List (List ℕ)) × MakeUp all (b ∷ 10 ∷ rest)
    here true e = subst (λ (x : ℕ). (all : List (List ℕ)) × MakeUp all (x ∷ 10 ∷ rest)) (sym (eqb_is b 13 e)) ([] ∷ later, by_both [] later rest tt made)
    here false e = ((b ∷ []) ∷ later, by_feed (b ∷ []) later rest (ne, tt) (λ front is. let same = alone front is in absurd (differ b e same)) made)
      where
        differ : (x : ℕ) → eqb x 13 ≡ false → x ≡ 13 → ⊥
        differ x h k = grind arith
longer b ne _ _ (by_feed (c ∷ line) later rest lacks plain made) =
    ((b ∷ c ∷ line) ∷ later, by_feed (b ∷ c ∷ line) later rest (ne, lacks) ends made)
  where
    ends : (front : List ℕ) → b ∷ c ∷ line ≢ front ++ 13 ∷ []
    ends [] is = cc
    ends (d ∷ front) is = plain front (ap (λ (t : List ℕ). Rattle.std.proofs.Common.drop 1 t) is)

exists : (text : List ℕ) → Made text
unfolding Made
exists [] = ([], nothing)
exists (b ∷ text) = here (eqb b 10) refl (exists text)
  where
    here : (t : Bool) → eqb b 10 ≡ t → Made text → Made (b ∷ text)
    here true e later =
        subst (λ (x : ℕ). Made (x ∷ text)) (sym (eqb_is b 10 e)) ([] ∷ later.0, by_feed [] later.0 text tt (λ front is. no_front front is) later.1)
      where
        no_front : (front : List ℕ) → [] ≢ front ++ 13 ∷ []
        no_front [] is = cc
        no_front (c ∷ front) is = cc
    here false e later = longer b e later.0 text later.1

pub relates : (text : List ℕ) → MakeUp (lines text) text
unfolding Made
relates text = let made = exists text in subst (λ (all : List (List ℕ)). MakeUp all text) (related made.0 text made.1) made.1
