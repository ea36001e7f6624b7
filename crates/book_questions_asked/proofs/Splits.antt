-- Lines of words: what their text splits into.
use Rattle.std.proofs.Common.{◌≡◌, ◌++◌, ◌∷◌, ◌∙◌, ◌||◌, [], ℕ, Bool, true, false, List, ap, map, refl, sym}
use Rattle.std.proofs.lemmas.List.{append-nil, append_assoc}
use Rattle.std.proofs.lemmas.List.Splits.{slice_split-cons_no, slice_split-cons_yes}
use Rattle.std.proofs.lemmas.List.Folds.{list_any-append}
use Rattle.std.specs.List.{flat_map, list_any, onto_first, slice_split}
use Rattle.std.specs.Prelude.{◌==◌}
use Rattle.book_lists_explain.specs.Lines.{lines_of, words_of}

-- the byte stands nowhere in the text
abbrev pub Lacks : ℕ → List ℕ → Type 0
Lacks b text = list_any (λ x. x == b) text ≡ false

either : (a b : Bool) → (a || b) ≡ false → (a ≡ false) × (b ≡ false)
either true b h = absurd cc
either false b h = (refl, h)

pub lacks_both : (b : ℕ) (xs ys : List ℕ) → Lacks b xs → Lacks b ys → Lacks b (xs ++ ys)
lacks_both b xs ys p q = list_any-append (λ x. x == b) xs ys ∙ (λ i. p i || q i)

module _ (b : ℕ) where
  split_one : (xs : List ℕ) → Lacks b xs → slice_split (λ x. x == b) xs ≡ xs ∷ []
  split_one [] h = refl
  split_one (x ∷ xs) h =
      let parts = either (x == b) (list_any (λ y. y == b) xs) h in
      slice_split-cons_no (λ y. y == b) x xs parts.0 ∙ ap (onto_first x) (split_one xs parts.1)

  split_first : (xs : List ℕ) (y : ℕ) (ys : List ℕ) → Lacks b xs → (y == b) ≡ true → slice_split (λ x. x == b) (xs ++ y ∷ ys) ≡ xs ∷ slice_split (λ x. x == b) ys
  split_first [] y ys h e = slice_split-cons_yes (λ z. z == b) y ys e
  split_first (x ∷ xs) y ys h e =
      let parts = either (x == b) (list_any (λ z. z == b) xs) h in
      slice_split-cons_no (λ z. z == b) x (xs ++ y ∷ ys) parts.0 ∙ ap (onto_first x) (split_first xs y ys parts.1 e)

-- ---- words with single spaces between them
abbrev pub rest_text : List (List ℕ) → List ℕ
rest_text ws = flat_map (λ w. 32 ∷ w) ws

abbrev pub spelled : List (List ℕ) → List ℕ
spelled [] = []
spelled (w ∷ ws) = w ++ rest_text ws

-- the words after the first, and the end of the line
abbrev pub rest_line : List (List ℕ) → List ℕ
rest_line [] = 10 ∷ []
rest_line (w ∷ ws) = 32 ∷ (w ++ rest_line ws)

abbrev pub line_text : List (List ℕ) → List ℕ
line_text [] = 10 ∷ []
line_text (w ∷ ws) = w ++ rest_line ws

rest_ended : (ws : List (List ℕ)) → rest_line ws ≡ rest_text ws ++ 10 ∷ []
rest_ended [] = refl
rest_ended (w ∷ ws) = ap (λ r. 32 ∷ r) (ap (λ r. w ++ r) (rest_ended ws) ∙ sym (append_assoc w (rest_text ws) (10 ∷ [])))

line_ended : (ws : List (List ℕ)) → line_text ws ≡ spelled ws ++ 10 ∷ []
line_ended [] = refl
line_ended (w ∷ ws) = ap (λ r. w ++ r) (rest_ended ws) ∙ sym (append_assoc w (rest_text ws) (10 ∷ []))

-- each word lacks the byte
abbrev pub Each : ℕ → List (List ℕ) → Type 0
Each b [] = Unit {0}
Each b (w ∷ ws) = Lacks b w × Each b ws

pub words_spelled : (w : List ℕ) (ws : List (List ℕ)) → Each 32 (w ∷ ws) → words_of (spelled (w ∷ ws)) ≡ w ∷ ws
words_spelled w [] h = ap (slice_split (λ b. b == 32)) (append-nil w) ∙ split_one 32 w h.0
words_spelled w (v ∷ vs) h = split_first 32 w 32 (v ++ rest_text vs) h.0 refl ∙ ap (λ r. w ∷ r) (words_spelled v vs h.1)

rest_lacks : (ws : List (List ℕ)) → Each 10 ws → Lacks 10 (rest_text ws)
rest_lacks [] h = refl
rest_lacks (w ∷ ws) h = lacks_both 10 w (rest_text ws) h.0 (rest_lacks ws h.1)

spelled_lacks : (ws : List (List ℕ)) → Each 10 ws → Lacks 10 (spelled ws)
spelled_lacks [] h = refl
spelled_lacks (w ∷ ws) h = lacks_both 10 w (rest_text ws) h.0 (rest_lacks ws h.1)

-- no line has a line feed within
abbrev pub AllLack : List (List (List ℕ)) → Type 0
AllLack [] = Unit {0}
AllLack (l ∷ ls) = Each 10 l × AllLack ls

pub all_lack : (xs ys : List (List (List ℕ))) → AllLack xs → AllLack ys → AllLack (xs ++ ys)
all_lack [] ys p q = q
all_lack (x ∷ xs) ys p q = (p.0, all_lack xs ys p.1 q)

-- the lines of a text of lines, the last of which is empty
pub lines_spelled : (ls : List (List (List ℕ))) → AllLack ls → lines_of (flat_map line_text ls) ≡ map spelled ls ++ [] ∷ []
lines_spelled [] h = refl
lines_spelled (l ∷ ls) h =
    ap (λ t. lines_of (t ++ flat_map line_text ls)) (line_ended l)
    ∙ ap lines_of (append_assoc (spelled l) (10 ∷ []) (flat_map line_text ls))
    ∙ split_first 10 (spelled l) 10 (flat_map line_text ls) (spelled_lacks l h.0) refl
    ∙ ap (λ r. spelled l ∷ r) (lines_spelled ls h.1)
