-- Marks that are left: after one entry more, and by parts.
use Rattle.std.proofs.Common.{◌≡◌, ◌⊎◌, ◌↔◌, ◌<◌, ◌≤◌, ℕ, zero, suc, ◌+◌, ◌++◌, ◌∷◌, [], List, Bool, true, false, ◌&&◌, not, cond, is_none, eqb, length, get_or, take, set, map, Option, Some, None, refl, sym, ap, ◌∙◌, subst, inl, inr, arith}
use Rattle.std.specs.Prelude.{All}
use Rattle.std.proofs.lemmas.Bool.{false≢true, eqb-true, eqb-false}
use Rattle.std.proofs.lemmas.List.{get_or-set_same, get_or-set_other, get_or_past, take_more}
use Rattle.std.proofs.lemmas.List.Elements.{All-cons, All-head, All-nil, All-push, All-tail, All-take}
use Rattle.std.proofs.lemmas.Option.{unwrap_or-slice_get}
use Rattle.book_rights.specs.declared.privileges.Leaf.{Leaf}
use Rattle.book_rights.specs.Leaves.{Meets}
use Rattle.book_lists.specs.Circles.{CircleOf}
use Rattle.book_lists.specs.Decisions.{bears}
use Rattle.book_lists.specs.Entries.{applies}
use Rattle.book_lists.specs.declared.entries.Here.{Here}
use Rattle.book_office_values.specs.declared.paths.Path.{Path}
use Rattle.book_policy_values.specs.declared.parts.PolicyEntry.{PolicyEntry}
use Rattle.book_policy_idle.specs.Idle.{decider, is_marked}
use Rattle.book_policy_idle.specs.Marks.{AreAllMarked, AreMarksOf, AreUnmarked, IsCleared, IsUnmarked, MarksLeft, Spares, SparesAlong, SparesBoth, SparesEach}
use Rattle.book_policy_idle.specs.declared.askers.Asker.{Asker}
use Rattle.book_policy_idle.specs.declared.in_force.Placed.{Placed}
use Rattle.book_policy_idle.proofs.Deciders.{decider-push, or_else, some_apart, step_left, step_quiet, step_spared, step_spares, step_taken, unmarked_spares}

pub bool_cases : (b : Bool) → (b ≡ true) ⊎ (b ≡ false)
bool_cases true = inl refl
bool_cases false = inr refl

-- ---- one entry more

module _ (circle : CircleOf) (here : Here) (placed : Placed) (left : Leaf → Bool) (marks start : List Bool) (list : List Placed) (was : IsCleared circle here start list left marks) where
  abbrev before : Leaf → Option ℕ
  before leaf = decider circle here leaf list

  abbrev after : Leaf → Option ℕ
  after leaf = decider circle here leaf (list ++ placed ∷ [])

  pub cleared_quiet : ((leaf : Leaf) → left leaf ≡ true → bears circle here leaf placed.entry ≡ false) → IsCleared circle here start (list ++ placed ∷ []) left marks
  cleared_quiet quiet = record {
    left_open = λ leaf. was.left_open leaf ∙ ap (λ (d : Option ℕ). is_none d) (sym (same leaf));
    marks_left = λ i. (
      (λ marked. let m = (was.marks_left i).0 marked in (m.0, λ leaf is. m.1 leaf (sym (same leaf) ∙ is))),
      (λ m. (was.marks_left i).1 (m.0, λ leaf is. m.1 leaf (same leaf ∙ is))),
    );
  }
    where
      same : (leaf : Leaf) → after leaf ≡ before leaf
      same leaf =
          decider-push circle here leaf list placed
          ∙ step_quiet (before leaf) (bears circle here leaf placed.entry) placed.index (λ none. quiet leaf (was.left_open leaf ∙ none))

  pub cleared_taken : (rest_marks : List Bool) → applies placed.entry circle here ≡ true → Meets left placed.entry.set → IsUnmarked placed.index marks rest_marks
      → IsCleared circle here start (list ++ placed ∷ []) (λ leaf. left leaf && not (placed.entry.set leaf)) rest_marks
  cleared_taken rest_marks agreed meets unmarked = record {
    left_open = λ leaf.
        ap (λ x. x && not (placed.entry.set leaf)) (was.left_open leaf)
        ∙ step_left (before leaf) (placed.entry.set leaf) placed.index ∙ ap (λ (d : Option ℕ). is_none d) (sym (pushed leaf));
    marks_left = λ i. elim (bool_cases (eqb i placed.index)) [
      | inl same ↦ taken i (eqb-true i placed.index same)
      | inr apart ↦ kept i (eqb-false i placed.index apart)
    ];
  }
    where
      pushed : (leaf : Leaf) → after leaf ≡ or_else (before leaf) (cond (placed.entry.set leaf) (Some placed.index) None)
      pushed leaf =
          decider-push circle here leaf list placed
          ∙ ap (λ x. or_else (before leaf) (cond (x && placed.entry.set leaf) (Some placed.index) None)) agreed

      decides : after meets.0 ≡ Some placed.index
      decides = pushed meets.0 ∙ step_taken (before meets.0) (placed.entry.set meets.0) placed.index (sym (was.left_open meets.0) ∙ meets.1) meets.2

      taken : (i : ℕ) → i ≡ placed.index → (is_marked rest_marks i ≡ true) ↔ ((is_marked start i ≡ true) × Spares circle here (list ++ placed ∷ []) i)
      taken i same = (
        (λ marked. absurd (false≢true (sym unmarked.0 ∙ ap (is_marked rest_marks) (sym same) ∙ marked))),
        (λ m. absurd (m.1 meets.0 (decides ∙ ap (λ (k : ℕ). Some k) (sym same)))),
      )

      kept : (i : ℕ) → (i ≡ placed.index → ⊥) → (is_marked rest_marks i ≡ true) ↔ ((is_marked start i ≡ true) × Spares circle here (list ++ placed ∷ []) i)
      kept i apart = (
        (λ marked.
            let m = (was.marks_left i).0 (sym (unmarked.1 i apart) ∙ marked) in
            (m.0, λ leaf is. step_spares (before leaf) (placed.entry.set leaf) placed.index i apart (m.1 leaf) (sym (pushed leaf) ∙ is))),
        (λ m.
            unmarked.1 i apart
            ∙ (was.marks_left i).1
            (m.0, λ leaf. step_spared (before leaf) (cond (placed.entry.set leaf) (Some placed.index) None) i (λ is. m.1 leaf (pushed leaf ∙ is)))),
      )

pub cleared_none : (circle : CircleOf) (here : Here) (marks : List Bool) → IsCleared circle here marks [] (λ leaf. true) marks
cleared_none circle here marks = record {
  left_open = λ leaf. refl;
  marks_left = λ i. ((λ marked. (marked, λ leaf is. some_apart i (sym is))), λ m. m.0);
}

and_false : (a b : Bool) → (b ≡ true → ⊥) → (a && b) ≡ false
and_false true true h = absurd (h refl)
and_false true false h = refl
and_false false b h = refl

pub quiet_apart : (circle : CircleOf) (here : Here) (placed : Placed) (left : Leaf → Bool) → ((leaf : Leaf) → left leaf ≡ true → placed.entry.set leaf ≡ true → ⊥)
    → (leaf : Leaf) → left leaf ≡ true → bears circle here leaf placed.entry ≡ false
quiet_apart circle here placed left apart leaf is_open = and_false (applies placed.entry circle here) (placed.entry.set leaf) (apart leaf is_open)

pub quiet_elsewhere : (circle : CircleOf) (here : Here) (placed : Placed) → applies placed.entry circle here ≡ false → (leaf : Leaf) → bears circle here leaf placed.entry ≡ false
quiet_elsewhere circle here placed idle leaf = ap (λ x. x && placed.entry.set leaf) idle

-- ---- one mark

pub unmarked_within : (marks : List Bool) (index : ℕ) → index < length marks → IsUnmarked index marks (set marks index false)
unmarked_within marks index within = (
  unwrap_or-slice_get (set marks index false) index false ∙ get_or-set_same marks index false false within,
  λ i apart.
      unwrap_or-slice_get (set marks index false) i false ∙ get_or-set_other marks index i false false apart ∙ sym (unwrap_or-slice_get marks i false),
)

pub unmarked_past : (marks : List Bool) (index : ℕ) → length marks ≤ index → IsUnmarked index marks marks
unmarked_past marks index past = (unwrap_or-slice_get marks index false ∙ get_or_past marks index false past, λ i apart. refl)

pub all_marked : (es : List PolicyEntry) → AreAllMarked es (map (λ (e : PolicyEntry). true) es)
all_marked [] i = ((λ marked. absurd (false≢true marked)), λ below. absurd (omega (arith, below)))
all_marked (e ∷ es) zero = ((λ marked. omega arith), λ below. refl)
all_marked (e ∷ es) (suc i) = (
  (λ marked. let b = (all_marked es i).0 marked in omega (arith, b)),
  λ below. (all_marked es i).1 (omega (arith, below)),
)

-- ---- by parts

All-unpush : {X : Type 0} (P : X → Type 0) (xs : List X) (x : X) → All P (xs ++ x ∷ []) → All P xs × P x
All-unpush P [] x h = (All-nil P, All-head P x [] h)
All-unpush P (y ∷ ys) x h =
    let rest = All-unpush P ys x (All-tail P y (ys ++ x ∷ []) h) in
    (All-cons P y ys (All-head P y (ys ++ x ∷ []) h) rest.0, rest.1)

-- what holds of each index is no condition
pub left_none : (P : ℕ → Type 0) (marks : List Bool) → ((i : ℕ) → P i) → MarksLeft P marks marks
left_none P marks h i = ((λ marked. (marked, h i)), λ m. m.0)

-- one condition and then another, as one
pub left_then : (P Q R : ℕ → Type 0) (a b d : List Bool) → ((i : ℕ) → P i → Q i → R i) → ((i : ℕ) → R i → P i × Q i) → MarksLeft P a b → MarksLeft Q b d → MarksLeft R a d
left_then P Q R a b d join part first second i = (
  (λ marked. let m = (second i).0 marked in let n = (first i).0 m.0 in (n.0, join i n.1 m.1)),
  (λ m. let both = part i m.1 in (second i).1 ((first i).1 (m.0, both.0), both.1)),
)

pub left_as : (P Q : ℕ → Type 0) (a b : List Bool) → ((i : ℕ) → P i → Q i) → ((i : ℕ) → Q i → P i) → MarksLeft P a b → MarksLeft Q a b
left_as P Q a b to from left i = (
  (λ marked. let m = (left i).0 marked in (m.0, to i m.1)),
  (λ m. (left i).1 (m.0, from i m.1)),
)

-- one element more
pub left_more : {X : Type 0} (R : X → ℕ → Type 0) (xs : List X) (k : ℕ) (x : X) (a b d : List Bool) → k < length xs → x ≡ get_or xs k x
    → MarksLeft (λ i. All (λ y. R y i) (take k xs)) a b → MarksLeft (R x) b d → MarksLeft (λ i. All (λ y. R y i) (take (k + 1) xs)) a d
left_more R xs k x a b d below is first second =
    left_then (λ i. All (λ y. R y i) (take k xs)) (R x) (λ i. All (λ y. R y i) (take (k + 1) xs)) a b d
    (λ i all one. subst (All (λ y. R y i)) (sym more) (All-push (λ y. R y i) (take k xs) x all one))
    (λ i all. All-unpush (λ y. R y i) (take k xs) x (subst (All (λ y. R y i)) more all))
    first second
  where
    more : take (k + 1) xs ≡ take k xs ++ x ∷ []
    more = take_more xs k x below ∙ ap (λ y. take k xs ++ y ∷ []) (sym is)

-- where no entry of the list is marked, nothing is left to do
pub left_early : (here : Here) (is_book : Bool) (list : List Placed) (askers : List Asker) (k : ℕ) (a b : List Bool) → AreUnmarked b list
    → MarksLeft (SparesEach here is_book list (take k askers)) a b → MarksLeft (SparesEach here is_book list askers) a b
left_early here is_book list askers k a b unmarked left i = (
  (λ marked. (((left i).0 marked).0, λ j d below. both (get_or askers j d) marked)),
  (λ m. (left i).1 (m.0, All-take (λ asker. SparesBoth here is_book list asker i) k askers m.1)),
)
  where
    both : (asker : Asker) → is_marked b i ≡ true → SparesBoth here is_book list asker i
    both asker marked = record {
      unowned = unmarked_spares b asker.circle here list i unmarked marked;
      owned = λ book. unmarked_spares b asker.circle asker.own list i unmarked marked;
    }

pub are_marks : (es : List PolicyEntry) (askers : List Asker) (paths : List Path) (a b : List Bool) → AreAllMarked es a → MarksLeft (SparesAlong es askers paths) a b → AreMarksOf es askers paths b
are_marks es askers paths a b all left i = (
  (λ marked. let m = (left i).0 marked in ((all i).0 m.0, m.1)),
  (λ m. (left i).1 ((all i).1 m.0, m.1)),
)
