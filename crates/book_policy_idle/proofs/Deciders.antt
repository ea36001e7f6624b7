-- What decides a leaf in a list of placed entries.
use Rattle.std.proofs.Common.{◌≡◌, ◌≢◌, ℕ, ◌++◌, ◌∷◌, [], List, Bool, true, false, ◌&&◌, not, cond, is_none, Option, Some, None, refl, sym, ap, ◌∙◌}
use Rattle.std.proofs.lemmas.Bool.{false≢true}
use Rattle.book_rights.specs.declared.privileges.Leaf.{Leaf}
use Rattle.book_lists.specs.Circles.{CircleOf}
use Rattle.book_lists.specs.Decisions.{bears}
use Rattle.book_lists.specs.declared.entries.Here.{Here}
use Rattle.book_policy_idle.specs.Idle.{decider, is_marked}
use Rattle.book_policy_idle.specs.Marks.{AreUnmarked, Spares}
use Rattle.book_policy_idle.specs.declared.in_force.Placed.{Placed}

abbrev pub or_else : Option ℕ → Option ℕ → Option ℕ
or_else (Some i) other = Some i
or_else None other = other

pub some_apart : (i : ℕ) → Some i ≡ None → ⊥
some_apart i e = cc

pub same_some : (i k : ℕ) → Some i ≡ Some k → i ≡ k
same_some i k e = cc

module _ (circle : CircleOf) (here : Here) (leaf : Leaf) where
  by_cond : (b : Bool) (i : ℕ) (r s other : Option ℕ) → r ≡ or_else s other → cond b (Some i) r ≡ or_else (cond b (Some i) s) other
  by_cond true i r s other e = refl
  by_cond false i r s other e = e

  pub decider-push : (xs : List Placed) (x : Placed) → decider circle here leaf (xs ++ x ∷ []) ≡ or_else (decider circle here leaf xs) (cond (bears circle here leaf x.entry) (Some x.index) None)
  decider-push [] x = refl
  decider-push (y ∷ ys) x = by_cond (bears circle here leaf y.entry) y.index _ _ _ (decider-push ys x)

-- ---- one entry more, of which d says what decides before it

-- it bears nothing that is left
pub step_quiet : (d : Option ℕ) (bearing : Bool) (k : ℕ) → (is_none d ≡ true → bearing ≡ false) → or_else d (cond bearing (Some k) None) ≡ d
step_quiet (Some j) bearing k quiet = refl
step_quiet None bearing k quiet = ap (λ x. cond x (Some k) None) (quiet refl)

-- it takes the leaves that it holds
pub step_left : (d : Option ℕ) (holds : Bool) (k : ℕ) → (is_none d && not holds) ≡ is_none (or_else d (cond holds (Some k) None))
step_left (Some j) holds k = refl
step_left None true k = refl
step_left None false k = refl

pub step_spares : (d : Option ℕ) (holds : Bool) (k i : ℕ) → i ≢ k → d ≢ Some i → or_else d (cond holds (Some k) None) ≢ Some i
step_spares (Some j) holds k i apart spared = spared
step_spares None true k i apart spared = λ is. apart (sym (same_some k i is))
step_spares None false k i apart spared = λ is. some_apart i (sym is)

pub step_spared : (d other : Option ℕ) (i : ℕ) → or_else d other ≢ Some i → d ≢ Some i
step_spared (Some j) other i spared = spared
step_spared None other i spared = λ is. some_apart i (sym is)

pub step_taken : (d : Option ℕ) (holds : Bool) (k : ℕ) → is_none d ≡ true → holds ≡ true → or_else d (cond holds (Some k) None) ≡ Some k
step_taken (Some j) holds k left held = absurd (false≢true left)
step_taken None holds k left held = ap (λ x. cond x (Some k) None) held

-- ---- a list without a marked entry

by_head : (marks : List Bool) (b : Bool) (j i : ℕ) (r : Option ℕ) → is_marked marks j ≡ false → is_marked marks i ≡ true → r ≢ Some i → cond b (Some j) r ≢ Some i
by_head marks true j i r unmarked marked rest is = false≢true (sym unmarked ∙ ap (is_marked marks) (same_some j i is) ∙ marked)
by_head marks false j i r unmarked marked rest is = rest is

pub unmarked_spares : (marks : List Bool) (circle : CircleOf) (here : Here) (list : List Placed) (i : ℕ) → AreUnmarked marks list → is_marked marks i ≡ true → Spares circle here list i
unmarked_spares marks circle here [] i h marked leaf = λ is. some_apart i (sym is)
unmarked_spares marks circle here (x ∷ xs) i h marked leaf =
    by_head marks (bears circle here leaf x.entry) x.index i (decider circle here leaf xs) h.0 marked (unmarked_spares marks circle here xs i h.1 marked leaf)

pub unmarked-push : (marks : List Bool) (xs : List Placed) (x : Placed) → AreUnmarked marks xs → is_marked marks x.index ≡ false → AreUnmarked marks (xs ++ x ∷ [])
unmarked-push marks [] x h unmarked = (unmarked, tt)
unmarked-push marks (y ∷ ys) x h unmarked = (h.0, unmarked-push marks ys x h.1 unmarked)
