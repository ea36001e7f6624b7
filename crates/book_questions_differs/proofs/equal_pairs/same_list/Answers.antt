use Rattle.book_questions_differs.proofs.Common.{◌≡◌, ℕ, List, [], ◌∷◌, refl}
use Rattle.book_lists.specs.declared.entries.Entry.{Entry}
use Rattle.std.proofs.Common.{length, rules, suc, ◌<◌, get_or, arith}
use Rattle.book_questions_differs.proofs.equal_pairs.same_list.Goals as goal

-- lists of one length that are equal at each place are equal
same_lists : {A : Type 0} (xs ys : List A) → length xs ≡ length ys → ((k : ℕ) (d : A) → k < length xs → get_or xs k d ≡ get_or ys k d) → xs ≡ ys
same_lists [] [] e h = refl
same_lists [] (y ∷ ys) e h = absurd (omega arith)
same_lists (x ∷ xs) [] e h = absurd (omega arith)
same_lists (x ∷ xs) (y ∷ ys) e h =
    let head : x ≡ y = h 0 x (omega arith) in
    let tail : xs ≡ ys = same_lists xs ys (omega arith) (λ k d within. h (suc k) d (omega arith)) in
    λ i. head i ∷ tail i

pub returns : goal.returns
returns c =
    let len : length c.args.list.now ≡ length c.args.other.now = search rules in
    let each : (k : ℕ) (d : Entry) → k < length c.args.list.now → get_or c.args.list.now k d ≡ get_or c.args.other.now k d = search rules in
    (λ _. same_lists c.args.list.now c.args.other.now len each, λ _. refl)
