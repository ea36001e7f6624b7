-- What steps over some nodes lead to from a start: nodes are found one after the other, until no step leads out.
use Rattle.book_lists.proofs.Common.{◌≡◌, ◌∙◌, sym, ap, List, [], ◌++◌, ◌∷◌, ℕ, true, refl, arith, length, inl, inr, ◌||◌, ◌⊎◌, ◌≤◌, Bool, false, zero, suc, list_any, false≢true}
use Rattle.std.proofs.lemmas.Bool.{or_cases, or_left, or_right}
use Rattle.book_lists.proofs.Elements.{Mem}

-- ---- the first that passes a test
record Picked {N : Type 0} (p : N → Bool) (xs : List N) : Type 0 where
  chosen : N
  others : List N
  passes : p chosen ≡ true
  there : Mem chosen xs
  others_there : (x : N) → Mem x others → Mem x xs
  kept : (x : N) → Mem x xs → (x ≡ chosen) ⊎ Mem x others
  fewer : suc (length others) ≡ length xs

pick : {N : Type 0} (p : N → Bool) (xs : List N) → Picked p xs ⊎ ((x : N) → Mem x xs → p x ≡ false)
pick p [] = inr (λ x m. absurd m)
pick p (x ∷ xs) =
    elim (p x) as (λ b. p x ≡ b → Picked p (x ∷ xs) ⊎ ((y : _) → Mem y (x ∷ xs) → p y ≡ false)) [
      | true ↦ λ t. inl (record {
        chosen = x;
        others = xs;
        passes = t;
        there = inl refl;
        others_there = λ y m. inr m;
        kept = λ y m. m;
        fewer = refl;
      })
      | false ↦ λ f. elim (pick p xs) [
        | inl k ↦ inl (record {
          chosen = k.chosen;
          others = x ∷ k.others;
          passes = k.passes;
          there = inr k.there;
          others_there = λ y m. elim m [ inl is ↦ inl is | inr later ↦ inr (k.others_there y later) ];
          kept = λ y m. elim m [ inl is ↦ inr (inl is) | inr later ↦ elim (k.kept y later) [ inl is ↦ inl is | inr other ↦ inr (inr other) ] ];
          fewer = ap suc k.fewer;
        })
        | inr none ↦ inr (λ y m. elim m [ inl is ↦ ap p is ∙ f | inr later ↦ none y later ])
      ]
    ] refl

pub mem_any : {N : Type 0} (p : N → Bool) (x : N) (xs : List N) → Mem x xs → p x ≡ true → list_any p xs ≡ true
mem_any p x [] m e = absurd m
mem_any p x (y ∷ ys) m e = elim m [
  | inl is ↦ or_left (p y) (list_any p ys) (ap p (sym is) ∙ e)
  | inr later ↦ or_right (p y) (list_any p ys) (mem_any p x ys later e)
]

pub any_mem : {N : Type 0} (p : N → Bool) (xs : List N) → list_any p xs ≡ true → (x : N) × Mem x xs × (p x ≡ true)
any_mem p [] e = absurd (false≢true e)
any_mem p (y ∷ ys) e = elim (or_cases (p y) (list_any p ys) e) [
  | inl here ↦ (y, inl refl, here)
  | inr later ↦ let found = any_mem p ys later in (found.0, inr found.1, found.2)
]

-- ---- chains of steps
module _ {N : Type 0} (nodes : List N) (step : N → N → Bool) where
  -- a step to the first of the list, which is one of the nodes, and so on through the list, to q
  abbrev pub LeadsBy : N → List N → N → Type 0
  LeadsBy p [] q = step p q ≡ true
  LeadsBy p (c ∷ cs) q = Mem c nodes × (step p c ≡ true) × LeadsBy c cs q

  leads_more : (p : N) (between : List N) (x q : N) → LeadsBy p between x → Mem x nodes → step x q ≡ true → LeadsBy p (between ++ x ∷ []) q
  leads_more p [] x q l there e = (there, l, e)
  leads_more p (c ∷ cs) x q l there e = (l.0, l.1, leads_more c cs x q l.2 there e)

  module _ (start : N) where
    abbrev pub IsReachedBy : N → Type 0
    IsReachedBy q = (between : List N) × LeadsBy start between q

    -- whether a step leads to it from the start, or from what is found
    abbrev pub leads_out : List N → N → Bool
    leads_out found q = step start q || list_any (λ x. step x q) found

    abbrev IsFrom : List N → N → Type 0
    IsFrom found x = (x ≡ start) ⊎ Mem x found

    -- what is found is reached, and no step leads out of it
    pub record Closure : Type 0 where
      pub found : List N
      pub reached : (x : N) → Mem x found → Mem x nodes × IsReachedBy x
      pub closed : (x c : N) → (x ≡ start) ⊎ Mem x found → Mem c nodes → step x c ≡ true → Mem c found

    leads : (found : List N) (x q : N) → IsFrom found x → step x q ≡ true → leads_out found q ≡ true
    leads found x q from e = elim from [
      | inl is ↦ or_left _ _ (ap (λ s. step s q) (sym is) ∙ e)
      | inr there ↦ or_right (step start q) _ (mem_any (λ y. step y q) x found there e)
    ]

    reached_by : (found : List N) → ((x : N) → Mem x found → Mem x nodes × IsReachedBy x) → (q : N) → leads_out found q ≡ true → IsReachedBy q
    reached_by found reached q e = elim (or_cases (step start q) _ e) [
      | inl at_once ↦ ([], at_once)
      | inr later ↦
          let at = any_mem (λ x. step x q) found later in
          let r = reached at.0 at.1 in
          (r.1.0 ++ at.0 ∷ [], leads_more start r.1.0 at.0 q r.1.1 r.0 at.2)
    ]

    -- nodes that are found, and the rest
    record Finding (found rest : List N) : Type 0 where
      reached : (x : N) → Mem x found → Mem x nodes × IsReachedBy x
      rest_there : (x : N) → Mem x rest → Mem x nodes
      whole : (x : N) → Mem x nodes → Mem x found ⊎ Mem x rest

    finished : (found rest : List N) → Finding found rest → ((x : N) → Mem x rest → leads_out found x ≡ false) → Closure
    finished found rest f none = record {
      found = found;
      reached = f.reached;
      closed = λ x c from there e. elim (f.whole c there) [
        | inl is ↦ is
        | inr left ↦ absurd (false≢true (sym (none c left) ∙ leads found x c from e))
      ];
    }

    found_more : (found rest : List N) → Finding found rest → (k : Picked (leads_out found) rest) → Finding (k.chosen ∷ found) k.others
    found_more found rest f k = record {
      reached = λ x m. elim m [
        | inl is ↦
            let P : N → Type 0 = λ y. Mem y nodes × IsReachedBy y in
            rw is (f.rest_there k.chosen k.there, reached_by found f.reached k.chosen k.passes)
        | inr later ↦ f.reached x later
      ];
      rest_there = λ x m. f.rest_there x (k.others_there x m);
      whole = λ x there. elim (f.whole x there) [
        | inl is ↦ inl (inr is)
        | inr left ↦ elim (k.kept x left) [ inl same ↦ inl (inl same) | inr other ↦ inr other ]
      ];
    }

    search_on : (n : ℕ) (found rest : List N) → length rest ≤ n → Finding found rest → Closure
    search_on zero found rest few f = elim (pick (leads_out found) rest) [
      | inr none ↦ finished found rest f none
      | inl k ↦ let fewer = k.fewer in absurd (omega (arith, fewer, few))
    ]
    search_on (suc n) found rest few f = elim (pick (leads_out found) rest) [
      | inr none ↦ finished found rest f none
      | inl k ↦ let fewer = k.fewer in search_on n (k.chosen ∷ found) k.others (omega (arith, fewer, few)) (found_more found rest f k)
    ]

    pub closure : Closure
    closure = search_on (length nodes) [] nodes (omega arith) (record {
      reached = λ x m. absurd m;
      rest_there = λ x m. m;
      whole = λ x m. inr m;
    })

    -- exactly what a step leads to from the start, or from what is found, is reached
    pub reached_out : (c : Closure) (q : N) → leads_out c.found q ≡ true → IsReachedBy q
    reached_out c q e = reached_by c.found c.reached q e

    along : (c : Closure) (x : N) (between : List N) (q : N) → IsFrom c.found x → LeadsBy x between q → leads_out c.found q ≡ true
    along c x [] q from l = leads c.found x q from l
    along c x (y ∷ ys) q from l = along c y ys q (inr (c.closed x y from l.0 l.1)) l.2

    pub out_reached : (c : Closure) (q : N) → IsReachedBy q → leads_out c.found q ≡ true
    out_reached c q r = along c start r.0 q (inl refl) r.1
