-- Lines are read in one way at most, and have one first fault at most.
use Rattle.book_lists_explain.proofs.Common.{◌≡◌, ℕ, ◌+◌, ◌⊎◌, List, [], ◌∷◌, ◌++◌, length, inl, inr, refl, sym, ap, ◌∙◌, subst, arith, append-nil, ExplainFaultKind, Line, Says, Fits, LinesSay, LineFault}
use Rattle.std.proofs.Common.{append_assoc}
use Rattle.book_lists_explain.specs.declared.lines.Line.TheVariants as lines
use Rattle.book_lists_explain.specs.Questions.{Excess, FirstFault}
use Rattle.book_lists_explain.proofs.OneMeaning.{one_saying, faulty_says, one_own_fault}

-- ---- one line after others
excess_fits : (said : List Line) (x : Line) (kind : ExplainFaultKind) → Excess said x kind → Fits said x → ⊥
excess_fits said lines.Blank kind over fits = over
excess_fits said (lines.Member group member) kind over fits = omega (arith, over.1, fits)
excess_fits said (lines.Asks caller) kind over fits = over.1 fits
excess_fits said (lines.Need set) kind over fits = over.1 fits
excess_fits said (lines.Owner path) kind over fits = over.1 fits
excess_fits said (lines.Here path) kind over fits = over.1 fits
excess_fits said (lines.Listed entry) kind over fits = omega (arith, over.1, fits)

one_excess : (said : List Line) (x : Line) (k l : ExplainFaultKind) → Excess said x k → Excess said x l → k ≡ l
one_excess said lines.Blank k l a b = absurd a
one_excess said (lines.Member group member) k l a b = a.0 ∙ sym b.0
one_excess said (lines.Asks caller) k l a b = a.0 ∙ sym b.0
one_excess said (lines.Need set) k l a b = a.0 ∙ sym b.0
one_excess said (lines.Owner path) k l a b = a.0 ∙ sym b.0
one_excess said (lines.Here path) k l a b = a.0 ∙ sym b.0
one_excess said (lines.Listed entry) k l a b = a.0 ∙ sym b.0

fault_fits : (said : List Line) (line : List ℕ) (kind : ExplainFaultKind) (x : Line) → LineFault said line kind → Says line x → Fits said x → ⊥
fault_fits said line kind x (inl own) says fits = faulty_says line kind x own says
fault_fits said line kind x (inr over) says fits =
    excess_fits said x kind (subst (λ y. Excess said y kind) (one_saying line over.0 x over.1 says) over.2) fits

one_line_fault : (said : List Line) (line : List ℕ) (k l : ExplainFaultKind) → LineFault said line k → LineFault said line l → k ≡ l
one_line_fault said line k l (inl a) (inl b) = one_own_fault line k l a b
one_line_fault said line k l (inl a) (inr b) = absurd (faulty_says line k b.0 a b.1)
one_line_fault said line k l (inr a) (inl b) = absurd (faulty_says line l a.0 b a.1)
one_line_fault said line k l (inr a) (inr b) =
    one_excess said b.0 k l (subst (λ y. Excess said y k) (one_saying line a.0 b.0 a.1 b.1) a.2) b.2

-- ---- many lines
pub one_reading : (before : List Line) (ls : List (List ℕ)) (xs ys : List Line) → LinesSay before ls xs → LinesSay before ls ys → xs ≡ ys
one_reading before [] [] [] a b = refl
one_reading before (l ∷ ls) (x ∷ xs) (y ∷ ys) a b =
    let same : x ≡ y = one_saying l x y a.0 b.0 in
    let rest : xs ≡ ys = one_reading (before ++ y ∷ []) ls xs ys (subst (λ z. LinesSay (before ++ z ∷ []) ls xs) same a.2) b.2 in
    λ i. same i ∷ rest i
one_reading before [] (x ∷ xs) ys a b = absurd a
one_reading before [] [] (y ∷ ys) a b = absurd b
one_reading before (l ∷ ls) [] ys a b = absurd a
one_reading before (l ∷ ls) (x ∷ xs) [] a b = absurd b

-- lines that are read to their end have no faulty one
no_fault : (before : List Line) (front : List (List ℕ)) (line : List ℕ) (after : List (List ℕ)) (xs said : List Line) (kind : ExplainFaultKind)
    → LinesSay before (front ++ line ∷ after) xs → LinesSay before front said → LineFault (before ++ said) line kind → ⊥
no_fault before [] line after [] said kind whole read fault = absurd whole
no_fault before [] line after (x ∷ xs) [] kind whole read fault =
    fault_fits before line kind x (subst (λ b. LineFault b line kind) (append-nil before) fault) whole.0 whole.1
no_fault before [] line after (x ∷ xs) (y ∷ ys) kind whole read fault = absurd read
no_fault before (l ∷ ls) line after [] said kind whole read fault = absurd whole
no_fault before (l ∷ ls) line after (x ∷ xs) [] kind whole read fault = absurd read
no_fault before (l ∷ ls) line after (x ∷ xs) (y ∷ ys) kind whole read fault =
    let same : x ≡ y = one_saying l x y whole.0 read.0 in
    no_fault (before ++ y ∷ []) ls line after xs ys kind (subst (λ z. LinesSay (before ++ z ∷ []) (ls ++ line ∷ after) xs) same whole.2) read.2
    (subst (λ b. LineFault b line kind) (sym (append_assoc before (y ∷ []) ys)) fault)

pub read_or_faulty : (ls : List (List ℕ)) (said : List Line) (kind : ExplainFaultKind) (number : ℕ) → LinesSay [] ls said → FirstFault ls kind number → ⊥
read_or_faulty ls said kind number read f =
    no_fault [] f.before f.line f.after said f.said kind (subst (λ vs. LinesSay [] vs said) f.there read) f.faultless f.fault

-- of two splits of one list, one is the earlier or they are the same
two_splits : {A : Type 0} (xs ys : List A) (x y : A) (us vs : List A) → xs ++ x ∷ us ≡ ys ++ y ∷ vs
    → ((xs ≡ ys) × (x ≡ y)) ⊎ (((more : List A) × (ys ≡ xs ++ x ∷ more)) ⊎ ((more : List A) × (xs ≡ ys ++ y ∷ more)))
two_splits [] [] x y us vs e = inl (refl, cc)
two_splits [] (b ∷ ys) x y us vs e = let same : b ≡ x = cc in inr (inl (ys, λ i. same i ∷ ys))
two_splits (a ∷ xs) [] x y us vs e = let same : a ≡ y = cc in inr (inr (xs, λ i. same i ∷ xs))
two_splits (a ∷ xs) (b ∷ ys) x y us vs e =
    let same : a ≡ b = cc in
    let rest : xs ++ x ∷ us ≡ ys ++ y ∷ vs = cc in
    elim (two_splits xs ys x y us vs rest) [
      | inl p ↦ inl ((λ i. same i ∷ p.0 i), p.1)
      | inr (inl p) ↦ inr (inl (p.0, λ i. sym same i ∷ p.1 i))
      | inr (inr p) ↦ inr (inr (p.0, λ i. same i ∷ p.1 i))
    ]

pub one_first_fault : (ls : List (List ℕ)) (k l : ExplainFaultKind) (m n : ℕ) → FirstFault ls k m → FirstFault ls l n → (k ≡ l) × (m ≡ n)
one_first_fault ls k l m n f g = elim (two_splits f.before g.before f.line g.line f.after g.after (sym f.there ∙ g.there)) [
  | inl p ↦ together p.0 p.1
  | inr (inl p) ↦ absurd (earlier f.before f.line f.said k g.before g.said f.faultless f.fault g.faultless p.0 p.1)
  | inr (inr p) ↦ absurd (earlier g.before g.line g.said l f.before f.said g.faultless g.fault f.faultless p.0 p.1)
]
  where
    earlier : (front : List (List ℕ)) (line : List ℕ) (said : List Line) (kind : ExplainFaultKind) (all : List (List ℕ)) (more : List Line) → LinesSay [] front said → LineFault said line kind
        → LinesSay [] all more → (rest : List (List ℕ)) → all ≡ front ++ line ∷ rest → ⊥
    earlier front line said kind all more read fault whole rest e = no_fault [] front line rest more said kind (subst (λ vs. LinesSay [] vs more) e whole) read fault

    together : f.before ≡ g.before → f.line ≡ g.line → (k ≡ l) × (m ≡ n)
    together e d =
        let read : LinesSay [] g.before f.said = subst (λ vs. LinesSay [] vs f.said) e f.faultless in
        let same : f.said ≡ g.said = one_reading [] g.before f.said g.said read g.faultless in
        let fault : LineFault f.said g.line k = subst (λ v. LineFault f.said v k) d f.fault in (
          one_line_fault g.said g.line k l (subst (λ s. LineFault s g.line k) same fault) g.fault,
          f.numbered ∙ ap (λ vs. length vs + 1) e ∙ sym g.numbered,
        )
