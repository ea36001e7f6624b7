-- Lines are read to their end, or have a first fault.
use Rattle.book_lists_explain.proofs.Common.{◌≡◌, ◌≢◌, ◌∙◌, ◌⊎◌, ◌++◌, ◌∷◌, [], ℕ, List, Option, inl, inr, refl, sym, ap, subst, append-nil, length, filter_map, ExplainFaultKind, Line, Says, Fits, LinesSay, LineFault, OwnFault, member_in}
use Rattle.std.proofs.Common.{append_assoc}
use Rattle.std.proofs.lemmas.Bool.{cases_lt}
use Rattle.book_lists.proofs.Decided.{OrNot}
use Rattle.book_lists_explain.specs.declared.faults.ExplainFaultKind.TheVariants.{Memory, TooMany, Twice}
use Rattle.book_lists_explain.specs.declared.lines.Line.TheVariants as lines
use Rattle.book_lists_explain.specs.Questions.{Excess, caller_in, entry_in, here_in, need_in, owner_in}
use Rattle.book_lists_explain.proofs.FoundMeanings.{line_told}
use Rattle.book_lists_explain.proofs.Taken.{added, kept}

-- ---- one line after others
none_or_some : {A : Type 0} (xs : List A) → OrNot (xs ≡ [])
none_or_some [] = inl refl
none_or_some (x ∷ xs) = inr (λ e. absurd cc)

fits_or_excess : (said : List Line) (x : Line) → Fits said x ⊎ ((kind : ExplainFaultKind) × Excess said x kind)
fits_or_excess said lines.Blank = inl tt
fits_or_excess said (lines.Member group member) =
    elim (cases_lt (length (filter_map member_in said)) 1000) [ inl few ↦ inl few | inr many ↦ inr (TooMany, (refl, many)) ]
fits_or_excess said (lines.Asks caller) = elim (none_or_some (filter_map caller_in said)) [ inl none ↦ inl none | inr some ↦ inr (Twice, (refl, some)) ]
fits_or_excess said (lines.Need set) = elim (none_or_some (filter_map need_in said)) [ inl none ↦ inl none | inr some ↦ inr (Twice, (refl, some)) ]
fits_or_excess said (lines.Owner path) = elim (none_or_some (filter_map owner_in said)) [ inl none ↦ inl none | inr some ↦ inr (Twice, (refl, some)) ]
fits_or_excess said (lines.Here path) = elim (none_or_some (filter_map here_in said)) [ inl none ↦ inl none | inr some ↦ inr (Twice, (refl, some)) ]
fits_or_excess said (lines.Listed entry) =
    elim (cases_lt (length (filter_map entry_in said)) 64) [ inl few ↦ inl few | inr many ↦ inr (TooMany, (refl, many)) ]

line_or_fault : (before : List Line) (line : List ℕ) → ((x : Line) × Says line x × Fits before x) ⊎ ((kind : ExplainFaultKind) × LineFault before line kind)
line_or_fault before line = elim (line_told line) [
  | inl said ↦ elim (fits_or_excess before said.0) [
    | inl fits ↦ inl (said.0, said.1, fits)
    | inr over ↦ inr (over.0, inr (said.0, said.1, over.1))
  ]
  | inr fault ↦ inr (fault.0, inl fault.1)
]

-- the first line with a fault, after what was said before
pub record FaultAfter (before : List Line) (ls : List (List ℕ)) : Type 0 where
  pub front : List (List ℕ)
  pub line : List ℕ
  pub after : List (List ℕ)
  pub said : List Line
  pub kind : ExplainFaultKind
  pub there : ls ≡ front ++ line ∷ after
  pub faultless : LinesSay before front said
  pub fault : LineFault (before ++ said) line kind

pub lines_told : (before : List Line) (ls : List (List ℕ)) → ((said : List Line) × LinesSay before ls said) ⊎ FaultAfter before ls
lines_told before [] = inl ([], tt)
lines_told before (l ∷ ls) = elim (line_or_fault before l) [
  | inl x ↦ elim (lines_told (before ++ x.0 ∷ []) ls) [
    | inl said ↦ inl (x.0 ∷ said.0, (x.1, x.2, said.1))
    | inr f ↦ inr (record {
      front = l ∷ f.front;
      line = f.line;
      after = f.after;
      said = x.0 ∷ f.said;
      kind = f.kind;
      there = λ i. l ∷ f.there i;
      faultless = (x.1, x.2, f.faultless);
      fault = subst (λ said. LineFault said f.line f.kind) (append_assoc before (x.0 ∷ []) f.said) f.fault;
    })
  ]
  | inr fault ↦ inr (record {
    front = [];
    line = l;
    after = ls;
    said = [];
    kind = fault.0;
    there = refl;
    faultless = tt;
    fault = subst (λ said. LineFault said l fault.0) (sym (append-nil before)) fault.1;
  })
]

-- ---- no line's fault is want of memory
excess_told : (said : List Line) (x : Line) → Excess said x Memory → ⊥
excess_told said lines.Blank over = over
excess_told said (lines.Member group member) over = absurd (let e = over.0 in cc)
excess_told said (lines.Asks caller) over = absurd (let e = over.0 in cc)
excess_told said (lines.Need set) over = absurd (let e = over.0 in cc)
excess_told said (lines.Owner path) over = absurd (let e = over.0 in cc)
excess_told said (lines.Here path) over = absurd (let e = over.0 in cc)
excess_told said (lines.Listed entry) over = absurd (let e = over.0 in cc)

own_told : (line : List ℕ) → OwnFault line Memory → ⊥
own_told line (not_blank, inl empty) = absurd (let e = empty.0 in cc)
own_told line (not_blank, inr (filled, inl none)) = absurd (let e = none.0 in cc)
own_told line (not_blank, inr (filled, inr it)) = it.2

pub fault_told : (said : List Line) (line : List ℕ) (kind : ExplainFaultKind) → LineFault said line kind → kind ≢ Memory
fault_told said line kind fault is = go (subst (LineFault said line) is fault)
  where
    go : LineFault said line Memory → ⊥
    go (inl own) = own_told line own
    go (inr over) = excess_told said over.0 over.2

-- ---- what lines say once at most
abbrev pub AtMostOne : {A : Type 0} → List A → Type 0
AtMostOne xs = (xs ≡ []) ⊎ ((x : _) × (xs ≡ x ∷ []))

caller_once : (said : List Line) (x : Line) → Fits said x → AtMostOne (filter_map caller_in said) → AtMostOne (filter_map caller_in (said ++ x ∷ []))
caller_once said lines.Blank fits once = subst AtMostOne (kept caller_in said lines.Blank refl) once
caller_once said (lines.Member group member) fits once = subst AtMostOne (kept caller_in said (lines.Member group member) refl) once
caller_once said (lines.Asks caller) fits once = inr (caller, sym (added caller_in said (lines.Asks caller) caller refl) ∙ ap (λ xs. xs ++ caller ∷ []) fits)
caller_once said (lines.Need set) fits once = subst AtMostOne (kept caller_in said (lines.Need set) refl) once
caller_once said (lines.Owner path) fits once = subst AtMostOne (kept caller_in said (lines.Owner path) refl) once
caller_once said (lines.Here path) fits once = subst AtMostOne (kept caller_in said (lines.Here path) refl) once
caller_once said (lines.Listed entry) fits once = subst AtMostOne (kept caller_in said (lines.Listed entry) refl) once

need_once : (said : List Line) (x : Line) → Fits said x → AtMostOne (filter_map need_in said) → AtMostOne (filter_map need_in (said ++ x ∷ []))
need_once said lines.Blank fits once = subst AtMostOne (kept need_in said lines.Blank refl) once
need_once said (lines.Member group member) fits once = subst AtMostOne (kept need_in said (lines.Member group member) refl) once
need_once said (lines.Asks caller) fits once = subst AtMostOne (kept need_in said (lines.Asks caller) refl) once
need_once said (lines.Need set) fits once = inr (set, sym (added need_in said (lines.Need set) set refl) ∙ ap (λ xs. xs ++ set ∷ []) fits)
need_once said (lines.Owner path) fits once = subst AtMostOne (kept need_in said (lines.Owner path) refl) once
need_once said (lines.Here path) fits once = subst AtMostOne (kept need_in said (lines.Here path) refl) once
need_once said (lines.Listed entry) fits once = subst AtMostOne (kept need_in said (lines.Listed entry) refl) once

module _ {A : Type 0} (f : Line → Option A)
    (step : (said : List Line) (x : Line) → Fits said x → AtMostOne (filter_map f said) → AtMostOne (filter_map f (said ++ x ∷ []))) where
  still_once : (before : List Line) (ls : List (List ℕ)) (said : List Line) → LinesSay before ls said → AtMostOne (filter_map f before) → AtMostOne (filter_map f (before ++ said))
  still_once before [] [] read once = subst (λ xs. AtMostOne (filter_map f xs)) (sym (append-nil before)) once
  still_once before (l ∷ ls) (x ∷ said) read once =
      subst (λ xs. AtMostOne (filter_map f xs)) (append_assoc before (x ∷ []) said)
      (still_once (before ++ x ∷ []) ls said read.2 (step before x read.1 once))
  still_once before [] (x ∷ said) read once = absurd read
  still_once before (l ∷ ls) [] read once = absurd read

pub one_caller : (ls : List (List ℕ)) (said : List Line) → LinesSay [] ls said → AtMostOne (filter_map caller_in said)
one_caller ls said read = still_once caller_in caller_once [] ls said read (inl refl)

pub one_need : (ls : List (List ℕ)) (said : List Line) → LinesSay [] ls said → AtMostOne (filter_map need_in said)
one_need ls said read = still_once need_in need_once [] ls said read (inl refl)
