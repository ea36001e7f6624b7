-- Lines that are read one after the other.
use Rattle.book_lists_explain.proofs.Common.{◌≡◌, ℕ, ◌+◌, ◌<◌, List, [], ◌∷◌, ◌++◌, length, take, drop, refl, sym, ap, ◌∙◌, subst, arith, append-nil, ◌⊎◌, inl, inr, Line, ExplainFaultKind, ◌≢◌, Err, Says, OrMemory, lines_of, Option, Some, None, Bool, filter_map, Leaf, Caller, Entry, Here, IsAnswer, Memberships, set_of, Fits, LinesSay, LineFault, IsQuestion, member_in}
use Rattle.std.proofs.Common.{zero, suc, ◌≤◌, Bor}
use Rattle.std.proofs.lemmas.List.{append_assoc}
use Rattle.std.proofs.Common.{Ok, OnOk, Result}
use Rattle.book_lists_explain.specs.declared.faults.ExplainFaultKind.TheVariants.{Memory, Missing}
use Rattle.book_lists_explain.specs.declared.faults.ExplainFault.{ExplainFault}
use Rattle.std.proofs.Common.{IsErrAnd, IfErr}
use Rattle.book_lists_explain.specs.declared.questions.Question.{Question}
use Rattle.std.specs.Prelude.{option_to_list}
use Rattle.book_lists_explain.specs.Questions.{FirstFault, first, here_of, owner_in, here_in}
use Rattle.book_lists_explain.specs.Explanations.{AnswersText, IsFault}
use Rattle.book_lists_explain.proofs.LineFaults.{texts, word_at}

-- one line more
pub read_more : (before : List Line) (ls : List (List ℕ)) (said : List Line) (line : List ℕ) (x : Line) → LinesSay before ls said → Says line x → Fits (before ++ said) x → LinesSay before (ls ++ line ∷ []) (said ++ x ∷ [])
read_more before [] [] line x r s f = (s, subst (λ b. Fits b x) (append-nil before) f, tt)
read_more before (l ∷ ls) (y ∷ ys) line x r s f = (r.0, r.1, read_more (before ++ y ∷ []) ls ys line x r.2 s (subst (λ b. Fits b x) (sym (append_assoc before (y ∷ []) ys)) f))
read_more before [] (y ∷ ys) line x r s f = absurd r
read_more before (l ∷ ls) [] line x r s f = absurd r

pub split_at : (ws : List (Bor (List ℕ))) (i : ℕ) → i < length ws → texts ws ≡ texts (take i ws) ++ word_at ws i ∷ texts (drop (suc i) ws)
split_at [] i h = absurd (omega (arith, h))
split_at (w ∷ ws) zero h = refl
split_at (w ∷ ws) (suc i) h = ap (λ vs. w.now ∷ vs) (split_at ws i (omega (arith, h)))

pub length_taken : (ws : List (Bor (List ℕ))) (i : ℕ) → i ≤ length ws → length (texts (take i ws)) ≡ i
length_taken ws zero h = refl
length_taken [] (suc i) h = absurd (omega (arith, h))
length_taken (w ∷ ws) (suc i) h = ap suc (length_taken ws i (omega (arith, h)))

pub first_fault : (lines : List (List ℕ)) (ws : List (Bor (List ℕ))) (i : ℕ) (said : List Line) (kind : ExplainFaultKind) → texts ws ≡ lines → i < length ws → LinesSay [] (texts (take i ws)) said → LineFault said (word_at ws i) kind → FirstFault lines kind (i + 1)
first_fault lines ws i said kind same lt read fault =
    let count : length (texts (take i ws)) ≡ i = length_taken ws i (omega (arith, lt)) in
    record {
      before = texts (take i ws);
      line = word_at ws i;
      after = texts (drop (suc i) ws);
      said = said;
      there = sym same ∙ split_at ws i lt;
      faultless = read;
      fault = fault;
      numbered = omega (arith, count);
    }

pub on_ok : {A B : Type 0} (P Q : Type 0) (r : Result A B) → (P → Q) → OnOk r P → OnOk r Q
on_ok P Q (Ok x) f p = f p
on_ok P Q (Err e) f p = tt

-- a fault that is told with its line
pub placed : (lines : List (List ℕ)) (ws : List (Bor (List ℕ))) (i : ℕ) (said : List Line) (kind : ExplainFaultKind) (r : ExplainFault)
    → (r.kind ≡ kind) × (((kind ≡ Memory) × (r.line ≡ 0)) ⊎ ((kind ≢ Memory) × (r.line ≡ i + 1)))
    → texts ws ≡ lines → i < length ws → LinesSay [] (texts (take i ws)) said → OrMemory (λ k. LineFault said (word_at ws i) k) kind
    → ((r.kind ≡ Memory) × (r.line ≡ 0)) ⊎ FirstFault lines r.kind r.line
placed lines ws i said kind r (same, inl m) all lt read fault = inl (same ∙ m.0, m.1)
placed lines ws i said kind r (same, inr n) all lt read (inl memory) = absurd (n.0 memory)
placed lines ws i said kind r (same, inr n) all lt read (inr fault) = inr (rw (same, n.1) (first_fault lines ws i said kind all lt read fault))

first_listed : {A : Type 0} (o : Option A) → first (option_to_list o) ≡ o
first_listed None = refl
first_listed (Some x) = refl

pub answers_text : (text answer : List ℕ) (said : List Line) (q : Question) → LinesSay [] (lines_of text) said → IsQuestion said q → (caller : Caller) (need : Leaf → Bool)
    → q.caller ≡ Some caller → q.need ≡ Some need → IsAnswer q.pairs caller need q.here q.entries.items answer → AnswersText text answer
answers_text text answer said q read is caller need a n answers =
    let owner : q.here.owner ≡ first (filter_map owner_in said) = sym (first_listed q.here.owner) ∙ ap first is.owner in
    let principal : q.here.principal ≡ first (filter_map here_in said) = sym (first_listed q.here.principal) ∙ ap first is.here in
    let same : q.here ≡ here_of said = λ i. record { owner = owner i; principal = principal i } in
    let A : Memberships → Type 0 = λ p. IsAnswer p caller need q.here q.entries.items answer in
    let B : Here → Type 0 = λ h. IsAnswer (set_of (filter_map member_in said)) caller need h q.entries.items answer in
    let C : List Entry → Type 0 = λ es. IsAnswer (set_of (filter_map member_in said)) caller need (here_of said) es answer in
    record {
      said = said;
      caller = caller;
      need = need;
      faultless = read;
      asks = sym is.caller ∙ ap option_to_list a;
      needs = sym is.need ∙ ap option_to_list n;
      answers = subst C is.entries (subst B same (subst A is.pairs answers));
    }

pub missing_text : (text : List ℕ) (said : List Line) (q : Question) (kind : ExplainFaultKind) (r : ExplainFault) → LinesSay [] (lines_of text) said → IsQuestion said q
    → (r.kind ≡ kind) × (((kind ≡ Memory) × (r.line ≡ 0)) ⊎ ((kind ≢ Memory) × (r.line ≡ 0)))
    → OrMemory (λ k. (k ≡ Missing) × ((q.caller ≡ None) ⊎ (q.need ≡ None))) kind → IsFault text r.kind r.line
missing_text text said q kind r read is (same, inl m) fault = inl (same ∙ m.0, m.1)
missing_text text said q kind r read is (same, inr n) (inl memory) = absurd (n.0 memory)
missing_text text said q kind r read is (same, inr n) (inr (missing, inl a)) = inr (inr (said, same ∙ missing, n.1, read, inl (sym is.caller ∙ ap option_to_list a)))
missing_text text said q kind r read is (same, inr n) (inr (missing, inr a)) = inr (inr (said, same ∙ missing, n.1, read, inr (sym is.need ∙ ap option_to_list a)))

pub fault_kept : {A : Type 0} (text : List ℕ) (r : Result A ExplainFault) (f : ExplainFault) → IsErrAnd r (λ e. e ≡ f)
    → ((f.kind ≡ Memory) × (f.line ≡ 0)) ⊎ FirstFault (lines_of text) f.kind f.line → IfErr r (λ e. IsFault text e.kind e.line)
fault_kept text (Ok x) f same fault = tt
fault_kept text (Err e) f same (inl m) = inl (ap (λ g. g.kind) same ∙ m.0, ap (λ g. g.line) same ∙ m.1)
fault_kept text (Err e) f same (inr first) = rw same (inr (inl first))
