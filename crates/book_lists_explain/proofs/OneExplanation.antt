-- A text has one answer at most, or one fault at most beside want of memory, and never both.
use Rattle.book_lists_explain.proofs.Common.{◌≡◌, ℕ, ◌⊎◌, Bool, List, [], ◌∷◌, inl, inr, sym, ap, ◌∙◌, subst, filter_map, Leaf, Caller, Line, IsAnswer, lines_of, set_of, member_in, LinesSay}
use Rattle.book_lists_explain.specs.Explanations.{AnswersText, HasOneAnswer, HasOneFault, AnswerExcludesFault}
use Rattle.book_lists_explain.specs.Questions.{caller_in, need_in, entry_in, here_of}
use Rattle.book_lists_explain.proofs.OneAnswer.{one_answer}
use Rattle.book_lists_explain.proofs.OneReading.{one_reading, read_or_faulty, one_first_fault}

-- lists of one element
alone : {A : Type 0} (x y : A) → x ∷ [] ≡ y ∷ [] → x ≡ y
alone x y e = cc

not_alone : {A : Type 0} (x : A) → x ∷ [] ≡ [] → ⊥
not_alone x e = cc

pub one_answer_of : HasOneAnswer
one_answer_of text a b p q =
    let said : p.said ≡ q.said = one_reading [] (lines_of text) p.said q.said p.faultless q.faultless in
    let caller : p.caller ≡ q.caller = alone _ _ (sym p.asks ∙ ap (filter_map caller_in) said ∙ q.asks) in
    let need : p.need ≡ q.need = alone _ _ (sym p.needs ∙ ap (filter_map need_in) said ∙ q.needs) in
    let Of : List Line → Caller → (Leaf → Bool) → Type 0 = λ s c n. IsAnswer (set_of (filter_map member_in s)) c n (here_of s) (filter_map entry_in s) a in
    let answers : Of q.said q.caller q.need = subst (λ n. Of q.said q.caller n) need (subst (λ c. Of q.said c p.need) caller (subst (λ s. Of s p.caller p.need) said p.answers)) in
    one_answer _ q.caller q.need _ _ a b answers q.answers

-- a text that asks a question lacks neither its caller nor its need
complete : (text answer : List ℕ) (said : List Line) → AnswersText text answer → LinesSay [] (lines_of text) said → (filter_map caller_in said ≡ []) ⊎ (filter_map need_in said ≡ []) → ⊥
complete text answer said p read lacks = go lacks
  where
    same : p.said ≡ said
    same = one_reading [] (lines_of text) p.said said p.faultless read

    go : (filter_map caller_in said ≡ []) ⊎ (filter_map need_in said ≡ []) → ⊥
    go (inl none) = not_alone p.caller (sym p.asks ∙ ap (filter_map caller_in) same ∙ none)
    go (inr none) = not_alone p.need (sym p.needs ∙ ap (filter_map need_in) same ∙ none)

pub answer_or_fault : AnswerExcludesFault
answer_or_fault text answer kind number p (inl memory) = memory.0
answer_or_fault text answer kind number p (inr (inl first)) = absurd (read_or_faulty (lines_of text) p.said kind number p.faultless first)
answer_or_fault text answer kind number p (inr (inr lacks)) = absurd (complete text answer lacks.0 p lacks.3 lacks.4)

pub one_fault_of : HasOneFault
one_fault_of text k l m n (inl a) q no_memory other = absurd (no_memory a.0)
one_fault_of text k l m n p (inl b) no_memory other = absurd (other b.0)
one_fault_of text k l m n (inr (inl f)) (inr (inl g)) no_memory other = one_first_fault (lines_of text) k l m n f g
one_fault_of text k l m n (inr (inl f)) (inr (inr b)) no_memory other = absurd (read_or_faulty (lines_of text) b.0 k m b.3 f)
one_fault_of text k l m n (inr (inr a)) (inr (inl g)) no_memory other = absurd (read_or_faulty (lines_of text) a.0 l n a.3 g)
one_fault_of text k l m n (inr (inr a)) (inr (inr b)) no_memory other = (a.1 ∙ sym b.1, a.2 ∙ sym b.2)
