-- `explain` answers what is told of an Office by its decision.
use Rattle.book_questions_asked.proofs.Common.{◌≡◌, ◌∷◌, ◌∙◌, [], ℕ, Bool, true, false, List, Some, None, ap, inl, inr, refl, subst, sym, Caller, CircleOf, Leaf, Membership, Memberships, Office, Asked, Stated, IsStated, belongs, leading, set_of}
use Rattle.std.proofs.Common.{length}
use Rattle.std.specs.Prelude.{if◌then◌else◌}
use Rattle.std.proofs.lemmas.Bool.{and_parts, leb-true}
use Rattle.std.proofs.lemmas.Cmp.{eq_by_cmp_equiv}
use Rattle.std.proofs.lemmas.Option.{same_Some}
use Rattle.std.proofs.lemmas.Result.{IfOk-at_ok}
use Rattle.std.specs.FinSet.{contains, contains-from_list}
use Rattle.std.specs.List.{list_all}
use Rattle.std.specs.Ordering.{eq_by_cmp}
use Rattle.book_lists.proofs.Closures.{mem_any}
use Rattle.book_lists.proofs.Elements.{Mem}
use Rattle.book_lists.proofs.OneOutcome.{one_circle}
use Rattle.book_lists.proofs.Pairing.{memberships_total}
use Rattle.book_lists.specs.Callers.{IsCircle}
use Rattle.book_lists.specs.Memberships.{membership_cmp}
use Rattle.book_lists.specs.declared.circles.Caller.TheVariants.{Known, Nobody}
use Rattle.book_lists.specs.declared.entries.Entry.{Entry}
use Rattle.book_lists.specs.declared.entries.Here.{Here}
use Rattle.book_lists_explain.proofs.FoundAnswers.{answer_of}
use Rattle.book_lists_explain.proofs.OneExplanation.{one_answer_of}
use Rattle.book_lists_explain.specs.Answers.{IsAnswer}
use Rattle.book_lists_explain.specs.Explanations.{AnswersText}
use Rattle.book_office.specs.Levels.{effective_at}
use Rattle.book_office.specs.ResourceTree.{IsThere}
use Rattle.book_office.specs.Sound.{IsSound, IsSoundPair}
use Rattle.book_office_listings.specs.Verdicts.{bare_entries, here_of}
use Rattle.book_questions_asked.specs.Laws.{ExplainAnswersAsk, IsDecision}
use Rattle.book_questions_asked.specs.Lines.{stated_text}
use Rattle.book_questions_asked.specs.Stated.{fits, holds_some}
use Rattle.book_questions_asked.proofs.Askers.{IsKnownCaller, is_known, is_there}
use Rattle.book_questions_asked.proofs.Leading.{leading_circle, mem_filter}
use Rattle.book_questions_asked.proofs.SoundLists.{caller_is, entry_known, group_is, here_known, owner_known, principal_is}
use Rattle.book_questions_asked.proofs.Spelling.{IsPersonOrNobody}
use Rattle.book_questions_asked.proofs.StatedLines.{IsKnown, IsReadable, answers_stated}

all_tells : {A : Type 0} (test : A → Bool) (x : A) (xs : List A) → list_all test xs ≡ true → Mem x xs → test x ≡ true
all_tells test x [] h m = absurd m
all_tells test x (y ∷ ys) h (inl e) = ap test e ∙ (and_parts _ _ h).0
all_tells test x (y ∷ ys) h (inr m) = all_tells test x ys (and_parts _ _ h).1 m

module _ (o : Office) (asked : Asked) (set : Leaf → Bool) (stated : Stated) (is : IsStated o asked set stated) where
  -- ---- what is stated is read as it is meant
  readable : IsSound o → IsKnownCaller o asked.caller → IsThere o asked.at → fits stated ≡ true → IsReadable stated
  readable s known there h =
      let a = and_parts _ _ h in
      let b = and_parts _ _ a.0 in
      let d = and_parts _ _ a.1 in
      record {
        members = λ m mem.
            let among : Mem m is.pairs = mem_filter (λ (x : Membership). belongs is.circle x.member) m is.pairs (subst (λ (ms : List Membership). Mem m ms) is.members mem) in
            let has : contains (set_of is.pairs) m ≡ true =
            contains-from_list memberships_total is.pairs m ∙ mem_any (eq_by_cmp membership_cmp m) m is.pairs among ((eq_by_cmp_equiv memberships_total).refl m) in
            let pair : IsSoundPair o m = s.pairs m (subst (λ (ps : Memberships). contains ps m ≡ true) is.all has) in
            (group_is o s m.group pair.group, principal_is o s m.member pair.member);
        caller = subst IsPersonOrNobody (sym is.caller) (person s asked.caller known);
        owner = subst (λ (x : Here). IsKnown x.owner) (sym is.here) (owner_known o s asked.at);
        here = subst (λ (x : Here). IsKnown x.principal) (sym is.here) (here_known o s asked.at there);
        some = d.0;
        entries = λ e mem. (
          entry_known o s asked.at e (subst (λ (es : List Entry). Mem e es) is.entries mem),
          all_tells (λ (x : Entry). holds_some x.set) e stated.entries d.1 mem,
        );
        few_members = leb-true (length stated.members) 1000 b.0;
        few_entries = leb-true (length stated.entries) 64 b.1;
      }
    where
      person : IsSound o → (caller : Caller) → IsKnownCaller o caller → IsPersonOrNobody caller
      person sound Nobody h = tt
      person sound (Known path) h = caller_is o sound path h

  -- ---- what answers the Office answers what is stated
  of_office : (answer : List ℕ) → IsAnswer o.pairs asked.caller set (here_of o asked.at) (bare_entries (effective_at o asked.at)) answer
      → IsAnswer (set_of stated.members) stated.caller stated.set stated.here stated.entries answer
  of_office answer f =
      let here = here_of o asked.at in
      let entries = bare_entries (effective_at o asked.at) in
      let leading_pairs : Memberships = set_of (leading is.circle is.pairs) in
      let whole : IsCircle (set_of is.pairs) asked.caller is.circle = subst (λ (ps : Memberships). IsCircle ps asked.caller is.circle) (sym is.all) is.is_circle in
      let same : is.circle ≡ f.circle = one_circle o.pairs asked.caller is.circle f.circle is.is_circle f.expanded in
      let e : IsAnswer leading_pairs asked.caller set here entries answer = record {
        circle = f.circle;
        outcome = f.outcome;
        granted = f.granted;
        expanded = subst (λ (c : CircleOf). IsCircle leading_pairs asked.caller c) same (leading_circle is.pairs is.circle asked.caller whole);
        allowed = f.allowed;
        denied = f.denied;
        grants = f.grants;
        told = f.told;
      } in
      subst (λ (ms : List Membership). IsAnswer (set_of ms) stated.caller stated.set stated.here stated.entries answer) (sym is.members)
      (subst (λ (c : Caller). IsAnswer leading_pairs c stated.set stated.here stated.entries answer) (sym is.caller)
      (subst (λ (x : Leaf → Bool). IsAnswer leading_pairs asked.caller x stated.here stated.entries answer) (sym is.set_is)
      (subst (λ (x : Here). IsAnswer leading_pairs asked.caller set x stated.entries answer) (sym is.here)
      (subst (λ (es : List Entry). IsAnswer leading_pairs asked.caller set here es answer) (sym is.entries) e))))

-- what is told fits, and is what is stated
told_fits : (fitting : Bool) (text whole : List ℕ) → Some text ≡ (if fitting then Some whole else None) → (fitting ≡ true) × (text ≡ whole)
told_fits true text whole e = (refl, same_Some _ _ e)
told_fits false text whole e = absurd cc

pub explained : ExplainAnswersAsk
explained o name p set asked text answer s at told = (back, forth answer)
  where
    stated : Stated
    stated = told.2.0

    is : IsStated o asked set stated
    is = subst (λ (a : Asked). IsStated o a set stated) (IfOk-at_ok (λ (a : Asked). told.0 ≡ a) (sym told.1 ∙ at) refl) told.2.1

    whole : (fits stated ≡ true) × (text ≡ stated_text stated)
    whole = told_fits (fits stated) text (stated_text stated) told.2.2

    forth : (said : List ℕ) → IsDecision o asked set said → AnswersText text said
    forth said decision =
        subst (λ t. AnswersText t said) (sym whole.1)
        (answers_stated stated (readable o asked set stated is s (is_known o name p asked at) (is_there o name p asked at) whole.0) said (of_office o asked set stated is said decision))

    back : AnswersText text answer → IsDecision o asked set answer
    back answers =
        let found = answer_of o.pairs asked.caller set (here_of o asked.at) (bare_entries (effective_at o asked.at)) in
        subst (IsDecision o asked set) (sym (one_answer_of text answer found.0 answers (forth found.0 found.1))) found.1
