-- What bytes ask is the same however they are cut.
use Rattle.std.proofs.Common.{◌≡◌, ℕ, ◌≤◌, List, ◌++◌, length, take, drop, sym, ap, subst, ◌∙◌, inl, inr, append_assoc, arith}
use Rattle.std.proofs.Math.Seq.{drop-append_seam, take-append_seam}
use Rattle.std.proofs.lemmas.List.{length-append, take-append-drop, take-append-le}
use Rattle.std.specs.Prelude.{Ok, Err}
use Rattle.httparse.specs.Grammar.{RequestHead, ReadsRequest, HasNoRequest, print_request}
use Rattle.httparse.proofs.GrammarLemmas.{request_unique}
use Rattle.book_desk_control.specs.Fields.{asked_of_head}
use Rattle.book_desk_control.specs.Hearing.{FrontRefuses, HeadRefuses, Hears, IsHead, IsPartOfBody, IsPartOfHead, IsWhole, body_at}
use Rattle.book_desk_control.specs.Laws.{CutsAlike}
use Rattle.book_desk_control.specs.declared.fields.Asked.{Asked}
use Rattle.book_desk_control.specs.declared.hearing.Heard.{Heard}
use Rattle.book_desk_control.specs.declared.hearing.Heard.TheVariants.{Part, Refused, Whole}
use Rattle.book_desk_control.specs.declared.questions.Question.{Question}
use Rattle.book_desk_control.specs.declared.refusals.Refusal.{Refusal}
use Rattle.book_desk_control.specs.declared.refusals.Refusal.TheVariants.{BadHead, HeadTooLarge, NotImplemented, NotFound, NotAllowed, TooMany, BadBody}

whole_stays : (a b : List ℕ) (q : Question) (s n : ℕ) → IsWhole a q s n → IsWhole (a ++ b) q s n
whole_stays a b q s n x =
    (x.0, x.1 ++ b, x.2, ap (λ (t : List ℕ). t ++ b) x.3 ∙ append_assoc (print_request x.0) x.1 b, x.4, x.5, omega (arith, x.6, length-append x.1 b))

-- what stands behind the head
rest_is : (a more : List ℕ) (h : RequestHead) (s : ℕ) → a ≡ print_request h ++ more → s ≡ length (print_request h) → drop s a ≡ more
rest_is a more h s e at =
    ap (λ (n : ℕ). drop n a) at ∙ ap (drop (length (print_request h))) e ∙ drop-append_seam (print_request h) more

whole_same : (a b : List ℕ) (q : Question) (s n : ℕ) → IsWhole a q s n → body_at (a ++ b) s n ≡ body_at a s n
whole_same a b q s n x =
    let longer : a ++ b ≡ print_request x.0 ++ (x.1 ++ b) = ap (λ (t : List ℕ). t ++ b) x.3 ∙ append_assoc (print_request x.0) x.1 b in
    ap (take n) (rest_is (a ++ b) (x.1 ++ b) x.0 s longer x.4) ∙ take-append-le n x.1 b x.6
    ∙ sym (ap (take n) (rest_is a x.1 x.0 s x.3 x.4))

reads : (a more : List ℕ) (h : RequestHead) → IsHead h → a ≡ print_request h ++ more → ReadsRequest a h more
reads a more h is e = (is.head, e)

-- a front that has all bytes of a head begins with it
front_reads : (a front more rest : List ℕ) (h : RequestHead) → IsHead h → a ≡ print_request h ++ rest → a ≡ front ++ more
    → length (print_request h) ≤ length front → ReadsRequest front h (drop (length (print_request h)) front)
front_reads a front more rest h is e f fits =
    let p = print_request h in
    let same : take (length p) front ≡ p =
    sym (take-append-le (length p) front more fits) ∙ ap (take (length p)) (sym f ∙ e) ∙ take-append_seam p rest in
    (is.head, sym (take-append-drop (length p) front) ∙ ap (λ (t : List ℕ). t ++ drop (length p) front) same)

-- two heads at the front are one
same_head : (a r t : List ℕ) (h k : RequestHead) → IsHead h → IsHead k → a ≡ print_request h ++ r → a ≡ print_request k ++ t
    → (h ≡ k) × (r ≡ t)
same_head a r t h k is ks e f = request_unique a h k r t (reads a r h is e) (reads a t k ks f)

same_asked : (h k : RequestHead) (x y : Asked) → h ≡ k → asked_of_head h ≡ Ok x → asked_of_head k ≡ Ok y → x ≡ y
same_asked h k x y one asks as_well = cc (one, asks, as_well)

never_both : (h k : RequestHead) (x : Asked) (r : Refusal) → h ≡ k → asked_of_head h ≡ Ok x → asked_of_head k ≡ Err r → ⊥
never_both h k x r one asks refuses = cc (one, asks, refuses)

whole_no_part_of_head : (a : List ℕ) (q : Question) (s n : ℕ) → IsWhole a q s n → IsPartOfHead a → ⊥
whole_no_part_of_head a q s n x p = p.1 x.0 x.1 (reads a x.1 x.0 x.2 x.3)

whole_no_part_of_body : (a : List ℕ) (q : Question) (s n : ℕ) → IsWhole a q s n → IsPartOfBody a → ⊥
whole_no_part_of_body a q s n x p =
    let one = same_head a x.1 p.1 x.0 p.0 x.2 p.3 x.3 p.4 in
    let asked = same_asked x.0 p.0 _ p.2 one.0 x.5 p.5 in
    let wanted : n ≡ p.2.length = ap (λ (k : Asked). k.length) asked in
    omega (arith, wanted, p.6, x.6, ap length one.1)

whole_no_front : (a : List ℕ) (q : Question) (s n : ℕ) (r : Refusal) → IsWhole a q s n → FrontRefuses a r → ⊥
whole_no_front a q s n BadHead x y =
    let N : List ℕ → Type 0 = λ t. HasNoRequest t in
    subst N (sym y.2) (y.4 y.1) x.0 x.1 (reads a x.1 x.0 x.2 x.3)
whole_no_front a q s n HeadTooLarge x (front, more, is, small, inl full) =
    full.1 x.0 (drop (length (print_request x.0)) front) (front_reads a front more x.1 x.0 x.2 x.3 is (omega (arith, full.0, x.2.size)))
whole_no_front a q s n HeadTooLarge x (front, more, is, small, inr over) =
    omega (arith, over.1 more x.0 x.1 (x.2.head, sym is ∙ x.3), x.2.fields)
whole_no_front a q s n NotImplemented x y = absurd y
whole_no_front a q s n NotFound x y = absurd y
whole_no_front a q s n (NotAllowed other) x y = absurd y
whole_no_front a q s n TooMany x y = absurd y
whole_no_front a q s n BadBody x y = absurd y

whole_no_head : (a : List ℕ) (q : Question) (s n : ℕ) (r : Refusal) → IsWhole a q s n → HeadRefuses a r → ⊥
whole_no_head a q s n r x y =
    let one = same_head a x.1 y.1 x.0 y.0 x.2 y.2 x.3 y.3 in
    never_both x.0 y.0 _ r one.0 x.5 y.4

whole_once : (a : List ℕ) (q p : Question) (s t n m : ℕ) → IsWhole a q s n → IsWhole a p t m → Whole p t m ≡ Whole q s n
whole_once a q p s t n m x y =
    let one = same_head a x.1 y.1 x.0 y.0 x.2 y.2 x.3 y.3 in
    let asked = same_asked x.0 y.0 _ _ one.0 x.5 y.5 in
    let start : s ≡ t = x.4 ∙ ap (λ (h : RequestHead). length (print_request h)) one.0 ∙ sym y.4 in
    let question : q ≡ p = ap (λ (k : Asked). k.question) asked in
    let count : n ≡ m = ap (λ (k : Asked). k.length) asked in
    cc (question, count, start)

whole_alone : (a : List ℕ) (q : Question) (s n : ℕ) (other : Heard) → Hears a (Whole q s n) → Hears a other → other ≡ Whole q s n
whole_alone a q s n Part x (inl y) = absurd (whole_no_part_of_head a q s n x y)
whole_alone a q s n Part x (inr y) = absurd (whole_no_part_of_body a q s n x y)
whole_alone a q s n (Refused r) x (inl y) = absurd (whole_no_front a q s n r x y)
whole_alone a q s n (Refused r) x (inr y) = absurd (whole_no_head a q s n r x y)
whole_alone a q s n (Whole p t m) x y = whole_once a q p s t n m x y

-- what follows a refused front or head changes nothing
front_stays : (a b : List ℕ) (r : Refusal) → FrontRefuses a r → FrontRefuses (a ++ b) r
front_stays a b BadHead y = (y.0, y.1 ++ b, ap (λ (z : List ℕ). z ++ b) y.2 ∙ append_assoc y.0 y.1 b, y.3, y.4)
front_stays a b HeadTooLarge y = (y.0, y.1 ++ b, ap (λ (z : List ℕ). z ++ b) y.2 ∙ append_assoc y.0 y.1 b, y.3, y.4)
front_stays a b NotImplemented y = absurd y
front_stays a b NotFound y = absurd y
front_stays a b (NotAllowed other) y = absurd y
front_stays a b TooMany y = absurd y
front_stays a b BadBody y = absurd y

refused_stays : (a b : List ℕ) (r : Refusal) → Hears a (Refused r) → Hears (a ++ b) (Refused r)
refused_stays a b r (inl x) = inl (front_stays a b r x)
refused_stays a b r (inr x) = inr (x.0, x.1 ++ b, x.2, ap (λ (z : List ℕ). z ++ b) x.3 ∙ append_assoc (print_request x.0) x.1 b, x.4)

pub cuts_alike : CutsAlike
cuts_alike = record { stays = whole_stays; same_body = whole_same; is_one = whole_alone; stays_refused = refused_stays }
