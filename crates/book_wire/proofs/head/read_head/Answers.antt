use Rattle.book_wire.proofs.Common.{◌≡◌, ℕ, List, [], ◌++◌, ◌≤◌, ◌<◌, length, drop, sym, ap, ◌∙◌, inl, inr, false, refl, subst, arith, length-take, take-append-drop, print_request, WireRefusal, Refuses}
use Rattle.std.proofs.Common.{Err}
use Rattle.std.proofs.lemmas.Bool.{eqb-true}
use Rattle.std.proofs.lemmas.List.{nil_from_length, take_all}
use Rattle.httparse.specs.Grammar.{HasNoRequest, NeverHasRequest, MayBecomeRequest}
use Rattle.httparse.specs.Spans.{IsRequestOf, IsRequestWithin, RequestExceeds}
use Rattle.book_wire.specs.Head.{is_bare_head}
use Rattle.book_wire.specs.Stream.{IsPartOfHead}
use Rattle.book_wire.proofs.NothingUnread.{nothing_is_part}
use Rattle.book_wire.proofs.Heads.{whole_from_front, is_head, is_not_empty, asked_at}
use Rattle.book_wire.proofs.head.read_head.Goals as goal

pub returns-then-is_empty : goal.returns-then-is_empty
returns-then-is_empty c =
    let none : c.args.unread.now ≡ [] = nil_from_length _ (eqb-true (length c.args.unread.now) 0 (sym c.is_empty.ensures ∙ c.if-is_empty.true)) in
    let P : List ℕ → Type 0 = λ t. IsPartOfHead t in
    subst P (sym none) nothing_is_part

pub returns-in-Ok : goal.returns-in-Ok
returns-in-Ok c =
    let unread = c.args.unread.now in
    let front = c.front_of-front.result.now in
    let r = c.in-Ok-Complete.spans in
    let headers = c.parse_request.new.headers in
    let complete : IsRequestOf front headers r = rw c.in-Ok-Complete.field-0-is at c.in-Ok-Complete.ensures.complete in
    let within : IsRequestWithin front headers r = rw c.in-Ok-Complete.field-0-is at c.in-Ok-Complete.ensures.within in
    let h = complete.0 in
    let at = complete.1 in
    let small : length front ≤ 16384 = omega (arith, ap length c.front_of-front.ensures, length-take 16384 unread) in
    let whole : unread ≡ print_request h ++ drop (length (print_request h)) unread =
    whole_from_front 16384 unread (print_request h) (drop r.len front) (sym c.front_of-front.ensures ∙ at.reads.1) in (
      h,
      is_head front headers r h small (c.parse_request.auto.headers ∙ c.told-headers) within at,
      whole ∙ ap (λ (n : ℕ). print_request h ++ drop n unread) (sym at.len),
      at.len,
      is_not_empty front headers r h within at,
      omega (arith, within.section.len_fits, ap length c.front_of-front.ensures, length-take 16384 unread),
      asked_at front headers r h _ at c.in-Ok.ensures,
    )

pub returns-in-Err-read_fields : goal.returns-in-Err-read_fields
returns-in-Err-read_fields c =
    let unread = c.args.unread.now in
    let front = c.front_of-front.result.now in
    let r = c.in-Ok-Complete.spans in
    let headers = c.parse_request.new.headers in
    let complete : IsRequestOf front headers r = rw c.in-Ok-Complete.field-0-is at c.in-Ok-Complete.ensures.complete in
    let within : IsRequestWithin front headers r = rw c.in-Ok-Complete.field-0-is at c.in-Ok-Complete.ensures.within in
    let h = complete.0 in
    let at = complete.1 in
    let small : length front ≤ 16384 = omega (arith, ap length c.front_of-front.ensures, length-take 16384 unread) in
    inr (
      h,
      drop (length (print_request h)) unread,
      is_head front headers r h small (c.parse_request.auto.headers ∙ c.told-headers) within at,
      whole_from_front 16384 unread (print_request h) (drop r.len front) (sym c.front_of-front.ensures ∙ at.reads.1),
      asked_at front headers r h _ at c.in-Err-read_fields.ensures,
      c.is_bare_head.ensures ∙ ap is_bare_head (c.of.ensures ∙ at.method),
    )

pub returns-then-front-eq-MAX_HEAD : goal.returns-then-front-eq-MAX_HEAD
returns-then-front-eq-MAX_HEAD c =
    let unread = c.args.unread.now in
    let front = c.front_of-front.result.now in
    inl (
      (
        front,
        drop 16384 unread,
        sym (take-append-drop 16384 unread) ∙ ap (λ (t : List ℕ). t ++ drop 16384 unread) (sym c.front_of-front.ensures),
        omega (arith, c.if-front-eq-MAX_HEAD.true),
        inl (c.if-front-eq-MAX_HEAD.true, rw c.in-Ok-Partial.field-0-is at c.in-Ok-Partial.ensures.partial),
      ),
      refl,
    )

pub returns-else-front-eq-MAX_HEAD : goal.returns-else-front-eq-MAX_HEAD
returns-else-front-eq-MAX_HEAD c =
    let unread = c.args.unread.now in
    let short : length unread < 16384 =
    omega (arith, c.if-front-eq-MAX_HEAD.false, ap length c.front_of-front.ensures, length-take 16384 unread) in
    let same : c.front_of-front.result.now ≡ unread = c.front_of-front.ensures ∙ take_all 16384 unread (omega arith) in
    let N : List ℕ → Type 0 = λ t. HasNoRequest t in
    let M : List ℕ → Type 0 = λ t. MayBecomeRequest t in
    (short, subst N same (rw c.in-Ok-Partial.field-0-is at c.in-Ok-Partial.ensures.partial), subst M same (rw c.in-Ok-Partial.field-0-is at c.in-Ok-Partial.ensures.unfinished))

pub returns-in-Err : goal.returns-in-Err
returns-in-Err c =
    let unread = c.args.unread.now in
    let front = c.front_of-front.result.now in
    let split : unread ≡ front ++ drop 16384 unread =
    sym (take-append-drop 16384 unread) ∙ ap (λ (t : List ℕ). t ++ drop 16384 unread) (sym c.front_of-front.ensures) in
    let small : length front ≤ 16384 = omega (arith, ap length c.front_of-front.ensures, length-take 16384 unread) in
    let P : WireRefusal → Type 0 = λ r. Refuses unread r false in
    elim c.refusal_of.ensures [
      | inl x ↦
          let too_many : RequestExceeds 64 front = subst (λ n. RequestExceeds n front) c.told-headers (c.in-Err.ensures.too_many (ap Err x.0)) in
          subst P (sym x.1) (inl ((front, drop 16384 unread, split, small, inr too_many), refl))
      | inr x ↦
          let never : NeverHasRequest front = c.in-Err.ensures.invalid x.0 in
          subst P (sym x.1) (inl ((front, drop 16384 unread, split, small, never), refl))
    ]
