use Rattle.std.proofs.Common.{◌≡◌, ℕ, List, ◌++◌, ◌≤◌, ◌<◌, length, drop, sym, ap, ◌∙◌, inl, inr, arith, subst}
use Rattle.std.proofs.Common.{Err}
use Rattle.std.proofs.lemmas.List.{length-take, take-append-drop, take_all}
use Rattle.httparse.specs.Grammar.{HasNoRequest, MayBecomeRequest, NeverHasRequest, print_request}
use Rattle.httparse.specs.Spans.{IsRequestOf, IsRequestWithin, RequestExceeds, RequestOverflows}
use Rattle.book_desk_control.specs.Hearing.{FrontRefuses}
use Rattle.book_desk_control.specs.declared.refusals.Refusal.{Refusal}
use Rattle.book_desk_control.proofs.Heads.{asked_at, behind, found}
use Rattle.book_desk_control.proofs.hearing.hear_with.Goals as goal

pub overflow_sub-bytes : goal.overflow_sub-bytes
overflow_sub-bytes c =
    let front = c.front_of-front.result.now in
    let within : IsRequestWithin front c.parse_request.new.headers c.in-Ok-Complete.spans = rw c.in-Ok-Complete.field-0-is at c.in-Ok-Complete.ensures.within in
    omega (arith, within.section.len_fits, ap length c.front_of-front.ensures, length-take 8192 c.args.bytes.now)

pub returns-then-bytes-spans : goal.returns-then-bytes-spans
returns-then-bytes-spans c =
    let bytes = c.args.bytes.now in
    let front = c.front_of-front.result.now in
    let r = c.in-Ok-Complete.spans in
    let headers = c.parse_request.new.headers in
    let complete : IsRequestOf front headers r = rw c.in-Ok-Complete.field-0-is at c.in-Ok-Complete.ensures.complete in
    let within : IsRequestWithin front headers r = rw c.in-Ok-Complete.field-0-is at c.in-Ok-Complete.ensures.within in
    let h = complete.0 in
    let x = found bytes front headers r h c.front_of-front.ensures (c.parse_request.auto.headers ∙ c.told-headers) within complete.1 in
    inr (
      h,
      drop (length (print_request h)) bytes,
      c.in-Ok.asked,
      x.head,
      x.is,
      asked_at front headers r h _ complete.1 c.in-Ok.ensures,
      omega (arith, behind bytes r h x, c.if-bytes-spans.true, x.fits),
    )

pub returns-else-bytes-spans : goal.returns-else-bytes-spans
returns-else-bytes-spans c =
    let bytes = c.args.bytes.now in
    let front = c.front_of-front.result.now in
    let r = c.in-Ok-Complete.spans in
    let headers = c.parse_request.new.headers in
    let complete : IsRequestOf front headers r = rw c.in-Ok-Complete.field-0-is at c.in-Ok-Complete.ensures.complete in
    let within : IsRequestWithin front headers r = rw c.in-Ok-Complete.field-0-is at c.in-Ok-Complete.ensures.within in
    let h = complete.0 in
    let x = found bytes front headers r h c.front_of-front.ensures (c.parse_request.auto.headers ∙ c.told-headers) within complete.1 in (
      h,
      drop (length (print_request h)) bytes,
      x.head,
      x.is,
      x.len,
      asked_at front headers r h _ complete.1 c.in-Ok.ensures,
      omega (arith, behind bytes r h x, c.if-bytes-spans.false, x.fits),
    )

pub returns-in-Err-read_fields : goal.returns-in-Err-read_fields
returns-in-Err-read_fields c =
    let bytes = c.args.bytes.now in
    let front = c.front_of-front.result.now in
    let r = c.in-Ok-Complete.spans in
    let headers = c.parse_request.new.headers in
    let complete : IsRequestOf front headers r = rw c.in-Ok-Complete.field-0-is at c.in-Ok-Complete.ensures.complete in
    let within : IsRequestWithin front headers r = rw c.in-Ok-Complete.field-0-is at c.in-Ok-Complete.ensures.within in
    let h = complete.0 in
    let x = found bytes front headers r h c.front_of-front.ensures (c.parse_request.auto.headers ∙ c.told-headers) within complete.1 in
    inr (h, drop (length (print_request h)) bytes, x.head, x.is, asked_at front headers r h _ complete.1 c.in-Err-read_fields.ensures)

pub returns-then-front-eq-MAX_HEAD : goal.returns-then-front-eq-MAX_HEAD
returns-then-front-eq-MAX_HEAD c =
    let bytes = c.args.bytes.now in
    let front = c.front_of-front.result.now in
    inl (
      front,
      drop 8192 bytes,
      sym (take-append-drop 8192 bytes) ∙ ap (λ (t : List ℕ). t ++ drop 8192 bytes) (sym c.front_of-front.ensures),
      omega (arith, c.if-front-eq-MAX_HEAD.true),
      inl (c.if-front-eq-MAX_HEAD.true, rw c.in-Ok-Partial.field-0-is at c.in-Ok-Partial.ensures.partial),
    )

pub returns-else-front-eq-MAX_HEAD : goal.returns-else-front-eq-MAX_HEAD
returns-else-front-eq-MAX_HEAD c =
    let bytes = c.args.bytes.now in
    let short : length bytes < 8192 =
    omega (arith, c.if-front-eq-MAX_HEAD.false, ap length c.front_of-front.ensures, length-take 8192 bytes) in
    let same : c.front_of-front.result.now ≡ bytes = c.front_of-front.ensures ∙ take_all 8192 bytes (omega arith) in
    let N : List ℕ → Type 0 = λ t. HasNoRequest t in
    let M : List ℕ → Type 0 = λ t. MayBecomeRequest t in
    inl (short, subst N same (rw c.in-Ok-Partial.field-0-is at c.in-Ok-Partial.ensures.partial), subst M same (rw c.in-Ok-Partial.field-0-is at c.in-Ok-Partial.ensures.unfinished))

pub returns-in-Err : goal.returns-in-Err
returns-in-Err c =
    let bytes = c.args.bytes.now in
    let front = c.front_of-front.result.now in
    let split : bytes ≡ front ++ drop 8192 bytes =
    sym (take-append-drop 8192 bytes) ∙ ap (λ (t : List ℕ). t ++ drop 8192 bytes) (sym c.front_of-front.ensures) in
    let small : length front ≤ 8192 = omega (arith, ap length c.front_of-front.ensures, length-take 8192 bytes) in
    let P : Refusal → Type 0 = λ r. FrontRefuses bytes r in
    inl (
    elim c.refusal_of.ensures [
      | inl x ↦
          let exceeds : RequestExceeds 64 front = subst (λ n. RequestExceeds n front) c.told-headers (c.in-Err.ensures.too_many (ap Err x.0)) in
          let overflows : RequestOverflows 64 front = subst (λ n. RequestOverflows n front) c.told-headers c.in-Err.ensures.no_room in
          subst P (sym x.1) (front, drop 8192 bytes, split, small, inr (exceeds, overflows))
      | inr x ↦
          let never : NeverHasRequest front = c.in-Err.ensures.invalid x.0 in
          subst P (sym x.1) (front, drop 8192 bytes, split, small, never)
    ]
    )
