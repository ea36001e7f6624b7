-- Heads that the parser found in the front of what is unread.
use Rattle.book_wire.proofs.Common.{◌≡◌, ℕ, ◌-◌, ◌<◌, ◌≤◌, List, ◌++◌, map, length, take, drop, sym, ap, ◌∙◌, append_assoc, arith, refl, take-append-drop, length-take, RequestHead, header_bytes, name_and_value, WireRefusal, Asked}
use Rattle.std.proofs.lemmas.List.{drop_at, length-map}
use Rattle.httparse.specs.Spans.{IsRequestAt, IsRequestWithin, span_bytes}
use Rattle.httparse.specs.declared.spans.HeaderSpan.{HeaderSpan}
use Rattle.httparse.specs.declared.spans.RequestSpans.{RequestSpans}
use Rattle.std.specs.Prelude.{Result}
use Rattle.book_wire.specs.Head.{asked_by_head, asked_of_head}
use Rattle.book_wire.specs.Stream.{IsHead}

-- what stands at the front of a front stands at the front
pub whole_from_front : (k : ℕ) (unread p rest : List ℕ) → take k unread ≡ p ++ rest → unread ≡ p ++ drop (length p) unread
whole_from_front k unread p rest e =
    let joined : unread ≡ p ++ (rest ++ drop k unread) =
    sym (take-append-drop k unread) ∙ ap (λ (t : List ℕ). t ++ drop k unread) e ∙ append_assoc p rest (drop k unread) in
    joined ∙ ap (λ (t : List ℕ). p ++ t) (sym (ap (drop (length p)) joined ∙ drop_at p (rest ++ drop k unread) (length p) refl))

pub is_head : (buf : List ℕ) (headers : List HeaderSpan) (r : RequestSpans) (h : RequestHead)
    → length buf ≤ 16384 → length headers ≡ 64 → IsRequestWithin buf headers r → IsRequestAt buf headers r h → IsHead h
is_head buf headers r h small room within at = record {
  head = at.reads.0;
  size = omega (arith, at.len, within.section.len_fits);
  fields = omega (
    arith,
    ap length at.fields,
    length-map (take r.headers headers) (header_bytes buf),
    length-map h.fields name_and_value,
    length-take r.headers headers,
  );
}

pub is_not_empty : (buf : List ℕ) (headers : List HeaderSpan) (r : RequestSpans) (h : RequestHead)
    → IsRequestWithin buf headers r → IsRequestAt buf headers r h → 0 < r.len
is_not_empty buf headers r h within at =
    omega (
      arith,
      within.method.0,
      within.method.1,
      ap length at.method,
      at.reads.0.method.0,
      length-take (r.method.end - r.method.start) (drop r.method.start buf),
    )

pub asked_at : (buf : List ℕ) (headers : List HeaderSpan) (r : RequestSpans) (h : RequestHead) (x : Result Asked WireRefusal)
    → IsRequestAt buf headers r h
    → asked_by_head (span_bytes buf r.method) (span_bytes buf r.path) r.version (map (header_bytes buf) (take r.headers headers)) ≡ x
    → asked_of_head h ≡ x
asked_at buf headers r h x at e = cc (at.method, at.path, at.version, at.fields, e)
