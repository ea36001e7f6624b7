-- Heads that the parser found in the front of what came.
use Rattle.std.proofs.Common.{◌≡◌, ℕ, ◌+◌, ◌≤◌, List, ◌++◌, map, length, take, drop, sym, ap, ◌∙◌, append_assoc, arith, refl}
use Rattle.std.proofs.lemmas.List.{drop_at, length-drop, length-map, length-take, take-append-drop}
use Rattle.std.specs.Prelude.{Result}
use Rattle.httparse.specs.Grammar.{RequestHead, print_request}
use Rattle.httparse.specs.Spans.{IsRequestAt, IsRequestWithin, header_bytes, name_and_value, span_bytes}
use Rattle.httparse.specs.declared.spans.HeaderSpan.{HeaderSpan}
use Rattle.httparse.specs.declared.spans.RequestSpans.{RequestSpans}
use Rattle.book_desk_control.specs.Fields.{asked_by_head, asked_of_head}
use Rattle.book_desk_control.specs.Hearing.{IsHead}
use Rattle.book_desk_control.specs.declared.fields.Asked.{Asked}
use Rattle.book_desk_control.specs.declared.refusals.Refusal.{Refusal}

-- what stands at the front of a front stands at the front
pub whole_from_front : (k : ℕ) (bytes p rest : List ℕ) → take k bytes ≡ p ++ rest → bytes ≡ p ++ drop (length p) bytes
whole_from_front k bytes p rest e =
    let joined : bytes ≡ p ++ (rest ++ drop k bytes) =
    sym (take-append-drop k bytes) ∙ ap (λ (t : List ℕ). t ++ drop k bytes) e ∙ append_assoc p rest (drop k bytes) in
    joined ∙ ap (λ (t : List ℕ). p ++ t) (sym (ap (drop (length p)) joined ∙ drop_at p (rest ++ drop k bytes) (length p) refl))

pub is_head : (buf : List ℕ) (headers : List HeaderSpan) (r : RequestSpans) (h : RequestHead)
    → length buf ≤ 8192 → length headers ≡ 64 → IsRequestWithin buf headers r → IsRequestAt buf headers r h → IsHead h
is_head buf headers r h small room within at = record {
  head = at.reads.0;
  size = omega (arith, at.len, within.section.len_fits);
  fields = omega (
    arith,
    ap length at.fields,
    length-map (take r.headers headers) (header_bytes buf),
    length-map h.fields name_and_value,
    length-take r.headers headers,
  );
}

pub asked_at : (buf : List ℕ) (headers : List HeaderSpan) (r : RequestSpans) (h : RequestHead) (x : Result Asked Refusal)
    → IsRequestAt buf headers r h
    → asked_by_head (span_bytes buf r.method) (span_bytes buf r.path) (map (header_bytes buf) (take r.headers headers)) ≡ x
    → asked_of_head h ≡ x
asked_at buf headers r h x at e = cc (at.method, at.path, at.fields, e)

-- a head that was found in the front of what came
pub record Found (bytes : List ℕ) (r : RequestSpans) (h : RequestHead) : Type 0 where
  pub head : IsHead h
  pub is : bytes ≡ print_request h ++ drop (length (print_request h)) bytes
  pub len : r.len ≡ length (print_request h)
  pub fits : r.len ≤ length bytes

pub found : (bytes front : List ℕ) (headers : List HeaderSpan) (r : RequestSpans) (h : RequestHead)
    → front ≡ take 8192 bytes → length headers ≡ 64 → IsRequestWithin front headers r → IsRequestAt front headers r h → Found bytes r h
found bytes front headers r h is room within at =
    let sized = ap length is in record {
      head = is_head front headers r h (omega (arith, sized, length-take 8192 bytes)) room within at;
      is = whole_from_front 8192 bytes (print_request h) (drop r.len front) (sym is ∙ at.reads.1);
      len = at.len;
      fits = omega (arith, within.section.len_fits, sized, length-take 8192 bytes);
    }

pub behind : (bytes : List ℕ) (r : RequestSpans) (h : RequestHead) → Found bytes r h
    → r.len + length (drop (length (print_request h)) bytes) ≡ length bytes
behind bytes r h x = omega (arith, x.len, x.fits, length-drop (length (print_request h)) bytes)
