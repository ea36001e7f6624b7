-- Heads that the parser found.
use Rattle.std.proofs.Common.{◌≡◌, ℕ, ◌≤◌, List, [], ◌++◌, map, length, take, sym, ap, ◌∙◌, append-nil, arith}
use Rattle.std.proofs.lemmas.List.{drop_all, length-map, length-take}
use Rattle.std.specs.Prelude.{Option, Some, Ok}
use Rattle.httparse.specs.Grammar.{ResponseHead, print_response}
use Rattle.httparse.specs.Spans.{FindsResponse, IsResponseAt, IsResponseWithin, header_bytes, name_and_value}
use Rattle.httparse.specs.declared.Status.TheVariants.{Complete}
use Rattle.httparse.specs.declared.spans.HeaderSpan.{HeaderSpan}
use Rattle.httparse.specs.declared.spans.ResponseSpans.{ResponseSpans}
use Rattle.book_desk_asking.specs.Heads.{IsHead, told_in}
use Rattle.book_desk_asking.specs.declared.heads.Told.{Told}

-- a head that the bytes are is the one that was found
pub found_at : (bytes : List ℕ) (headers : List HeaderSpan) (r : ResponseSpans) (h : ResponseHead) (told : Told)
    → FindsResponse bytes 64 headers (Ok (Complete r)) → IsHead h told → bytes ≡ print_response h → IsResponseAt bytes headers r h
found_at bytes headers r h told finds is e = finds h [] (is.head, e ∙ sym (append-nil (print_response h))) is.fields

-- what the fields that were found tell is what those of the head tell
pub told_at : (bytes : List ℕ) (headers : List HeaderSpan) (r : ResponseSpans) (h : ResponseHead) (x : Option Told)
    → IsResponseAt bytes headers r h → told_in (map (header_bytes bytes) (take r.headers headers)) ≡ x
    → told_in (map name_and_value h.fields) ≡ x
told_at bytes headers r h x at e = ap told_in (sym at.fields) ∙ e

-- the head that was found is that of a reply
pub head_at : (bytes : List ℕ) (headers : List HeaderSpan) (r : ResponseSpans) (h : ResponseHead) (told : Told)
    → length headers ≡ 64 → IsResponseWithin bytes headers r → IsResponseAt bytes headers r h
    → told_in (map (header_bytes bytes) (take r.headers headers)) ≡ Some told → IsHead h told
head_at bytes headers r h told room within at e = record {
  head = at.reads.0;
  fields = omega (
    arith,
    ap length at.fields,
    length-map (take r.headers headers) (header_bytes bytes),
    length-map h.fields name_and_value,
    length-take r.headers headers,
  );
  told_is = told_at bytes headers r h (Some told) at e;
}

-- the bytes are no more than that head
pub bytes_are : (bytes : List ℕ) (headers : List HeaderSpan) (r : ResponseSpans) (h : ResponseHead)
    → IsResponseAt bytes headers r h → length bytes ≤ r.len → bytes ≡ print_response h
bytes_are bytes headers r h at all =
    at.reads.1 ∙ ap (λ (t : List ℕ). print_response h ++ t) (drop_all r.len bytes all) ∙ append-nil (print_response h)
