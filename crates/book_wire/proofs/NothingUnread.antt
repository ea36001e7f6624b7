-- Where nothing is unread, a head may still come.
use Rattle.book_wire.proofs.Common.{Bool, true, ◌≡◌, ℕ, ◌<◌, List, [], ◌∷◌, ◌++◌, length, sym, ap, arith, refl, inl, append-nil, RequestHead, print_request}
use Rattle.std.proofs.Common.{zero, suc, length-append}
use lib.Utf8.{encode}
use Rattle.httparse.proofs.GrammarLemmas.{print_request-append}
use Rattle.httparse.specs.Grammar.{print_blank, crlf, HasNoRequest, MayBecomeRequest, is_uri_byte, is_token_byte, AllPass}
use Rattle.book_wire.specs.Stream.{IsPartOfHead}

in_front : (front rest : List ℕ) → 0 < length front → 0 < length (front ++ rest)
in_front front rest some = omega (arith, some, length-append front rest)

behind : (front rest : List ℕ) → 0 < length rest → 0 < length (front ++ rest)
behind front rest some = omega (arith, some, length-append front rest)

none_in_nothing : HasNoRequest []
none_in_nothing h rest reads =
    let some : 0 < length (print_request h ++ rest) = rw print_request-append (behind (print_blank h.blank) _ (in_front h.method _ reads.0.method.0)) in
    omega (arith, some, ap length reads.1)

one_byte : (test : ℕ → Bool) (b : ℕ) → test b ≡ true → AllPass test (b ∷ [])
one_byte test b is zero d within = is
one_byte test b is (suc k) d within = absurd (omega (arith, within))

-- A / HTTP/1.1
abbrev least : RequestHead
least = record { blank = []; method = 65 ∷ []; target = 47 ∷ []; minor = 1; line_end = crlf; fields = []; last = crlf }

may_come : MayBecomeRequest []
unfolding is_token_byte encode
may_come = inl (
  print_request least,
  least,
  (
    record {
      method = (omega arith, one_byte is_token_byte 65 refl);
      target = (omega arith, one_byte is_uri_byte 47 refl);
      target_text = (47 ∷ [], (refl, refl));
      minor = omega arith;
      fields = λ k d within. absurd (omega (arith, within));
    },
    sym (append-nil (print_request least)),
  ),
)

pub nothing_is_part : IsPartOfHead []
nothing_is_part = (omega arith, none_in_nothing, may_come)
