-- What comes of a head and of what was copied after it.
use Rattle.std.proofs.Common.{ℕ, List, [], ◌++◌, length, refl, ap, sym, ◌∙◌, subst, inr, arith}
use Rattle.std.specs.Prelude.{Option, Some}
use Rattle.std.specs.Io.KnownBytes.{Consumes, Keeps}
use Rattle.httparse.specs.Grammar.{print_response}
use Rattle.book_desk_asking.proofs.Streams.{appends_kept, begins_both, begins_with}
use Rattle.book_desk_asking.specs.Replies.{CutBy, IsAnswered, IsCopied, IsCut, ReadsHead}
use Rattle.book_desk_asking.specs.declared.heads.Told.{Told}

-- what was copied whole, and then flushed, is no more than a front
pub copied_cut : (left leaves held holds kept : Option (List ℕ)) (count : ℕ)
    → IsCopied left leaves held holds count → Keeps holds kept → CutBy left held kept count
copied_cut left leaves held holds kept count x same =
    (x.0, omega (arith, x.1), begins_with left leaves x.0 x.2, appends_kept held holds kept x.0 x.3 same)

-- a front of what a reply has, behind its head
pub cut_front : (left mid held holds : Option (List ℕ)) (told : Told) → ReadsHead left mid told → CutBy mid held holds told.written → IsCut left held holds
cut_front left mid held holds told head cut =
    (cut.0, cut.3, inr (head.0, told, head.1, cut.1, begins_both left mid (print_response head.0) cut.0 head.2 cut.2))

-- a head, what the command wrote, and what it told, into an empty list
pub answered : (left mid end leaves held holds kept : Option (List ℕ)) (tells : Told) (told : List ℕ)
    → ReadsHead left mid tells → IsCopied mid end held holds tells.written → Keeps holds kept
    → IsCopied end leaves (Some []) (Some told) tells.told → IsAnswered left held kept tells.status told
answered left mid end leaves held holds kept tells told head wrote same rest = record {
  head = head.0;
  tells = tells;
  written = wrote.0;
  is_head = head.1;
  came = begins_both left mid (print_response head.0) (wrote.0 ++ told) head.2
      (begins_both mid end wrote.0 told wrote.2 (begins_with end leaves told (subst (λ (t : List ℕ). Consumes end leaves t) (sym rest.3) rest.2)));
  printed = appends_kept held holds kept wrote.0 wrote.3 same;
  written_size = wrote.1;
  told_size = ap length rest.3 ∙ rest.1;
  status_is = refl;
}
