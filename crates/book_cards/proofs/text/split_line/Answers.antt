use Rattle.book_cards.proofs.Common.{lit<, arith, sym, ◌∙◌, ap, [], ◌∷◌, ◌++◌, append_assoc, length, length-append, split_parts}
use Rattle.std.proofs.lemmas.Str.Pattern.{strip_suffix_char}
use Rattle.book_cards.proofs.LineEnds.{line_at, last_line, positive}
use Rattle.book_cards.proofs.PlacesSeen.{ends_of, ends_nothing}
use Rattle.book_cards.proofs.text.split_line.Goals as goal

pub returns-in-Some : goal.returns-in-Some
returns-in-Some c =
    let parts = rw c.in-Some.is at (split_parts 10 c.args.text.now c.split_once.result c.split_once.ensures.cases (lit< tt)) in
    let ending = strip_suffix_char 13 c.in-Some.line.now c.strip_suffix.result c.strip_suffix.ensures.cases (lit< tt) in (
      line_at c.args.text.now c.in-Some.rest.now c.in-Some.line c.unwrap_or.result c.strip_suffix.result parts.0 parts.1 ending c.unwrap_or.ensures,
      omega (arith, simp length-append at (ap length parts.0)),
      ends_of c.args.text.now (c.in-Some.line.now ++ 10 ∷ []) c.in-Some.rest.now (parts.0 ∙ sym (append_assoc c.in-Some.line.now (10 ∷ []) c.in-Some.rest.now)),
    )

pub returns-in-None : goal.returns-in-None
returns-in-None c =
    let none = rw c.in-None.is at (split_parts 10 c.args.text.now c.split_once.result c.split_once.ensures.cases (lit< tt)) in
    let some = positive (length c.args.text.now) (sym c.is_empty.ensures ∙ c.if-is_empty.false) in
    (last_line c.args.text.now some none, some, ends_nothing c.args.text.now)
