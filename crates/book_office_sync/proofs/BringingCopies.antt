-- A report that is read brings copies to the present.
use Rattle.book_office_sync.proofs.Common.{◌≡◌, true, ◌&&◌, List, ℕ, Option, Some, None, sym, ap, ◌∙◌, subst, ◌==◌, get, CircleOf, Book, Office, is_valid, report, sync, Token}
use Rattle.std.proofs.Common.{IfSome, nat_le}
use Rattle.std.specs.Str.{bytes_eq}
use Rattle.std.proofs.lemmas.Bool.{and_parts}
use Rattle.book_lists.proofs.Pairing.{same_path}
use Rattle.book_office.specs.Sound.{IsSound}
use Rattle.book_office_sync.specs.Copies.{Begins, Follows, BringsCopies}
use Rattle.book_office_sync.specs.declared.messages.Report.{Report}
use Rattle.book_office_sync.proofs.ReportLaws.{follows, begins}
use Rattle.book_office_sync.proofs.SyncedRuns.{Told, told, valid_epoch}

module _ (o : Office) (circle : CircleOf) (b : List ℕ) (sound : IsSound o) where
  -- a valid token names the book
  valid_book : (book : Book) (token : Token) → is_valid o b book (Some token) ≡ true → token.book ≡ b
  valid_book book token e =
      same_path token.book b (and_parts (bytes_eq token.book b) (token.epoch == o.epoch)
      (and_parts (bytes_eq token.book b && token.epoch == o.epoch) (nat_le token.number book.changes.number) e).0).0

  brought : (token : Option Token) (limit : Option ℕ) (r : Report) → Told o circle b token limit r → BringsCopies o circle b token r
  brought None limit r t = subst (Begins o circle b) (sym t.is) (begins o circle b t.book limit t.at (sound.books b t.book t.at).1)
  brought (Some token) limit r t = λ p later was.
      let same = valid_book t.book token t.valid in
      let epoch : o.epoch ≡ p.epoch = sym (valid_epoch o b t.book token t.valid) ∙ was.2 in
      let there : get o.books token.book ≡ Some t.book = ap (get o.books) same ∙ t.at in
      subst (Follows p o circle token) (ap (λ c. report o circle c t.book (Some token) limit) same ∙ sym t.is)
      (follows p o circle token was.0 t.book limit later epoch was.1 there was.3 (sound.books token.book t.book there).1)

  pub brings : (token : Option Token) (limit : Option ℕ) (answer : Option Report) → answer ≡ sync o circle b token limit → IfSome answer (BringsCopies o circle b token)
  brings token limit None e = tt
  brings token limit (Some r) e = brought token limit r (told o circle b token limit r (sym e))
