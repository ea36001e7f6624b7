-- Two edits, one after the other, and a round of them.
use Rattle.std.proofs.Common.{◌≡◌, true, Bool, inl, inr, Result, Ok, Err}
use Rattle.std.proofs.lemmas.Bool.{false≢true}
use Rattle.std.specs.Result.{is_ok}
use Rattle.book_office.specs.Edits.{apply}
use Rattle.book_office.specs.Keeping.{Edits, Standing}
use Rattle.book_office.specs.Rounds.{IsRound}
use Rattle.book_office.specs.declared.edits.Edit.{Edit}
use Rattle.book_office.specs.declared.keepers.StoreFault.{StoreFault}
use Rattle.examples_requests.specs.KeptTogether.{MakesBoth, KeepsBoth}

pub both_made : (old mid new : Standing) (a b : Edit) (r : Result (Unit {0}) StoreFault) → Edits old mid (Ok tt) a → Edits mid new r b → MakesBoth old new a b (is_ok r)
both_made old mid new a b (Ok u) first second = record {
  was_honest = λ h. first.was_honest (second.was_honest h);
  both = λ h made o stands fit. second.made h (apply o a) (first.made (second.was_honest h) o stands fit.first_fits) fit.second_fits;
  left = λ h made o stands fit x left. second.left_made h (apply o a) (first.made (second.was_honest h) o stands fit.first_fits) fit.second_fits x left;
}
both_made old mid new a b (Err fault) first second = record {
  was_honest = λ h. first.was_honest (second.was_honest h);
  both = λ h made. absurd (false≢true made);
  left = λ h made. absurd (false≢true made);
}

module _ {I W : Type 0} (inside : I → Standing) (does : Standing → Standing → W → W → Type 0) (old new : Standing) (before after : W) (a b : Edit) (made : Bool)
    (makes : (s t : Standing) → does s t before after → MakesBoth s t a b made) where
  pub both_kept : IsRound inside does old new before after (Ok tt) → KeepsBoth old new a b (Ok made)
  both_kept round = record {
    was_honest = round.was_honest;
    falls = round.falls;
    both = λ h is o stands fit. elim round.done [
      | inl d ↦ d.made h (apply (apply o a) b) ((makes (inside d.first) (inside d.last) d.done).both (d.honest h) is o (d.begins h o stands) fit)
      | inr n ↦ absurd (false≢true n.refused)
    ];
    left = λ h is o stands fit x left. elim round.done [
      | inl d ↦ (makes (inside d.first) (inside d.last) d.done).left (d.honest h) is o (d.begins h o stands) fit x (d.left_made h x left)
      | inr n ↦ absurd (false≢true n.refused)
    ];
    neither = λ h. tt;
  }

  pub neither_kept : (fault : StoreFault) → IsRound inside does old new before after (Err fault) → KeepsBoth old new a b (Err fault)
  neither_kept fault round = record {
    was_honest = round.was_honest;
    falls = round.falls;
    both = λ h. tt;
    left = λ h. tt;
    neither = round.kept;
  }
