-- Whether the Offices of two keepers are the same, from their dumps.
use Rattle.book_desk_keeping.proofs.Common.{◌≡◌, ◌≢◌, ◌↔◌, ◌∙◌, ℕ, List, Bool, true, false, IsTrue, Result, Ok, Err, ap, sym}
use Rattle.std.proofs.Common.{true≢false}
use Rattle.book_desk_keeping.specs.Keeping.{AreBoth, ReadsBoth}
use Rattle.book_dumps.specs.Dumps.{dump_text}
use Rattle.book_dumps.specs.Laws.{DumpsAreExact}
use Rattle.book_office.specs.Keeping.{Reads, Standing}
use Rattle.book_office.specs.declared.keepers.StoreFault.{StoreFault}
use Rattle.book_office_values.specs.declared.offices.Office.{Office}

module _ (first first_after other other_after : Standing) where
  pub both_told : (text : List ℕ) (r : Result Bool StoreFault) → DumpsAreExact
      → (first_after.honest → (o : Office) → first.stands o → text ≡ dump_text o)
      → Reads other other_after r (λ o is. IsTrue is ↔ (dump_text o ≡ text)) → ReadsBoth first first_after other other_after r
  both_told text (Err fault) exact told read = tt
  both_told text (Ok same) exact told read = λ honest honest_other o p stands stands_p. (
    (λ yes. exact o p (first.sound o stands) (other.sound p stands_p) (sym (told honest o stands) ∙ sym ((read.value honest_other p stands_p).0 yes))),
    (λ e. (read.value honest_other p stands_p).1 (ap dump_text (sym e) ∙ sym (told honest o stands))),
  )

  -- what is told at an answer that is known
  pub are_same : (same : Bool) → same ≡ true → ReadsBoth first first_after other other_after (Ok same)
      → AreBoth first first_after other other_after (λ o p. o ≡ p)
  are_same same is both honest honest_other o p stands stands_p = (both honest honest_other o p stands stands_p).0 is

  pub are_other : (same : Bool) → same ≡ false → ReadsBoth first first_after other other_after (Ok same)
      → AreBoth first first_after other other_after (λ o p. o ≢ p)
  are_other same is both honest honest_other o p stands stands_p e = true≢false (sym ((both honest honest_other o p stands stands_p).1 e) ∙ is)
