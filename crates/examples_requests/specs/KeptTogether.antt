-- Two edits, one after the other, and what becomes of them where one commit keeps them.
use Rattle.std.specs.Prelude.{◌≡◌, Bool, true, Result, IfOk, OnErr}
use Rattle.book_office.specs.Edits.{apply}
use Rattle.book_office.specs.Keeping.{FallsBack, Leftover, Standing, whole}
use Rattle.book_office.specs.Sound.{Fits}
use Rattle.book_office.specs.declared.edits.Edit.{Edit}
use Rattle.book_office.specs.declared.keepers.StoreFault.{StoreFault}
use Rattle.book_office_values.specs.declared.offices.Office.{Office}

-- both fit, the second what the first leaves
pub record BothFit (o : Office) (first second : Edit) : Type 0 where
  pub first_fits : Fits o first
  pub second_fits : Fits (apply o first) second

-- where both were made, the keeper stands for the Office with both, and a stop leaves that alone
pub record MakesBoth (old new : Standing) (first second : Edit) (made : Bool) : Type 0 where
  pub was_honest : new.honest → old.honest
  pub both : new.honest → made ≡ true → (o : Office) → old.stands o → BothFit o first second → new.stands (apply (apply o first) second)
  pub left : new.honest → made ≡ true → (o : Office) → old.stands o → BothFit o first second → (x : Leftover) → new.left x → x ≡ whole (apply (apply o first) second)

-- both are kept, and a stop leaves no Office with one of them; or neither is
pub record KeepsBoth (old new : Standing) (first second : Edit) (result : Result Bool StoreFault) : Type 0 where
  pub was_honest : new.honest → old.honest
  pub falls : FallsBack old.fallback new.fallback
  pub both : new.honest → IfOk result (λ made. made ≡ true → (o : Office) → old.stands o → BothFit o first second → new.stands (apply (apply o first) second))
  pub left : new.honest → IfOk result (λ made. made ≡ true → (o : Office) → old.stands o → BothFit o first second
      → (x : Leftover) → new.left x → x ≡ whole (apply (apply o first) second))
  pub neither : new.honest → OnErr result ((o : Office) → old.stands o → new.stands o)
