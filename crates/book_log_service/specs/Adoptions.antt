-- What is noted of an adoption.
use Rattle.std.specs.Prelude.{◌≡◌, ℕ, [], ◌∷◌}
use Rattle.book_log_lines.specs.declared.lines.Adoption.{Adoption}
use Rattle.book_log_lines.specs.declared.lines.Line.{Line}
use Rattle.book_log_service.specs.Texts.{IsAdoption}
use Rattle.book_wire_serving.specs.Logs.{Gains}
use Rattle.book_wire_serving.specs.Serving.{Serving, StandsStill}

-- nothing was done, and what came of the adoption was noted
pub record NotesAdoption (old new : Serving) (adopted : Adoption) (epoch : ℕ) : Type 0 where
  pub still : StandsStill old.standing new.standing
  pub noted : Gains old.log new.log (λ lines. (l : Line) × (lines ≡ l ∷ []) × IsAdoption adopted epoch l)
