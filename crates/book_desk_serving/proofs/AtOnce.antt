-- Connections at once, and what is told of them.
use Rattle.std.proofs.Common.{◌≡◌, ◌-◌, ℕ, Bool, true, false, cond, List, [], ◌∷◌, Option, Result, sym, ap, subst, ◌∙◌}
use Rattle.std.proofs.KnownBytes.{Appends-nil}
use Rattle.book_wire_serving.specs.declared.faults.StreamFault.{StreamFault}
use Rattle.book_desk_loop.specs.Serving.{ToldFault, AreTold}
use Rattle.book_desk_loop.specs.declared.limits.Stop.{Stop}
use Rattle.book_desk_serving.specs.AtOnce.{line_of_client, lines_of_clients, served_status}
use Rattle.book_desk_app.specs.Telling.{Tells}
use Rattle.book_desk_serving.proofs.InTurn.{tells_then}

module _ {F : Type 0} {tells : F → StreamFault → F → Type 0} where
  -- where each that is told leaves a mark, the status is that of the mark
  module _ (sound : F → Bool) (marks : (old : F) (fault : StreamFault) (new : F) → tells old fault new → sound new ≡ false) where
    stays_unsound : (old new : F) (faults : List ToldFault) → sound old ≡ false → AreTold tells old faults new → sound new ≡ false
    stays_unsound old new [] un same = ap sound same ∙ un
    stays_unsound old new (told ∷ more) un x = stays_unsound x.0 new more (marks old told.fault x.0 x.1) x.2

    pub status_told : (old new : F) (faults : List ToldFault) (ended : Result (Unit {0}) Stop) → sound old ≡ true → AreTold tells old faults new
        → cond (sound new) (served_status [] ended) 3 ≡ served_status faults ended
    status_told old new [] ended s same = ap (λ b. cond b (served_status [] ended) 3) (ap sound same ∙ s)
    status_told old new (told ∷ more) ended s x =
        ap (λ b. cond b (served_status [] ended) 3) (stays_unsound x.0 new more (marks old told.fault x.0 x.1) x.2)

  -- the lines of all, where each has its line
  module _ (left : F → ℕ) (whole : F → Bool) (held : F → Option (List ℕ))
      (steps : (old : F) (fault : StreamFault) (new : F) → tells old fault new
      → (left new ≡ left old - 1) × Tells (whole old) (whole new) (held old) (held new) (line_of_client (left old) fault)) where
    pub lines_told : (old new : F) (faults : List ToldFault) → AreTold tells old faults new
        → Tells (whole old) (whole new) (held old) (held new) (lines_of_clients (left old) faults)
    lines_told old new [] same =
        subst (λ f. Tells (whole old) (whole f) (held old) (held f) []) (sym same) (record { before = λ w. w; told = λ w. Appends-nil (held old) })
    lines_told old new (told ∷ more) x =
        let step = steps old told.fault x.0 x.1 in
        let rest = subst (λ n. Tells (whole x.0) (whole new) (held x.0) (held new) (lines_of_clients n more)) step.0 (lines_told x.0 new more x.2) in
        tells_then (whole old) (whole x.0) (whole new) (held old) (held x.0) (held new) (line_of_client (left old) told.fault)
        (lines_of_clients (left old - 1) more) step.1 rest
