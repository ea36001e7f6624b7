-- A round of a service whose replies are counted.
use Rattle.std.specs.Prelude.{◌≡◌, [], ◌∷◌}
use Rattle.std.specs.Borrow.{GName}
use Rattle.book_office.specs.Keeping.{Standing}
use Rattle.book_wire_serving.specs.Rounds.{by_names, lent_by}
use Rattle.book_wire_serving.specs.Serving.{Serving}
use Rattle.book_desk_metrics.specs.declared.rounds.CountedWork.{CountedWork}

-- what stands in a round, for a service that is lent
abbrev pub counted_in : {I : Type 0} → (I → Standing) → I × GName → Standing
counted_in inside i = lent_by (i.1 ∷ []) (inside i.0)

-- what work does over a service that is lent, it does where replies are counted
pub record IsCountedWork {W : Type 0} (does : Serving → Serving → W → W → Type 0) (first last : Serving) (before after : CountedWork W) : Type 0 where
  pub name : GName
  pub same_reference : after.work.ghost_name ≡ before.work.ghost_name
  pub done : does (by_names (name ∷ []) first) (by_names (name ∷ []) last) before.work.now after.work.now
