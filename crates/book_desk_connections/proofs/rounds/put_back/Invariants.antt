use Rattle.std.proofs.Common.{◌≡◌, ℕ, List, length, Option}
use Rattle.std.specs.List.{All}
use Rattle.std.specs.Vec.Iter.{into_iter_items, into_iter_len}
use Rattle.book_desk_connections.specs.Rounds.{IsHeldIn, OthersAreSame}
use Rattle.book_desk_connections.specs.declared.connections.Accepted.{Accepted}
use Rattle.book_desk_connections.specs.declared.rounds.Held.{Held}
use Rattle.book_desk_connections.proofs.Fed.{PutAt}
use Rattle.book_desk_connections.proofs.rounds.put_back.Given as goal

-- those so far are back, and there are copies of the others
abbrev pub invariant-loop-copy : goal.invariant-loop-copy
invariant-loop-copy l = record {
  back : (before : List (Option Accepted)) → length before ≡ length l.initial.places.items
      → All (λ (h : Held). IsHeldIn before h) (into_iter_items l.initial.copy-iterator)
      → OthersAreSame (into_iter_items l.initial.copy-iterator) before l.initial.places.items
      → (length before ≡ length l.places.items) × All (λ (h : Held). IsHeldIn before h) (into_iter_items l.copy-iterator)
      × ((j : ℕ) → PutAt before l.places.items (into_iter_items l.copy-iterator) j);
  count : into_iter_len l.copy-iterator ≡ length (into_iter_items l.copy-iterator);
}
