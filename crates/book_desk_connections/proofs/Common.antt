-- The names that many proofs of this crate cite, passed on from one place. Declares nothing.
pub use Rattle.std.proofs.Common.{◌≡◌, ◌<◌, ℕ, List, [], ◌++◌, length, take, map, Option, Some, None, refl, sym, ap, subst, ◌∙◌, arith}
pub use Rattle.book_desk_connections.specs.declared.connections.Accepted.{Accepted}
pub use Rattle.book_desk_connections.specs.ManyConnections.{History, Entry, AreServed, Holds, answered_in, entries, grows, receives, is_sent, number_at}
