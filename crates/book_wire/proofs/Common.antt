-- The names that many proofs of this crate cite, passed on from one place. Declares nothing.
pub use Rattle.std.proofs.Common.{◌≡◌, ℕ, List, ap, arith, sym, ◌++◌, length, ◌∙◌, drop, refl, ◌+◌, ◌≤◌, [], ◌-◌, ◌<◌, subst, take, inl, Option, append-nil, append_assoc, inr, map, Some, true, ◌∷◌, Bool, None, false, rules, ◌^◌, ◌≢◌}
pub use Rattle.std.proofs.lemmas.List.{length-drop, length-take, length-take-le, take-append-drop, take_at}
pub use Rattle.std.proofs.lemmas.Result.{IfErr-weaker, on_ok_weaker}
pub use Rattle.std.specs.Io.KnownBytes.{Appends, Consumes}
pub use Rattle.httparse.specs.Grammar.{print_request, RequestHead}
pub use Rattle.httparse.specs.Spans.{header_bytes, name_and_value}
pub use Rattle.book_wire_serving.specs.Serving.{Serving}
pub use Rattle.book_machine.specs.declared.messages.Reply.{Reply}
pub use Rattle.book_machine.specs.declared.messages.Request.{Request}
pub use Rattle.book_wire.specs.Head.{Asked}
pub use Rattle.book_wire.specs.Members.{has_close}
pub use Rattle.book_wire.specs.Stream.{SoFar, Exchange, Refuses, reply_text}
pub use Rattle.book_wire.specs.Turn.{Takes}
pub use Rattle.book_wire.specs.declared.head.WireRefusal.{WireRefusal}
