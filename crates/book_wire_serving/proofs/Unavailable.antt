-- A reply that tells something changed nothing: it may be told as unavailable.
use Rattle.std.proofs.Common.{◌≡◌, ◌≢◌, ℕ, List, Option, refl, inl, inr}
use Rattle.book_office.specs.Keeping.{Standing}
use Rattle.book_office_values.specs.declared.offices.Office.{Office}
use Rattle.book_machine.specs.Laws.{TellingRepliesChangeNothing}
use Rattle.book_machine.specs.Promises.{ServePromise}
use Rattle.book_machine.specs.Refusals.{refused}
use Rattle.book_machine.specs.Steps.{Serves}
use Rattle.book_machine.specs.declared.messages.Content.TheVariants as content
use Rattle.book_machine.specs.declared.messages.Reply.{Reply}
use Rattle.book_machine.specs.declared.messages.Request.{Request}
use Rattle.book_machine.specs.declared.refusals.Refusal.TheVariants.{Unavailable}

pub no_edit : TellingRepliesChangeNothing → (o after : Office) (name : Option (List ℕ)) (request : Request) (reply : Reply)
    → Serves o name request reply after → reply.content ≢ content.Empty → after ≡ o
no_edit law o after name request reply (inl step) telling = law o name request reply after step telling
no_edit law o after name request reply (inr unavailable) telling = unavailable.1

pub unspelled : TellingRepliesChangeNothing → (old new : Standing) (name : Option (List ℕ)) (request : Request) (reply : Reply)
    → ServePromise old new name request reply → reply.content ≢ content.Empty → ServePromise old new name request (refused Unavailable)
unspelled law old new name request reply p telling = record {
  was_honest = p.was_honest;
  falls = p.falls;
  served = λ h o stands.
      let s = p.served h o stands in
      (s.0, s.1, inr (refl, no_edit law o s.0 name request reply s.2 telling));
  left = λ h o stands x left.
      let may = p.left h o stands x left in
      (may.0, λ served. absurd (served refl));
  counted = elim p.counted [ inl same ↦ inl same | inr rose ↦ inr (refl, rose.1) ];
}
