use Rattle.book_desk_app.proofs.Common.{◌≡◌, ◌++◌, ◌∷◌, ◌∙◌, [], List, Ok, Err, ℕ, ap, refl, sym, true}
use Rattle.std.proofs.Common.{rules, OnOk, Result, is_ok}
use Rattle.std.proofs.KnownBytes.{Appends-nil}
use Rattle.std.proofs.lemmas.Fmt.{contents_after_writes}
use Rattle.arrayvec.specs.declared.array_string.ArrayString.{ArrayString}
use Rattle.book_desk_app.specs.Failures.{failure_text}
use Rattle.book_desk_app.proofs.failures.tell.Goals.{then-is_ok, else-is_ok}
use Rattle.book_desk_app.proofs.failures.tell.Goals as goal

written : {A E : Type 0} (result : Result A E) (P : Type 0) → is_ok result ≡ true → OnOk result P → P
written (Ok x) P done holds = holds
written (Err e) P done holds = absurd (cc (done))

pub returns-clause-told : goal.returns-clause-told
returns-clause-told g c =
    let text : List ℕ = failure_text c.args.failure.now ++ 10 ∷ [] in
    elim c.if-is_ok.branch [
      | then-is_ok w ↦
          let shown : w.deref.result.now ≡ c.writeln.new.self.bytes = search rules in
          let empty : c.new-line.result.bytes ≡ [] = search rules in
          let calls = written c.writeln.result _ (sym c.is_ok.ensures.value ∙ w.if-is_ok.true) c.writeln.ensures.writes in
          let line : c.writeln.new.self.bytes ≡ c.new-line.result.bytes ++ text =
          contents_after_writes _ (λ (s : ArrayString 64). s.bytes) (λ s bs t appends. appends) _ _ _ calls in
          let bytes : w.as_bytes.result.now ≡ text = w.as_bytes.ensures.value ∙ shown ∙ line ∙ ap (λ (t : List ℕ). t ++ text) empty in
          let told = w.put_front.ensures in
          (told.0, told.1, sym bytes ∙ told.2, rw w.errors-is told.3)
      | else-is_ok w ↦ ([], text, refl, rw w.errors-is (Appends-nil _))
    ]
