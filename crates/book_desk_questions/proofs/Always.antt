-- A question that always has an answer.
use Rattle.std.proofs.Common.{sym, subst}
use Rattle.std.specs.Prelude.{◌≡◌, ℕ, List, Option, Some, Result, Ok, Err}
use Rattle.book_office.specs.Keeping.{Standing}
use Rattle.book_office_values.specs.declared.offices.Office.{Office}
use Rattle.book_machine.specs.Asking.{Asks, Counted}
use Rattle.book_machine.specs.declared.refusals.Refusal.{Refusal}
use Rattle.book_desk_questions.specs.Answers.{TellsAsked, always}
use Rattle.book_desk_questions.specs.declared.asked.Asked.{Asked}

counted_always : (r : Result (List ℕ) Refusal) (before after : ℕ) → Counted r before after → Counted (always r) before after
counted_always (Ok text) before after c = c
counted_always (Err refusal) before after c = c

-- where a stage tells a text, it tells that there is one
pub asked_always : (old new : Standing) (a : Asked) (told : Result (List ℕ) Refusal) (result : Result (Option (List ℕ)) Refusal)
    (Tells : Office → Result (List ℕ) Refusal → Type 0) → result ≡ always told → Asks old new told Tells
    → ((o : Office) (text : List ℕ) → Tells o (Ok text) → TellsAsked o a (Ok (Some text)))
    → ((o : Office) (refusal : Refusal) → Tells o (Err refusal) → TellsAsked o a (Err refusal))
    → Asks old new result (λ o r. TellsAsked o a r)
asked_always old new a told result Tells is asks texts refusals =
    subst (λ (x : Result (Option (List ℕ)) Refusal). Asks old new x (λ o r. TellsAsked o a r)) (sym is) (record {
      was_honest = asks.was_honest;
      falls = asks.falls;
      tells = λ honest o stands. tells o told (asks.tells honest o stands);
      kept = asks.kept;
      left = asks.left;
      counted = counted_always told old.failures new.failures asks.counted;
    })
  where
    tells : (o : Office) (r : Result (List ℕ) Refusal) → Tells o r → TellsAsked o a (always r)
    tells o (Ok text) t = texts o text t
    tells o (Err refusal) t = refusals o refusal t
