-- What is known after a round: what was served in one that was kept is a run, and one that was not kept was tried.
use Rattle.std.proofs.Common.{◌≡◌, inl, inr, false, List, [], sym, ◌∙◌, Ok, Err}
use Rattle.std.proofs.lemmas.Bool.{false≢true}
use Rattle.book_office.specs.Keeping.{Standing}
use Rattle.book_office.specs.Rounds.{IsDone, IsNotBegun}
use Rattle.book_office.specs.declared.keepers.StoreFault.{StoreFault}
use Rattle.book_machine.specs.Runs.{last_office}
use Rattle.book_log_lines.specs.declared.lines.Line.{Line}
use Rattle.book_wire_serving.specs.Logs.{Log, Gains, lines_text}
use Rattle.book_wire_serving.specs.Rounds.{BeginsEmpty, IsFollowed, IsServedRound, IsTried, with_log}
use Rattle.book_wire_serving.specs.Serving.{AreLinesOf, Answered, Runs, Serving, calls_answered, replies_of}
use Rattle.book_wire_serving.proofs.Servings.{after_weaker}

-- the lines of the round are written after those before it
gained : (old first last new : Log) (AreSo : List Line → Type 0) → BeginsEmpty old first → IsFollowed old last new → Gains first last AreSo → Gains old new AreSo
gained old first last new AreSo b f gains = record {
  was_sound = λ sound. sym b.begins ∙ gains.was_sound (f.was_sound sound);
  lines = λ sound bytes held.
      let g = gains.lines (f.was_sound sound) [] (b.empty bytes held) in
      (g.0, f.follows sound bytes (lines_text g.0) held g.1, g.2);
}

module _ {I W : Type 0} (inside : I → Standing) (does : Serving → Serving → W → W → Type 0) (old new : Serving) (before after : W) where
  -- a round that was kept was done
  pub kept_done : (r : IsServedRound inside does old new before after (Ok tt))
      → IsDone inside (λ s t b a. does (with_log r.first_log s) (with_log r.last_log t) b a) old.standing new.standing before after (Ok tt)
  kept_done r = elim r.round.done [ inl done ↦ done | inr refused ↦ absurd (false≢true refused.refused) ]

  -- what was served in it is a run
  pub runs_kept : (r : IsServedRound inside does old new before after (Ok tt))
      (d : IsDone inside (λ s t b a. does (with_log r.first_log s) (with_log r.last_log t) b a) old.standing new.standing before after (Ok tt))
      (answered : List Answered) → Runs (with_log r.first_log (inside d.first)) (with_log r.last_log (inside d.last)) answered → Runs old new answered
  runs_kept r d answered runs = record {
    well_formed = runs.well_formed;
    was_honest = r.round.was_honest;
    falls = r.round.falls;
    run = λ h o stands.
        let so = runs.run (d.honest h) o (d.begins h o stands) in (
          so.0,
          d.made h (last_office o so.0) so.1,
          so.2,
          λ x left. after_weaker (inside d.first).left old.standing.left o (calls_answered answered) (replies_of answered) so.0 x (d.begins_left h) (so.3 x (d.left_made h x left)),
        );
    noted = gained old.log r.first_log r.last_log new.log (AreLinesOf answered) r.begins r.followed runs.noted;
  }

  -- its log has not failed where the log has not
  pub sound_kept : (r : IsServedRound inside does old new before after (Ok tt)) → new.log.failed ≡ false → r.last_log.failed ≡ false
  sound_kept r sound = r.followed.was_sound sound

  -- a round that was done and not kept
  pub tried : (fault : StoreFault) (r : IsServedRound inside does old new before after (Err fault))
      (d : IsDone inside (λ s t b a. does (with_log r.first_log s) (with_log r.last_log t) b a) old.standing new.standing before after (Err fault))
      (answered : List Answered) → Runs (with_log r.first_log (inside d.first)) (with_log r.last_log (inside d.last)) answered → IsTried old new answered
  tried fault r d answered runs = record {
    well_formed = runs.well_formed;
    was_honest = r.round.was_honest;
    falls = r.round.falls;
    kept = r.round.kept;
    left = λ h o stands x left. elim (d.left_kept h x left) [
      | inl was ↦ inl was
      | inr found ↦ (let so = runs.run found.0 o (d.begins h o stands) in
          inr (so.0, so.2, after_weaker (inside d.first).left old.standing.left o (calls_answered answered) (replies_of answered) so.0 x (d.begins_left h) (so.3 x found.1)))
    ];
    same_log = r.same_log;
  }

  -- a round that was not begun
  pub not_begun : (fault : StoreFault) (r : IsServedRound inside does old new before after (Err fault))
      → IsNotBegun inside (λ s t b a. does (with_log r.first_log s) (with_log r.last_log t) b a) old.standing new.standing before after (Err fault)
      → IsTried old new []
  not_begun fault r n = record {
    well_formed = tt;
    was_honest = r.round.was_honest;
    falls = r.round.falls;
    kept = r.round.kept;
    left = λ h o stands x left. inl (n.left h x left);
    same_log = r.same_log;
  }

  -- a round that was not kept was tried, whatever was served in it
  pub round_tried : (fault : StoreFault) (r : IsServedRound inside does old new before after (Err fault))
      → ((first last : I) → does (with_log r.first_log (inside first)) (with_log r.last_log (inside last)) before after
      → (answered : List Answered) × Runs (with_log r.first_log (inside first)) (with_log r.last_log (inside last)) answered)
      → (answered : List Answered) × IsTried old new answered
  round_tried fault r served = elim r.round.done [
    | inl d ↦ (let so = served d.first d.last d.done in (so.0, tried fault r d so.0 so.1))
    | inr n ↦ ([], not_begun fault r n)
  ]
