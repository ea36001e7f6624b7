use Rattle.book_desk_serving.proofs.Common.{◌≡◌, [], ◌∷◌, ◌++◌, ◌∙◌, true, length, refl, sym, ap, inl, inr, Err, Served, StreamFault, Keeps-refl}
use Rattle.std.proofs.Common.{rules, ◌+◌, Bool, Result, cond, false}
use Rattle.book_wire_serving.specs.declared.faults.StreamFault.TheVariants.{Log}
use Rattle.std.proofs.KnownBytes.{Appends-nil, Keeps-trans}
use Rattle.std.proofs.lemmas.Bool.{true≢false}
use Rattle.std.proofs.lemmas.List.{length-append}
use Rattle.book_desk_serving.specs.Connections.{EndUnlogged, ServedConnection, none_had_a_fault, outcomes_of}
use Rattle.book_desk_serving.proofs.InTurn.{connections_run, length_of, logged_after, one_more, outcomes_more, sound_after, told_after}
use Rattle.book_desk_serving.proofs.connections.serve_connections.Goals as goal
use Rattle.book_desk_serving.proofs.connections.serve_connections.Goals.{then-not-is_sound, else-not-is_sound}

pub loop-number-init : goal.loop-number-init
loop-number-init g c = (([], refl, record { before = λ whole. whole; told = λ whole. Appends-nil (g.E.Write.contents c.args.errors.now) }, refl, tt, refl), λ sound. Keeps-refl (g.E.Write.contents c.args.errors.now))

pub loop-number-preserved : goal.loop-number-preserved
loop-number-preserved g c =
    let so_far = c.loop-number.invariant in
    let last : ServedConnection g.row.S.Denot = record {
      reader = c.in_ok-reader.reader;
      writer = c.in_ok-writer.writer;
      reader_left = c.serve_one-outcome.new.reader;
      writer_left = c.serve_one-outcome.new.writer;
      outcome = c.serve_one-outcome.result;
    } in
    let turns = one_more g.S.Read.remaining g.S.Write.contents g.M.Service.serving c.args.service.now c.loop-number.service c.serve_one-outcome.new.service so_far.0.0 last so_far.0.1 c.serve_one-outcome.ensures.served in
    let told = told_after (outcomes_of so_far.0.0) c.serve_one-outcome.result (outcomes_of (so_far.0.0 ++ last ∷ [])) _ _ _ _ _ _
    (outcomes_more so_far.0.0 last) so_far.0.2 c.serve_one-outcome.ensures.told in
    let count : length (so_far.0.0 ++ last ∷ []) ≡ c.loop-number.number + 1 = length-append so_far.0.0 (last ∷ []) ∙ ap (λ n. n + 1) so_far.0.3 in
    let sound = sound_after (outcomes_of so_far.0.0) c.serve_one-outcome.result c.loop-number.sound c.is_sound.result so_far.0.5 c.is_sound.ensures ∙ ap none_had_a_fault (sym (outcomes_more so_far.0.0 last)) in
    let logged = logged_after (outcomes_of so_far.0.0) c.serve_one-outcome.result (outcomes_of (so_far.0.0 ++ last ∷ [])) (outcomes_more so_far.0.0 last) so_far.0.4
    (c.is_unlogged.ensures.logged c.if-is_unlogged.false) in
    elim c.if-not-is_sound.branch [
      | then-not-is_sound w ↦
          let failed : c.is_sound.result ≡ false = search rules in (
            (so_far.0.0 ++ last ∷ [], turns, told, count, logged, w.sound-is ∙ sym (ap (λ (b : Bool). cond b c.loop-number.sound false) failed) ∙ sound),
            λ t. absurd (true≢false (sym t ∙ w.sound-is)),
          )
      | else-not-is_sound w ↦
          let passed : c.is_sound.result ≡ true = search rules in (
            (so_far.0.0 ++ last ∷ [], turns, told, count, logged, w.sound-is ∙ sym (ap (λ (b : Bool). cond b c.loop-number.sound false) passed) ∙ sound),
            λ t. Keeps-trans (g.E.Write.contents c.args.errors.now) (g.E.Write.contents c.loop-number.errors) (g.E.Write.contents c.serve_one-outcome.new.errors)
                (so_far.1 (sym w.sound-is ∙ t)) (c.serve_one-outcome.ensures.silent (sym c.is_sound.ensures ∙ passed)),
          )
    ]

pub returns-in_err-writer-clause-served : goal.returns-in_err-writer-clause-served
returns-in_err-writer-clause-served g c = let so_far = c.loop-number.invariant.0 in (so_far.0, so_far.1, so_far.2, search rules)

pub returns-in_err-writer-clause-runs : goal.returns-in_err-writer-clause-runs
returns-in_err-writer-clause-runs g c = let so_far = c.loop-number.invariant.0 in connections_run g.S.Read.remaining g.S.Write.contents g.M.Service.serving _ _ so_far.0 so_far.1

pub returns-in_err-reader-clause-served : goal.returns-in_err-reader-clause-served
returns-in_err-reader-clause-served g c = let so_far = c.loop-number.invariant.0 in (so_far.0, so_far.1, so_far.2, search rules)

pub returns-in_err-reader-clause-runs : goal.returns-in_err-reader-clause-runs
returns-in_err-reader-clause-runs g c = let so_far = c.loop-number.invariant.0 in connections_run g.S.Read.remaining g.S.Write.contents g.M.Service.serving _ _ so_far.0 so_far.1

pub returns-then-is_unlogged-clause-served : goal.returns-then-is_unlogged-clause-served
returns-then-is_unlogged-clause-served g c =
    let so_far = c.loop-number.invariant in
    let last : ServedConnection g.row.S.Denot = record {
      reader = c.in_ok-reader.reader;
      writer = c.in_ok-writer.writer;
      reader_left = c.serve_one-outcome.new.reader;
      writer_left = c.serve_one-outcome.new.writer;
      outcome = c.serve_one-outcome.result;
    } in
    let turns = one_more g.S.Read.remaining g.S.Write.contents g.M.Service.serving c.args.service.now c.loop-number.service c.serve_one-outcome.new.service so_far.0.0 last so_far.0.1 c.serve_one-outcome.ensures.served in
    let told = told_after (outcomes_of so_far.0.0) c.serve_one-outcome.result (outcomes_of (so_far.0.0 ++ last ∷ [])) _ _ _ _ _ _
    (outcomes_more so_far.0.0 last) so_far.0.2 c.serve_one-outcome.ensures.told in
    let sound = sound_after (outcomes_of so_far.0.0) c.serve_one-outcome.result c.loop-number.sound c.is_sound.result so_far.0.5 c.is_sound.ensures ∙ ap none_had_a_fault (sym (outcomes_more so_far.0.0 last)) in
    let logless : c.serve_one-outcome.result ≡ Err Log = c.is_unlogged.ensures.unlogged c.if-is_unlogged.true in
    let ended : EndUnlogged (outcomes_of (so_far.0.0 ++ last ∷ [])) =
    (outcomes_of so_far.0.0, outcomes_more so_far.0.0 last ∙ ap (λ (o : Result Served StreamFault). outcomes_of so_far.0.0 ++ o ∷ []) logless, so_far.0.4) in
    elim c.if-not-is_sound.branch [
      | then-not-is_sound w ↦
          let failed : c.is_sound.result ≡ false = search rules in
          (so_far.0.0 ++ last ∷ [], turns, told, (inr ended, w.sound-is ∙ sym (ap (λ (b : Bool). cond b c.loop-number.sound false) failed) ∙ sound))
      | else-not-is_sound w ↦
          let passed : c.is_sound.result ≡ true = search rules in
          (so_far.0.0 ++ last ∷ [], turns, told, (inr ended, w.sound-is ∙ sym (ap (λ (b : Bool). cond b c.loop-number.sound false) passed) ∙ sound))
    ]

pub returns-then-is_unlogged-clause-runs : goal.returns-then-is_unlogged-clause-runs
returns-then-is_unlogged-clause-runs g c =
    let served = returns-then-is_unlogged-clause-served g c in
    connections_run g.S.Read.remaining g.S.Write.contents g.M.Service.serving _ _ served.0 served.1

pub returns-then-is_unlogged-clause-silent : goal.returns-then-is_unlogged-clause-silent
returns-then-is_unlogged-clause-silent g c =
    let so_far = c.loop-number.invariant in
    elim c.if-not-is_sound.branch [
      | then-not-is_sound w ↦ λ t. absurd (true≢false (sym t ∙ w.sound-is))
      | else-not-is_sound w ↦
          let passed : c.is_sound.result ≡ true = search rules in
          λ t. Keeps-trans (g.E.Write.contents c.args.errors.now) (g.E.Write.contents c.loop-number.errors) (g.E.Write.contents c.serve_one-outcome.new.errors)
          (so_far.1 (sym w.sound-is ∙ t)) (c.serve_one-outcome.ensures.silent (sym c.is_sound.ensures ∙ passed))
    ]

pub returns-clause-served : goal.returns-clause-served
returns-clause-served g c =
    let so_far = c.loop-number.invariant.0 in
    let end : c.loop-number.number ≡ c.args.count = search rules in
    (so_far.0, so_far.1, so_far.2, (inl (length_of so_far.0 ∙ so_far.3 ∙ end, so_far.4), so_far.5))

pub returns-clause-runs : goal.returns-clause-runs
returns-clause-runs g c = let so_far = c.loop-number.invariant.0 in connections_run g.S.Read.remaining g.S.Write.contents g.M.Service.serving _ _ so_far.0 so_far.1

pub returns-clause-silent : goal.returns-clause-silent
returns-clause-silent g c = c.loop-number.invariant.1
