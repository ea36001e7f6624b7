use Rattle.book_desk_serving.proofs.Common.{◌≡◌, ◌∙◌, [], ap, inl, inr, refl, subst, sym, true}
use Rattle.std.proofs.Common.{◌⊎◌, Bool, cond, false}
use Rattle.std.specs.Io.KnownBytes.{Keeps}
use Rattle.book_desk_serving.specs.Connections.{lines_of_connections, none_had_a_fault, outcomes_of}
use Rattle.book_desk_serving.specs.Streams.{EndsServing}
use Rattle.book_desk_app.specs.Telling.{Tells}
use Rattle.book_desk_serving.proofs.InTurn.{all_came, connections_run, tells_then}
use Rattle.book_desk_serving.proofs.listening.serve.Goals as goal

-- no connection was served
pub returns-in-Err-clause-runs : goal.returns-in-Err-clause-runs
returns-in-Err-clause-runs g c =
    connections_run g.S.Read.remaining g.S.Write.contents g.M.Service.serving c.args.service.now c.args.service.now [] refl

pub returns-in-Ok-clause-statuses : goal.returns-in-Ok-clause-statuses
returns-in-Ok-clause-statuses g c = c.status_of.ensures.statuses

pub returns-in-Ok-clause-sound : goal.returns-in-Ok-clause-sound
returns-in-Ok-clause-sound g c zero =
    let s = c.in-Ok.ensures.served in
    let d = c.status_of.ensures.done zero in
    let none : none_had_a_fault (outcomes_of s.0) ≡ true = sym s.3.1 ∙ d.0 in
    (c.in_default.ensures.said, (s.0, s.1, all_came c.args.connections s.0 s.3.0 none, none), sym c.has_failed_log.ensures ∙ d.1)

pub returns-in-Ok-clause-silent : goal.returns-in-Ok-clause-silent
returns-in-Ok-clause-silent g c zero =
    let d = c.status_of.ensures.done zero in
    let P : g.row.E.Denot → Type 0 = λ t. Keeps (g.E.Write.contents c.args.errors.now) (g.E.Write.contents t) in
    subst P (sym (c.status_of.ensures.silent (inr d.1)).0) (c.in-Ok.ensures.silent d.0)

pub returns-in-Ok-clause-serves : goal.returns-in-Ok-clause-serves
returns-in-Ok-clause-serves g c =
    let s = c.in-Ok.ensures.served in
    let st = c.status_of.ensures in
    let before = c.args.errors.now in
    let mid = c.serve_connections.new.errors in
    let new = c.status_of.new.errors in
    let Ends : Type 0 = EndsServing g.S.Read.remaining g.S.Write.contents g.M.Service.serving (g.L.Listens.has_port c.args.listener.now) (g.L.Listens.socket_path c.args.listener.now) (g.E.Lines.is_whole before) (g.E.Lines.is_whole new) (g.E.Write.contents before)
    (g.E.Write.contents new) s.0 c.args.connections c.status_of.result in
    let T : g.row.E.Denot → Type 0 = λ t.
    Tells (g.E.Lines.is_whole before) (g.E.Lines.is_whole t) (g.E.Write.contents before) (g.E.Write.contents t) (lines_of_connections (outcomes_of s.0)) in
    let quiet : (c.in-Ok.sound ≡ false) ⊎ (c.has_failed_log.result ≡ false) → Ends = λ h.
    (let q = st.silent h in inl (s.3.0, q.1 ∙ ap (λ (b : Bool). cond b 0 3) s.3.1, subst T (sym q.0) s.2)) in
    let by : (a b : Bool) → c.in-Ok.sound ≡ a → c.has_failed_log.result ≡ b → Ends = λ a b.
    elim a as (λ a. c.in-Ok.sound ≡ a → c.has_failed_log.result ≡ b → Ends) [
      | false ↦ λ e f. quiet (inl e)
      | true ↦
          elim b as (λ b. c.in-Ok.sound ≡ true → c.has_failed_log.result ≡ b → Ends) [
            | false ↦ λ e f. quiet (inr f)
            | true ↦ λ e f. (let t = st.told e f in inr (inr (t.0, tells_then _ _ _ _ _ _ _ _ s.2 t.1)))
          ]
    ] in
    inr (c.in_default.ensures.said, (s.0, s.1, by c.in-Ok.sound c.has_failed_log.result refl refl))
