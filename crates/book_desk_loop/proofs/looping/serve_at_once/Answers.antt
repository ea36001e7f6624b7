use Rattle.std.proofs.Common.{[], map, inl, inr, refl, sym, ◌∙◌}
use Rattle.book_desk_connections.specs.ManyConnections.{answered_in}
use Rattle.book_wire_steps.proofs.Takes.{in_steps_none}
use Rattle.book_desk_loop.proofs.Serving.{kept_none_in, served_at_once, served_none}
use Rattle.book_desk_loop.proofs.looping.serve_at_once.Goals as goal

pub returns-in-Err-clause-served : goal.returns-in-Err-clause-served
returns-in-Err-clause-served g c =
    let s = c.stop_of.ensures in
    let f = c.has_failed_log-failed.ensures in (
      [],
      refl,
      served_none g.S.Read.remaining g.S.Write.contents g.M.Service.serving c.args.limits c.args.service _ c.stop_of.result s.done s.store
          (λ e. elim (s.log e) [ inl x ↦ inl (sym f ∙ x) | inr y ↦ inr y ]) (λ x. s.failed_log (f ∙ x)),
    )

pub returns-clause-served : goal.returns-clause-served
returns-clause-served g c =
    let r = c.run-ended.ensures in
    let n = c.new-connections.ensures in
    let s = c.stop_of-2.ensures in
    let f = c.has_failed_log-failed-2.ensures in
    let k = kept_none_in g.S.Read.remaining g.S.Write.contents g.M.Service.serving c.args.limits c.args.service c.new-connections.result c.new-2.result.items n.service n.none.0 n.none.1 c.new-2.ensures.items in (
      r.goes.told,
      r.goes.tells_them,
      served_at_once g.S.Read.remaining g.S.Write.contents g.M.Service.serving c.args.limits c.args.service r.goes.told c.run-ended.new.self c.run-ended.result c.stop_of-2.result c.release-service.result
          c.failures-failures.result (r.goes.keeps c.args.limits c.args.service [] (refl, k)) c.release-service.ensures c.failures-failures.ensures r.ended
          s.done s.store (λ e. elim (s.log e) [ inl x ↦ inl (sym f ∙ x) | inr y ↦ inr y ]) (λ x. s.failed_log (f ∙ x)),
    )

pub returns-clause-steps : goal.returns-clause-steps
returns-clause-steps g c = (let s = returns-clause-served g c in (map answered_in s.2.log, s.2.in_steps.in_steps))

pub returns-in-Err-clause-steps : goal.returns-in-Err-clause-steps
returns-in-Err-clause-steps g c = ([], in_steps_none g.M.Service.serving c.args.limits.is_administered c.args.service c.args.service refl)
