use Rattle.book_machine.proofs.Common.{◌≡◌, arith, rules, ◌∙◌, ap, subst, take, AreWellFormed, calls_of}
use Rattle.std.proofs.lemmas.List.{take_all, take_more}
use Rattle.book_machine.proofs.CopiesOfRuns.{synced}
use Rattle.book_machine.proofs.LeadingRuns.{calls_more, well_formed_more}
use Rattle.book_machine.proofs.RunLemmas.{no_calls, one_more_call}
use Rattle.book_machine.specs.Runs.{call_of}
use Rattle.book_machine.proofs.machine.Machine.serve_all.Goals as goal

pub loop-call-init : goal.loop-call-init
loop-call-init g c = record { runs = rw c.in_ok-replies.ensures.items (no_calls _); well_formed = tt; count = search rules; room = search rules }

pub loop-call-preserved : goal.loop-call-preserved
loop-call-preserved g c =
    let more = ap calls_of (take_more c.args.calls.now c.loop-call.call-index c.call-item.result c.loop-call-test.true) ∙ calls_more (take c.loop-call.call-index c.args.calls.now) _ in
    record {
      runs = rw (more, ← c.call-item.is, c.push_reserved.ensures.items)
          (one_more_call _ _ _ _ _ (call_of c.call-item.result) _ c.loop-call.invariant.runs (rw (← c.name_text-name.ensures) c.serve-reply.ensures.served));
      well_formed = rw (more, ← c.call-item.is) (well_formed_more (calls_of (take c.loop-call.call-index c.args.calls.now)) (call_of c.call-item.result) c.loop-call.invariant.well_formed c.serve-reply.ensures.well_formed);
      count = omega (arith, c.push_reserved.ensures.len);
      room = c.push_reserved.ensures.capacity ∙ c.loop-call.invariant.room;
    }

pub returns-clause-copies : goal.returns-clause-copies
returns-clause-copies g c =
    let n = c.loop-call.call-index in
    let xs = c.args.calls.now in
    let whole : take n xs ≡ xs = take_all n xs c.loop-call-test.false in
    let well_formed : AreWellFormed (calls_of xs) = subst (λ calls. AreWellFormed (calls_of calls)) whole c.loop-call.invariant.well_formed in
    synced (g.K.Keeper.standing c.args.self.now.keeper) (calls_of xs) c.loop-call.replies.items well_formed
