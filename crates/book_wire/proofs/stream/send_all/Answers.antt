use Rattle.book_wire.proofs.Common.{◌≡◌, ℕ, List, ◌++◌, length, drop, refl, sym, ap, ◌∙◌, append_assoc}
use Rattle.std.proofs.lemmas.List.{drop_at}
use Rattle.std.proofs.KnownBytes.{Appends-trans}
use Rattle.book_wire.proofs.stream.send_all.Goals as goal

-- what is left behind the front
behind : (unsent front more left : List ℕ) → unsent ≡ front ++ more → left ≡ drop (length front) unsent → unsent ≡ front ++ left
behind unsent front more left is after =
    is ∙ ap (λ (t : List ℕ). front ++ t) (sym (after ∙ ap (drop (length front)) is ∙ drop_at front more (length front) refl))

-- one more front was sent
further : (whole sent unsent front left : List ℕ) → whole ≡ sent ++ unsent → unsent ≡ front ++ left → whole ≡ (sent ++ front) ++ left
further whole sent unsent front left was is = was ∙ ap (λ (t : List ℕ). sent ++ t) is ∙ sym (append_assoc sent front left)

pub loop-unsent-preserved : goal.loop-unsent-preserved
loop-unsent-preserved g c =
    let x = c.loop-unsent.invariant in
    let u = c.unsent-unsent.ensures in
    let r = c.unsent-unsent.result.now in (
      x.0 ++ r,
      Appends-trans _ _ _ x.0 r x.1 c.in-Ok.ensures.ok,
      further _ x.0 _ r _ x.2 (behind _ r u.0 _ u.1 c.in-Ok-did_send.ensures.unsent),
      c.did_send.ensures.unread ∙ x.3,
      c.did_send.ensures.closing ∙ x.4,
      c.did_send.ensures.stalled ∙ x.5,
    )

pub returns-in-Err-did_send-clause-err : goal.returns-in-Err-did_send-clause-err
returns-in-Err-did_send-clause-err g c =
    let x = c.loop-unsent.invariant in
    let u = c.unsent-unsent.ensures in
    let r = c.unsent-unsent.result.now in
    (c.in-Err-did_send.ensures.fault, (x.0 ++ r, u.0, further _ x.0 _ r _ x.2 u.1, Appends-trans _ _ _ x.0 r x.1 c.in-Ok.ensures.ok))

pub returns-in-Err-clause-err : goal.returns-in-Err-clause-err
returns-in-Err-clause-err g c =
    let x = c.loop-unsent.invariant in
    let u = c.unsent-unsent.ensures in
    let e = c.in-Err.ensures.err in
    let f = e.1 in (
      e.0,
      (
        x.0 ++ f.0,
        f.1 ++ u.0,
        further _ x.0 _ f.0 _ x.2 (u.1 ∙ ap (λ (t : List ℕ). t ++ u.0) f.2 ∙ append_assoc f.0 f.1 u.0),
        Appends-trans _ _ _ x.0 f.0 x.1 f.3,
      ),
    )
