use Rattle.book_wire_json.proofs.Common.{ℕ, List, ap, ◌∙◌, Data}
use Rattle.std.proofs.Common.{codes}
use Rattle.std.proofs.lemmas.Result.{on_ok_weaker}
use Rattle.book_wire_json.specs.PropertyValues.{member_if}
use Rattle.book_wire_json.specs.Writing.{told_members}
use Rattle.book_wire_json.proofs.Written.{seven_told}
use Rattle.book_wire_json.proofs.property_values.write_slots.Goals as goal

pub returns : goal.returns
returns c =
    let m1 : List (List ℕ × Data) = member_if (codes "acl") c.args.last.acl in
    let m2 : List (List ℕ × Data) = member_if (codes "current-user-privilege-set") c.args.last.privileges in
    let m3 : List (List ℕ × Data) = member_if (codes "displayname") c.args.last.label in
    let m4 : List (List ℕ × Data) = member_if (codes "group-member-set") c.args.last.members in
    let m5 : List (List ℕ × Data) = member_if (codes "owner") c.args.last.owner in
    let m6 : List (List ℕ × Data) = member_if (codes "resourcetype") c.args.last.kind in
    let m7 : List (List ℕ × Data) = member_if (codes "sync-token") c.args.last.token in
    on_ok_weaker c.write_slot-7.result (λ last. last
    ∙ ap (λ s. told_members s m7)
    (c.in_ok-write_slot-6.ensures
    ∙ ap (λ s. told_members s m6) (c.in_ok-write_slot-5.ensures
    ∙ ap (λ s. told_members s m5) (c.in_ok-write_slot-4.ensures
    ∙ ap (λ s. told_members s m4) (c.in_ok-write_slot-3.ensures
    ∙ ap (λ s. told_members s m3) (c.in_ok-write_slot-2.ensures ∙ ap (λ s. told_members s m2) c.in_ok-write_slot.ensures)))))
    ∙ seven_told c.args.out.now m1 m2 m3 m4 m5 m6 m7) c.write_slot-7.ensures
