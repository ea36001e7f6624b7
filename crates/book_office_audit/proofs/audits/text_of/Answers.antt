use Rattle.book_office_audit.proofs.Common.{◌≡◌, ◌++◌, ℕ, List, ap, ◌∙◌, map, codes, string_bytes, empty, flat_map, NamesTo, Block, gathered}
use Rattle.std.proofs.Common.{decimal}
use Rattle.std.specs.FinMap.{entries}
use Rattle.book_office_audit.specs.Audits.{in_order, member_block}
use Rattle.book_office_audit.proofs.audits.text_of.Goals as goal

abbrev told : NamesTo (List ℕ) → List ℕ
told m = flat_map (λ (b : Block). b.1) (entries m)

pub returns : goal.returns
returns c =
    let list = c.in_ok-memberships.memberships.items in
    let head : string_bytes c.in_ok-text.text ≡ codes "epoch " ++ (decimal c.args.epoch ++ codes "\n") = c.in_ok-text.ensures.ok in
    let members = c.in_ok-members.ensures ∙ ap (λ l. gathered empty (map member_block l)) c.as_slice.ensures.value in
    let resources = c.in_ok-resources.ensures in
    let first : string_bytes c.push_all.new.text ≡ (codes "epoch " ++ (decimal c.args.epoch ++ codes "\n")) ++ in_order (map member_block list) =
    c.in_ok-push_all.ensures ∙ (λ i. head i ++ told (members i)) in (
      list,
      c.in_ok-memberships.ensures.pairs,
      c.in_ok-push_all-2.ensures ∙ (λ i. first i ++ told (resources i)),
    )
