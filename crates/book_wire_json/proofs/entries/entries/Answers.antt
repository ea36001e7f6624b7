use Rattle.book_wire_json.proofs.Common.{◌≡◌, List, [], ◌∷◌, ◌++◌, ◌+◌, ◌<◌, None, Some, length, map, take, get_or, sym, ap, ◌∙◌, subst, arith, null, view, items_view, items_of, AreEntries}
use Rattle.std.proofs.lemmas.List.{map_more, get_or-map, length-map}
use Rattle.serde_json.specs.Data.{Items}
use Rattle.book_lists.specs.declared.submitted.Submitted.{Submitted}
use Rattle.book_wire_json.specs.Entries.{IsEntry}
use Rattle.book_wire_json.proofs.EntryLists.{entries_more, no_entry_at}
use Rattle.book_wire_json.proofs.entries.entries.Goals as goal

pub returns-in-None : goal.returns-in-None
returns-in-None c =
    let vs = c.args.values.now in
    let i = c.loop-value.value-index in
    let d = c.value-item.result in
    let lt : i < length vs = omega arith in
    let sized : length (map view vs) ≡ length vs = length-map vs view in
    let long : i < length (map view vs) = omega (arith, sized) in
    let none : IsEntry (view d) None = rw c.in-None.is at c.in_ok-entry.ensures in
    let here : view d ≡ get_or (map view vs) i null = ap view c.value-item.is ∙ sym (get_or-map view vs i d null lt) in
    no_entry_at (map view vs) i long (subst (λ x. IsEntry x None) here none)

pub loop-value-preserved : goal.loop-value-preserved
loop-value-preserved c =
    let vs = c.args.values.now in
    let i = c.loop-value.value-index in
    let d = c.value-item.result in
    let before = map view (take i vs) in
    let lt : i < length vs = omega arith in
    let same : items_view (take (i + 1) vs) ≡ items_of (before ++ view d ∷ []) =
    ap items_of (map_more view vs i d lt) ∙ ap (λ v. items_of (before ++ view v ∷ [])) (sym c.value-item.is) in
    let is : IsEntry (view d) (Some c.in-Some.entry) = rw c.in-Some.is at c.in_ok-entry.ensures in
    let more = entries_more before c.loop-value.found (view d) c.in-Some.entry c.loop-value.invariant is in
    let A : Items → Type 0 = λ ds. AreEntries ds c.push.new.self in
    let B : List Submitted → Type 0 = λ es. AreEntries (items_of (before ++ view d ∷ [])) es in
    subst A (sym same) (subst B (sym c.in_ok-push-in-Some.ensures.ok) more)
