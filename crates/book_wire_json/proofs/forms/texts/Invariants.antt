use Rattle.book_wire_json.proofs.Common.{◌≡◌, [], map, drop, items_view}
use Rattle.book_wire_json.specs.Forms.{texts_after}
use Rattle.book_wire_json.proofs.forms.texts.Given as goal

-- the texts so far, and those of the items that are left, are the texts of all
abbrev pub invariant-loop-item : goal.invariant-loop-item
invariant-loop-item l =
    texts_after (map (λ t. t.now) l.texts.items) (items_view (drop l.item-index l.items)) ≡ texts_after [] (items_view l.items)
