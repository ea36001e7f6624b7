use Rattle.std.proofs.Common.{◌≡◌, [], map, drop, string_bytes}
use Rattle.serde_json.specs.View.{items_view}
use Rattle.book_desk_control.specs.Words.{texts_after}
use Rattle.book_desk_control.proofs.words.words_of.Given as goal

-- the texts so far, and those of the items that are left, are the texts of all
abbrev pub invariant-loop-item : goal.invariant-loop-item
invariant-loop-item l =
    texts_after (map string_bytes l.words.items) (items_view (drop l.item-index l.items)) ≡ texts_after [] (items_view l.items)
