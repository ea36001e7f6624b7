use Rattle.std.proofs.Common.{◌≡◌, map, string_bytes, take}
use Rattle.book_desk_words.proofs.commands.copies_of.Given as goal

-- those so far are copied
abbrev pub invariant-loop-text : goal.invariant-loop-text
invariant-loop-text l = map string_bytes l.copies.items ≡ map (λ t. t.now) (take l.text-index l.texts)
