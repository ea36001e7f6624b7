use Rattle.book_office_sync.proofs.Common.{◌≡◌, drop, patch}
use Rattle.book_office_sync.proofs.replicas.Replica.apply_items.Given as goal

-- the items that remain lead to the same as all of them did
abbrev pub invariant-loop-item : goal.invariant-loop-item
invariant-loop-item l = patch l.self (drop l.item-index l.items) ≡ patch l.fn.self l.items
