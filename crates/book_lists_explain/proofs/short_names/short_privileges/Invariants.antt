use Rattle.book_lists_explain.proofs.Common.{◌≡◌, take, filter_map, short_name, all_leaves}
use Rattle.book_lists_explain.proofs.short_names.short_privileges.Given as goal

-- the names of the leaves so far
abbrev pub invariant-loop-leaf : goal.invariant-loop-leaf
invariant-loop-leaf l = l.names.items ≡ filter_map (short_name l.set) (take l.leaf-index all_leaves)
