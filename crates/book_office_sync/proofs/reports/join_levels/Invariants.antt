use Rattle.book_office_sync.proofs.Common.{◌≡◌, ◌++◌, length, Level}
use Rattle.std.specs.List.{flat_map}
use Rattle.std.specs.Vec.Iter.{into_iter_items, into_iter_len}
use Rattle.book_office_sync.specs.Sifting.{AppliesAs}
use Rattle.book_office_sync.proofs.reports.join_levels.Given as goal

-- the entries so far with those to come apply as those of all levels
abbrev pub invariant-loop-level : goal.invariant-loop-level
invariant-loop-level l = record {
  protected : AppliesAs l.circle (flat_map (λ (k : Level). k.protected) (into_iter_items l.initial.level-iterator))
      (l.protected.items ++ flat_map (λ (k : Level). k.protected) (into_iter_items l.level-iterator));
  own : AppliesAs l.circle (flat_map (λ (k : Level). k.own) (into_iter_items l.initial.level-iterator))
      (l.own.items ++ flat_map (λ (k : Level). k.own) (into_iter_items l.level-iterator));
  count : into_iter_len l.level-iterator ≡ length (into_iter_items l.level-iterator);
}
