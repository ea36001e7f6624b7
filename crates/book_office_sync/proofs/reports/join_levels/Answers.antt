use Rattle.book_office_sync.proofs.Common.{rules, ◌≡◌, ◌++◌, ◌∷◌, subst, Level}
use Rattle.std.specs.List.{flat_map}
use Rattle.std.specs.Vec.Iter.{into_iter_items}
use Rattle.book_office_sync.specs.Sifting.{AppliesAs}
use Rattle.book_office_sync.proofs.AppliedEntries.{kept_more}
use Rattle.book_office_sync.proofs.reports.join_levels.Goals as goal

pub loop-level-preserved : goal.loop-level-preserved
loop-level-preserved c =
    let circle = c.args.circle.now in
    let level = c.in-Some.level in
    let all = into_iter_items c.into_iter-level-iterator.result in
    let rest = into_iter_items c.next.new.self in
    let so_far = c.loop-level.invariant in
    let next : into_iter_items c.loop-level.level-iterator ≡ level ∷ rest = search rules in
    record {
      protected = kept_more circle (flat_map (λ (k : Level). k.protected) all) c.loop-level.protected.items level.protected
          (flat_map (λ (k : Level). k.protected) rest) c.keep_level.new.protected.items
          (subst (λ ls. AppliesAs circle (flat_map (λ (k : Level). k.protected) all) (c.loop-level.protected.items ++ flat_map (λ (k : Level). k.protected) ls)) next so_far.protected)
          c.in_ok-keep_level.ensures.protected;
      own = kept_more circle (flat_map (λ (k : Level). k.own) all) c.loop-level.own.items level.own
          (flat_map (λ (k : Level). k.own) rest) c.keep_level.new.own.items
          (subst (λ ls. AppliesAs circle (flat_map (λ (k : Level). k.own) all) (c.loop-level.own.items ++ flat_map (λ (k : Level). k.own) ls)) next so_far.own)
          c.in_ok-keep_level.ensures.own;
      count = search rules;
    }
