-- The names that many proofs of this crate cite, passed on from one place. Declares nothing.
pub use Rattle.std.proofs.Common.{◌≡◌, ◌≢◌, ◌∙◌, ◌+◌, ◌<◌, ◌++◌, ◌∷◌, ℕ, zero, suc, Bool, List, [], take, map, length, get_or, Option, Some, None, Result, Ok, Err, IfOk, IfSome, IfNone, IsTrue, true, false, true≢false, inl, inr, ap, arith, refl, rules, subst, sym}
pub use Rattle.std.specs.List.{AllByRecursion}
pub use Rattle.sqlite.specs.Held.{state}
pub use Rattle.sqlite.specs.Order.{Row}
pub use Rattle.sqlite.specs.State.{HasCleanDisk, State}
pub use Rattle.sqlite_rules.proofs.ListLemmas.{all_has, all_more, has_right}
pub use Rattle.sqlite_rules.specs.Lists.{Has}
