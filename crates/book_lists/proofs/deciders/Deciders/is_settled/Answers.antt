use Rattle.book_lists.proofs.Common.{◌≡◌, ◌∙◌, refl, sym, ap, not, Bool, true, false, Option, Some, None, both_ways}
use Rattle.std.proofs.Common.{is_some}
use Rattle.book_lists.proofs.JudgedNeeds.{settled_tells}
use Rattle.book_lists.proofs.deciders.Deciders.is_settled.Goals as goal

none_there : {A : Type 0} (x : Option A) → is_some x ≡ false → x ≡ None
none_there None e = refl
none_there (Some x) e = absurd (both_ways _ e refl)

from_not : (b : Bool) → not b ≡ false → b ≡ true
from_not true e = refl
from_not false e = absurd (both_ways _ e refl)

pub returns-else-is_some : goal.returns-else-is_some
returns-else-is_some c need readings j =
    let tells = settled_tells need readings c.args.self.now j (none_there _ (sym c.is_some.ensures ∙ c.if-is_some.false)) c.least.result c.least.ensures in (
      λ e. tells.0 (c.is_none.ensures ∙ ap not e),
      λ settled. from_not _ (sym c.is_none.ensures ∙ tells.1 settled),
    )
