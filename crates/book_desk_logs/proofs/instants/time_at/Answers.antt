use Rattle.std.proofs.Common.{◌∙◌, Option, Some, None, IfSome}
use Rattle.std.proofs.lemmas.Result.{IfOk-weaker}
use Rattle.book_desk_logs.proofs.instants.time_at.Goals as goal

-- what follows of what is there
weaker : {A : Type 0} (P Q : A → Type 0) → ((x : A) → P x → Q x) → (o : Option A) → IfSome o P → IfSome o Q
weaker P Q f None h = tt
weaker P Q f (Some x) h = f x h

pub returns : goal.returns
returns c =
    let told = c.text_of.ensures in
    IfOk-weaker c.parse.result _ _ (λ found some. weaker _ _ (λ time is. (told.0, told.1, is.0 ∙ c.as_str.ensures.value ∙ told.2)) found some) c.parse.ensures.found
