-- Replies of what a command wrote and told.
use Rattle.std.proofs.Common.{◌≡◌, ℕ, Bool, true, List, [], Some, Result, Ok, Err, IfOk, subst}
use Rattle.book_desk_control.specs.declared.replies.Kind.{Kind}
use Rattle.book_desk_answering.specs.Answering.{Ending, IsReply, RepliesBy}
use Rattle.book_desk_answering.specs.declared.replies.Reply.{Reply}

-- where nothing was told and written before, and all that was told was told to its end
pub replies : {E : Type 0} (r : Result Reply E) (k : Kind) (Ends : Ending) (status : ℕ) (whole : Bool) (told tells held holds : List ℕ)
    (Q : Bool → List ℕ → List ℕ → Type 0) → (Q true [] [] → Ends (Some []) (Some tells) (Some []) (Some holds) status)
    → told ≡ [] → held ≡ [] → Q whole told held → IfOk r (λ reply. (whole ≡ true) × IsReply k status holds tells reply) → IfOk r (RepliesBy k Ends)
replies (Ok reply) k Ends status whole told tells held holds Q so none nothing q x =
    let P : List ℕ → Type 0 = λ t. Q true t held in
    let R : List ℕ → Type 0 = λ h. Q true [] h in
    (tells, holds, status, so (subst R nothing (subst P none (subst (λ (b : Bool). Q b told held) x.0 q))), x.1)
replies (Err e) k Ends status whole told tells held holds Q so none nothing q x = tt
