-- Steps of a machine as far as synced copies ask, and the report that a step tells.
use Rattle.std.specs.Prelude.{◌≡◌, ℕ, zero, suc, List, [], ◌∷◌, slice_get, Option, Some}
use Rattle.book_lists.specs.Circles.{CircleOf}
use Rattle.book_lists.specs.Memberships.{Memberships}
use Rattle.book_office_values.specs.declared.offices.Office.{Office}
use Rattle.book_office_sync.specs.declared.messages.Report.{Report}
use Rattle.book_office_sync.specs.declared.messages.Token.{Token}

-- steps of a machine, as far as copies ask
pub record CopySteps : Type 1 where
  pub Call : Type 0
  pub Reply : Type 0
  -- a call that may come: its request is well formed
  pub IsCall : Call → Type 0
  pub Serves : Office → Call → Reply → Office → Type 0
  -- the caller of a call, and the principals to which it belongs
  pub caller : Call → Option (List ℕ)
  pub IsCircle : Memberships → Option (List ℕ) → CircleOf → Type 0
  -- a call for a report on a book, by a token or from the start, with at most so many items, answered by this report
  pub IsReported : Call → Reply → List ℕ → Option Token → Option ℕ → Report → Type 0

module _ (steps : CopySteps) where
  -- the Office that the call at this place finds
  abbrev pub Finds : Office → List steps.Call → List steps.Reply → ℕ → Office → Type 0
  Finds o calls replies zero p = p ≡ o
  Finds o [] replies (suc i) p = ⊥
  Finds o (call ∷ calls) [] (suc i) p = ⊥
  Finds o (call ∷ calls) (reply ∷ replies) (suc i) p = (mid : Office) × steps.Serves o call reply mid × Finds mid calls replies i p

  -- the call at this place finds the Office, and is answered by this report
  pub record IsReportAt (p : Office) (calls : List steps.Call) (replies : List steps.Reply) (i : ℕ) (name : Option (List ℕ)) (b : List ℕ) (token : Option Token) (limit : Option ℕ) (report : Report) : Type 0 where
    pub call : steps.Call
    pub reply : steps.Reply
    pub after : Office
    pub is_call : slice_get calls i ≡ Some call
    pub is_reply : slice_get replies i ≡ Some reply
    pub served : steps.Serves p call reply after
    pub caller : steps.caller call ≡ name
    pub reported : steps.IsReported call reply b token limit report
