-- A synced copy is the readable book, in any run of steps.
use Rattle.std.proofs.Common.{◌<◌}
use Rattle.book_lists.specs.Memberships.{Memberships}
use Rattle.book_office_sync.proofs.Common.{◌≡◌, ℕ, ◌≤◌, zero, suc, inl, inr, true, false, ◌&&◌, List, [], ◌∷◌, drop, Option, Some, None, option_and_then, refl, sym, ap, ◌∙◌, subst, arith, ◌==◌, if◌then◌else◌, get, nat_tests, CircleOf, NamesTo, Book, Office, Right, Kept, Later, sync, is_valid, report, start_of, patch, Seen, Token}
use Rattle.std.proofs.Common.{nat_le}
use Rattle.std.specs.FinMap.{empty}
use Rattle.std.specs.Str.{bytes_eq}
use Rattle.std.proofs.lemmas.Bool.{eqb-true, and_parts}
use Rattle.std.proofs.lemmas.Option.{same_Some}
use Rattle.book_office.specs.Sound.{IsSound}
use Rattle.book_office_sync.specs.Copies.{IsView, sync_of}
use Rattle.book_office_sync.specs.SyncedRuns.{CopySteps, Finds, IsReportAt}
use Rattle.book_office_sync.specs.declared.messages.Report.{Report}
use Rattle.book_office_values.proofs.OneName.{some_apart}
use Rattle.book_office_sync.proofs.CopiesKept.{later_refl, later_trans}
use Rattle.book_office_sync.proofs.ReportLaws.{follows, begins, token_within}

at_most : (a b : ℕ) → nat_le a b ≡ true → a ≤ b
at_most a b e = grind (arith, nat_tests)

-- the report of a sync request, with the book and what makes the token valid
pub record Told (o : Office) (circle : CircleOf) (b : List ℕ) (token : Option Token) (limit : Option ℕ) (r : Report) : Type 0 where
  pub book : Book
  pub at : get o.books b ≡ Some book
  pub valid : is_valid o b book token ≡ true
  pub is : r ≡ report o circle b book token limit

told_by : (o : Office) (circle : CircleOf) (b : List ℕ) (token : Option Token) (limit : Option ℕ) (r : Report) (found : Option Book) → get o.books b ≡ found
    → option_and_then (sync_of o circle b token limit) found ≡ Some r → Told o circle b token limit r
told_by o circle b token limit r None at e = some_apart (sym e)
told_by o circle b token limit r (Some book) at e =
    elim (is_valid o b book token) as (λ t. is_valid o b book token ≡ t → (if t then Some (report o circle b book token limit) else None) ≡ Some r → Told o circle b token limit r) [
      | true ↦ λ valid h. record { book = book; at = at; valid = valid; is = sym (same_Some _ _ h) }
      | false ↦ λ _ h. some_apart (sym h)
    ] refl e

pub told : (o : Office) (circle : CircleOf) (b : List ℕ) (token : Option Token) (limit : Option ℕ) (r : Report) → sync o circle b token limit ≡ Some r → Told o circle b token limit r
told o circle b token limit r e = told_by o circle b token limit r (get o.books b) refl e

-- a valid token names a number that the book has reached
start_within : (o : Office) (b : List ℕ) (book : Book) (token : Option Token) → is_valid o b book token ≡ true → start_of token ≤ book.changes.number
start_within o b book None e = omega arith
start_within o b book (Some token) e =
    at_most token.number book.changes.number (and_parts (bytes_eq token.book b && token.epoch == o.epoch) (nat_le token.number book.changes.number) e).1

pub valid_epoch : (o : Office) (b : List ℕ) (book : Book) (token : Token) → is_valid o b book (Some token) ≡ true → token.epoch ≡ o.epoch
valid_epoch o b book token e =
    eqb-true token.epoch o.epoch (and_parts (bytes_eq token.book b) (token.epoch == o.epoch) (and_parts (bytes_eq token.book b && token.epoch == o.epoch) (nat_le token.number book.changes.number) e).0).1

-- a report of an Office and a later one by its token
module _ (p q : Office) (circle : CircleOf) (b : List ℕ) (x y : Book) (token : Option Token) (limit most : Option ℕ)
    (later : Later p q) (there : get p.books b ≡ Some x) (now : get q.books b ≡ Some y) where
  abbrev first : Report
  first = report p circle b x token limit

  same_epoch : is_valid q b y (Some first.token) ≡ true → q.epoch ≡ p.epoch
  same_epoch valid = sym (valid_epoch q b y first.token valid)

  still : is_valid q b y (Some first.token) ≡ true → Kept p q
  still valid = let same = same_epoch valid in elim later [ inl h ↦ absurd (omega (arith, h, same)) | inr h ↦ h.1 ]

  follow : IsSound p → IsSound q → is_valid p b x token ≡ true → (valid : is_valid q b y (Some first.token) ≡ true) → (copy : NamesTo Seen) → Right copy p circle b first.token.number
      → Right (patch copy (report q circle b y (Some first.token) most).items) q circle b (report q circle b y (Some first.token) most).token.number
      × ((report q circle b y (Some first.token) most).truncated ≡ false → IsView (patch copy (report q circle b y (Some first.token) most).items) q circle b)
  follow sound sound' asked valid =
      follows p q circle first.token x y most later (same_epoch valid) there now
      (token_within p b x there (sound.books b x there).1 circle token limit (start_within p b x token asked))
      (sound'.books b y now).1

-- each step leads on, and a report tells the Office that it finds
pub record AreSteps (steps : CopySteps) : Type 0 where
  pub leads_on : (o p : Office) (call : steps.Call) (reply : steps.Reply) → IsSound o → steps.IsCall call → steps.Serves o call reply p → IsSound p × Later o p
  pub one_circle : (pairs : Memberships) (name : Option (List ℕ)) (c d : CircleOf) → steps.IsCircle pairs name c → steps.IsCircle pairs name d → c ≡ d
  pub reported : (o p : Office) (call : steps.Call) (reply : steps.Reply) (b : List ℕ) (token : Option Token) (limit : Option ℕ) (report : Report)
      → steps.Serves o call reply p → steps.IsReported call reply b token limit report
      → (circle : CircleOf) × steps.IsCircle o.pairs (steps.caller call) circle × (sync o circle b token limit ≡ Some report)

module _ (steps : CopySteps) where
  abbrev pub AreCalls : List steps.Call → Type 0
  AreCalls [] = Unit {0}
  AreCalls (call ∷ calls) = steps.IsCall call × AreCalls calls

  -- a report by the token of an earlier one, to the same caller: what was right by the earlier is right by the later, and after one that isn't truncated it is the View
  abbrev pub CopiesFollow : Type 0
  CopiesFollow = (o p q : Office) (calls : List steps.Call) (replies : List steps.Reply) (i k : ℕ) (name : Option (List ℕ)) (b : List ℕ)
      (token : Option Token) (limit most : Option ℕ) (first second : Report)
      → IsSound o → AreCalls calls → Finds steps o calls replies i p → Finds steps p (drop i calls) (drop i replies) (suc k) q
      → IsReportAt steps p calls replies i name b token limit first → IsReportAt steps q (drop i calls) (drop i replies) (suc k) name b (Some first.token) most second
      → (circle : CircleOf) × steps.IsCircle p.pairs name circle × steps.IsCircle q.pairs name circle
      × ((copy : NamesTo Seen) → Right copy p circle b first.token.number
      → Right (patch copy second.items) q circle b second.token.number × (second.truncated ≡ false → IsView (patch copy second.items) q circle b))

  -- an initial report: the empty copy patched by it
  abbrev pub CopiesBegin : Type 0
  CopiesBegin = (o p : Office) (calls : List steps.Call) (replies : List steps.Reply) (i : ℕ) (name : Option (List ℕ)) (b : List ℕ) (limit : Option ℕ) (report : Report)
      → IsSound o → AreCalls calls → Finds steps o calls replies i p → IsReportAt steps p calls replies i name b None limit report
      → (circle : CircleOf) × steps.IsCircle p.pairs name circle
      × Right (patch empty report.items) p circle b report.token.number × (report.truncated ≡ false → IsView (patch empty report.items) p circle b)

  -- a token of an earlier report names no later epoch: where access changed since, no report is told by it
  abbrev pub TokensEnd : Type 0
  TokensEnd = (o p q : Office) (calls : List steps.Call) (replies : List steps.Reply) (i k : ℕ) (name other : Option (List ℕ)) (b : List ℕ)
      (token : Option Token) (limit most : Option ℕ) (first second : Report)
      → IsSound o → AreCalls calls → Finds steps o calls replies i p → Finds steps p (drop i calls) (drop i replies) (suc k) q
      → IsReportAt steps p calls replies i name b token limit first → p.epoch < q.epoch
      → IsReportAt steps q (drop i calls) (drop i replies) (suc k) other b (Some first.token) most second → ⊥

module _ (steps : CopySteps) (are : AreSteps steps) where
  -- a run leads to a later Office, and a sound one
  pub finds_later : (o p : Office) (calls : List steps.Call) (replies : List steps.Reply) (i : ℕ) → IsSound o → AreCalls steps calls → Finds steps o calls replies i p → IsSound p × Later o p
  finds_later o p calls replies zero sound fine is = (subst IsSound (sym is) sound, subst (Later o) (sym is) (later_refl o))
  finds_later o p [] replies (suc i) sound fine is = absurd is
  finds_later o p (call ∷ calls) [] (suc i) sound fine is = absurd is
  finds_later o p (call ∷ calls) (reply ∷ replies) (suc i) sound fine is =
      let step = are.leads_on o is.0 call reply sound fine.0 is.1 in
      let rest = finds_later is.0 p calls replies i step.0 fine.1 is.2 in
      (rest.0, later_trans o is.0 p step.1 rest.1)

  -- the calls from a place on
  calls_from : (calls : List steps.Call) (i : ℕ) → AreCalls steps calls → AreCalls steps (drop i calls)
  calls_from calls zero fine = fine
  calls_from [] (suc i) fine = tt
  calls_from (call ∷ calls) (suc i) fine = calls_from calls i fine.1

  -- the report that a call at a place is told
  told_at : (p : Office) (calls : List steps.Call) (replies : List steps.Reply) (i : ℕ) (name : Option (List ℕ)) (b : List ℕ) (token : Option Token) (limit : Option ℕ) (r : Report)
      → IsReportAt steps p calls replies i name b token limit r → (circle : CircleOf) × steps.IsCircle p.pairs name circle × Told p circle b token limit r
  told_at p calls replies i name b token limit r h =
      let s = are.reported p h.after h.call h.reply b token limit r h.served h.reported in
      (s.0, subst (λ n. steps.IsCircle p.pairs n s.0) h.caller s.1, told p s.0 b token limit r s.2)

  pub copies_follow : CopiesFollow steps
  copies_follow o p q calls replies i k name b token limit most first second sound fine finds onwards a c =
      let before = finds_later o p calls replies i sound fine finds in
      let after = finds_later p q (drop i calls) (drop i replies) (suc k) before.0 (calls_from calls i fine) onwards in
      let s = told_at p calls replies i name b token limit first a in
      let circle = s.0 in
      let t = s.2 in
      let u = told_at q (drop i calls) (drop i replies) (suc k) name b (Some first.token) most second c in
      let d = u.0 in
      let v = u.2 in
      let valid : is_valid q b v.book (Some (report p circle b t.book token limit).token) ≡ true = subst (λ (f : Report). is_valid q b v.book (Some f.token) ≡ true) t.is v.valid in
      let pairs = (still p q circle b t.book v.book token limit most after.1 t.at v.at valid).pairs in
      let one : d ≡ circle = are.one_circle p.pairs name d circle (subst (λ m. steps.IsCircle m name d) pairs u.1) s.1 in
      let is : second ≡ report q circle b v.book (Some (report p circle b t.book token limit).token) most =
      v.is ∙ (λ j. report q (one j) b v.book (Some (t.is j).token) most) in (
        circle,
        s.1,
        subst (λ m. steps.IsCircle m name circle) (sym pairs) s.1,
        subst (λ (f : Report). (copy : NamesTo Seen) → Right copy p circle b f.token.number
            → Right (patch copy second.items) q circle b second.token.number × (second.truncated ≡ false → IsView (patch copy second.items) q circle b)) (sym t.is)
            (subst (λ (r : Report). (copy : NamesTo Seen) → Right copy p circle b (report p circle b t.book token limit).token.number
            → Right (patch copy r.items) q circle b r.token.number × (r.truncated ≡ false → IsView (patch copy r.items) q circle b)) (sym is)
            (follow p q circle b t.book v.book token limit most after.1 t.at v.at before.0 after.0 t.valid valid)),
      )

  pub copies_begin : CopiesBegin steps
  copies_begin o p calls replies i name b limit report' sound fine finds a =
      let before = finds_later o p calls replies i sound fine finds in
      let s = told_at p calls replies i name b None limit report' a in
      let t = s.2 in
      let made = begins p s.0 b t.book limit t.at (before.0.books b t.book t.at).1 in (
        s.0,
        s.1,
        subst (λ (r : Report). Right (patch empty r.items) p s.0 b r.token.number) (sym t.is) made.0,
        subst (λ (r : Report). r.truncated ≡ false → IsView (patch empty r.items) p s.0 b) (sym t.is) made.1,
      )

  pub tokens_end : TokensEnd steps
  tokens_end o p q calls replies i k name other b token limit most first second sound fine finds onwards a more c =
      let s = told_at p calls replies i name b token limit first a in
      let t = s.2 in
      let u = told_at q (drop i calls) (drop i replies) (suc k) other b (Some first.token) most second c in
      let v = u.2 in
      let now : first.token.epoch ≡ q.epoch = valid_epoch q b v.book first.token v.valid in
      let was : first.token.epoch ≡ p.epoch = ap (λ (f : Report). f.token.epoch) t.is in
      absurd (omega arith)
