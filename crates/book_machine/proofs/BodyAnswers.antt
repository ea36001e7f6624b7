-- What the body stage answers: one answer, and a refusal of its own.
use Rattle.book_machine.proofs.Common.{◌≡◌, ◌⊎◌, inl, inr, ℕ, ◌<◌, ◌≤◌, Bool, true, List, [], ◌∷◌, length, Option, Some, None, Result, Ok, Err, refl, sym, ap, ◌∙◌, subst, arith, AllZip, same_Some, card_fault, CardFault, entries_of, Caller, Nobody, Known, Entry, Submitted, Leaf, Office, Path, is_late, bad_card, IsMembersAnswer, IsChecked, protected_entries_at, IsAclAnswer, IsBodyAnswer, Asked, ReportKind, Refusal}
use Rattle.std.proofs.Common.{suc, slice_get}
use Rattle.std.specs.List.{AllByRecursion, cons_option}
use Rattle.std.proofs.lemmas.List.Elements.{All-from_recursion}
use Rattle.book_lists.specs.ListEdits.{IsFaultless, EntryFault, IsAccepted, IsRefused, entry_of, entry_with}
use Rattle.book_lists.specs.declared.entries.Who.{Who}
use Rattle.book_lists.specs.declared.list_edits.EditFault.{EditFault}
use Rattle.book_lists.specs.declared.list_edits.EditFault.TheVariants.{NoProtectedAceConflict, NoInheritedAceConflict, LimitedNumberOfAces, NotSupportedPrivilege, RecognizedPrincipal}
use Rattle.book_office.specs.Sound.{IsKnownForm, IsSoundList}
use Rattle.book_limits.specs.declared.TheConstants.{MAX_ENTRIES}
use Rattle.book_machine.specs.Stages.{IsKnownWho, list_refusal, IsListAnswer, IsCallerAnswer, IsReportAnswer}
use Rattle.book_machine.specs.declared.asked.Asked.TheVariants as asked
use Rattle.book_machine.specs.declared.messages.Patch.TheVariants as patch
use Rattle.book_machine.specs.declared.messages.ReportKind.TheVariants as report
use Rattle.book_machine.specs.declared.refusals.Refusal.TheVariants as refusal

abbrev Answer : Type 0
Answer = Result (Unit {0}) Refusal

-- ---- one answer to a list
-- a faultless entry has no fault
faultless_not_faulty : (protected : List Entry) (s : Submitted) (fault : EditFault) → IsFaultless protected s → EntryFault protected s fault → ⊥
faultless_not_faulty protected s NoProtectedAceConflict fine is = fine.conflict is
faultless_not_faulty protected s NoInheritedAceConflict fine is = absurd (cc (fine.inherited, is.1))
faultless_not_faulty protected s LimitedNumberOfAces fine is = is
faultless_not_faulty protected s NotSupportedPrivilege fine is = fine.supported is.2
faultless_not_faulty protected s RecognizedPrincipal fine is = fine.recognized is.3

one_entry_fault : (protected : List Entry) (s : Submitted) (a b : EditFault) → EntryFault protected s a → EntryFault protected s b → a ≡ b
one_entry_fault protected s NoProtectedAceConflict NoProtectedAceConflict x y = refl
one_entry_fault protected s NoProtectedAceConflict NoInheritedAceConflict x y = absurd (y.0 x)
one_entry_fault protected s NoProtectedAceConflict LimitedNumberOfAces x y = absurd y
one_entry_fault protected s NoProtectedAceConflict NotSupportedPrivilege x y = absurd (y.0 x)
one_entry_fault protected s NoProtectedAceConflict RecognizedPrincipal x y = absurd (y.0 x)
one_entry_fault protected s NoInheritedAceConflict NoProtectedAceConflict x y = absurd (x.0 y)
one_entry_fault protected s NoInheritedAceConflict NoInheritedAceConflict x y = refl
one_entry_fault protected s NoInheritedAceConflict LimitedNumberOfAces x y = absurd y
one_entry_fault protected s NoInheritedAceConflict NotSupportedPrivilege x y = absurd (cc (x.1, y.1))
one_entry_fault protected s NoInheritedAceConflict RecognizedPrincipal x y = absurd (cc (x.1, y.1))
one_entry_fault protected s LimitedNumberOfAces b x y = absurd x
one_entry_fault protected s NotSupportedPrivilege NoProtectedAceConflict x y = absurd (x.0 y)
one_entry_fault protected s NotSupportedPrivilege NoInheritedAceConflict x y = absurd (cc (x.1, y.1))
one_entry_fault protected s NotSupportedPrivilege LimitedNumberOfAces x y = absurd y
one_entry_fault protected s NotSupportedPrivilege NotSupportedPrivilege x y = refl
one_entry_fault protected s NotSupportedPrivilege RecognizedPrincipal x y = absurd (y.2 x.2)
one_entry_fault protected s RecognizedPrincipal NoProtectedAceConflict x y = absurd (x.0 y)
one_entry_fault protected s RecognizedPrincipal NoInheritedAceConflict x y = absurd (cc (x.1, y.1))
one_entry_fault protected s RecognizedPrincipal LimitedNumberOfAces x y = absurd y
one_entry_fault protected s RecognizedPrincipal NotSupportedPrivilege x y = absurd (x.2 y.2)
one_entry_fault protected s RecognizedPrincipal RecognizedPrincipal x y = refl

accepted_not_refused : (protected : List Entry) (list : List Submitted) (fault : EditFault) → IsAccepted protected list → IsRefused protected list fault → ⊥
accepted_not_refused protected list fault fine (inl long) = let few = fine.0 in let many = long.1 in absurd (omega (arith, few, many))
accepted_not_refused protected list fault fine (inr at) =
    faultless_not_faulty protected at.1.1 fault (fine.1 at.1.0 at.1.1 at.1.2) at.1.3

order : (i j : ℕ) → (i < j) ⊎ ((i ≡ j) ⊎ (j < i))
order i j = search arith

one_fault : (protected : List Entry) (list : List Submitted) (a b : EditFault) → IsRefused protected list a → IsRefused protected list b → a ≡ b
one_fault protected list a b (inl x) (inl y) = x.0 ∙ sym y.0
one_fault protected list a b (inl x) (inr y) = let many = x.1 in let few = y.0 in absurd (omega (arith, many, few))
one_fault protected list a b (inr x) (inl y) = let many = y.1 in let few = x.0 in absurd (omega (arith, many, few))
one_fault protected list a b (inr x) (inr y) = elim (order x.1.0 y.1.0) [
  | inl before ↦ absurd (faultless_not_faulty protected x.1.1 a (y.1.4 x.1.0 x.1.1 before x.1.2) x.1.3)
  | inr later ↦ elim later [
    | inl same ↦
        let entry : x.1.1 ≡ y.1.1 = same_Some _ _ (sym x.1.2 ∙ ap (slice_get list) same ∙ y.1.2) in
        one_entry_fault protected y.1.1 a b (subst (λ s. EntryFault protected s a) entry x.1.3) y.1.3
    | inr after ↦ absurd (faultless_not_faulty protected y.1.1 b (x.1.4 y.1.0 y.1.1 after y.1.2) y.1.3)
  ]
]

one_list_answer : (protected : List Entry) (list : List Submitted) (a b : Answer) → IsListAnswer protected list a → IsListAnswer protected list b → a ≡ b
one_list_answer protected list (Ok u) (Ok v) x y = refl
one_list_answer protected list (Ok u) (Err f) x y = absurd (accepted_not_refused protected list y.0 x y.1)
one_list_answer protected list (Err e) (Ok v) x y = absurd (accepted_not_refused protected list x.0 y x.1)
one_list_answer protected list (Err e) (Err f) x y = ap Err (x.2 ∙ ap list_refusal (one_fault protected list x.0 y.0 x.1 y.1) ∙ sym y.2)

one_checked : (o : Office) (s c d : Submitted) → IsChecked o s c → IsChecked o s d → c ≡ d
one_checked o s c d (inl x) (inl y) = x.1 ∙ sym y.1
one_checked o s c d (inl x) (inr y) = absurd (y.0 x.0)
one_checked o s c d (inr x) (inl y) = absurd (x.0 y.0)
one_checked o s c d (inr x) (inr y) = x.1 ∙ sym y.1

one_checked_list : (o : Office) (list c d : List Submitted) → AllZip (IsChecked o) list c → AllZip (IsChecked o) list d → c ≡ d
one_checked_list o [] [] [] x y = refl
one_checked_list o [] [] (e ∷ d) x y = absurd y
one_checked_list o [] (e ∷ c) d x y = absurd x
one_checked_list o (s ∷ list) [] d x y = absurd x
one_checked_list o (s ∷ list) (e ∷ c) [] x y = absurd y
one_checked_list o (s ∷ list) (e ∷ c) (f ∷ d) x y = λ i. one_checked o s e f x.0 y.0 i ∷ one_checked_list o list c d x.1 y.1 i

-- ---- one answer
one_members_answer : (o : Office) (members : List (List ℕ)) (a b : Answer) → IsMembersAnswer o members a → IsMembersAnswer o members b → a ≡ b
one_members_answer o members (Ok u) (Ok v) x y = refl
one_members_answer o members (Ok u) (Err f) x y = absurd (y.1 x)
one_members_answer o members (Err e) (Ok v) x y = absurd (x.1 y)
one_members_answer o members (Err e) (Err f) x y = ap Err (x.0 ∙ sym y.0)

one_acl_answer : (o : Office) (p : Path) (list : List Submitted) (a b : Answer) → IsAclAnswer o p list a → IsAclAnswer o p list b → a ≡ b
one_acl_answer o p list a b (inl x) (inl y) = x.1 ∙ sym y.1
one_acl_answer o p list a b (inl x) (inr y) = let many = x.0 in let few = y.0 in absurd (omega (arith, many, few))
one_acl_answer o p list a b (inr x) (inl y) = let many = y.0 in let few = x.0 in absurd (omega (arith, many, few))
one_acl_answer o p list a b (inr x) (inr y) =
    let same = one_checked_list o list x.1.0 y.1.0 x.1.1 y.1.1 in
    one_list_answer (protected_entries_at o p) y.1.0 a b (subst (λ c. IsListAnswer (protected_entries_at o p) c a) same x.1.2) y.1.2

one_caller_answer : (o : Office) (caller : Caller) (a b : Answer) → IsCallerAnswer o caller a → IsCallerAnswer o caller b → a ≡ b
one_caller_answer o Nobody a b x y = x ∙ sym y
one_caller_answer o (Known person) (Ok u) (Ok v) x y = refl
one_caller_answer o (Known person) (Ok u) (Err f) x y = absurd (y.1 x)
one_caller_answer o (Known person) (Err e) (Ok v) x y = absurd (x.1 y)
one_caller_answer o (Known person) (Err e) (Err f) x y = ap Err (x.0 ∙ sym y.0)

one_report_answer : (o : Office) (which : ReportKind) (a b : Answer) → IsReportAnswer o which a → IsReportAnswer o which b → a ≡ b
one_report_answer o (report.SyncCollection asks) a b x y = x ∙ sym y
one_report_answer o report.GroupMembers a b x y = x ∙ sym y
one_report_answer o (report.Effective caller) a b x y = one_caller_answer o caller a b x y
one_report_answer o report.Names a b x y = x ∙ sym y

pub one_body_answer : (o : Office) (what : Asked) (p : Path) (a b : Answer) → IsBodyAnswer o what p a → IsBodyAnswer o what p b → a ≡ b
one_body_answer o asked.Get p a b x y = x ∙ sym y
one_body_answer o asked.Head p a b x y = x ∙ sym y
one_body_answer o asked.Options p a b x y = x ∙ sym y
one_body_answer o (asked.Put text) p a b x y = x ∙ sym y
one_body_answer o (asked.Propfind find) p a b x y = x ∙ sym y
one_body_answer o (asked.Proppatch (patch.DisplayName label)) p a b x y = x ∙ sym y
one_body_answer o (asked.Proppatch (patch.GroupMembers members)) p a b x y = one_members_answer o members a b x y
one_body_answer o (asked.Acl list) p a b x y = one_acl_answer o p list a b x y
one_body_answer o (asked.Copy to) p a b x y = x ∙ sym y
one_body_answer o (asked.Move to) p a b x y = x ∙ sym y
one_body_answer o asked.Delete p a b x y = x ∙ sym y
one_body_answer o asked.Mkcol p a b x y = x ∙ sym y
one_body_answer o (asked.Report which) p a b x y = one_report_answer o which a b x y

-- ---- the body is accepted, or refused by a refusal of its own
abbrev IsAnswered : Answer → Type 0
IsAnswered a = (a ≡ Ok tt) ⊎ ((e : Refusal) × (is_late e ≡ true) × (a ≡ Err e))

card_answered : (a : Answer) (fault : Option CardFault) → a ≡ bad_card fault → IsAnswered a
card_answered a None is = inl is
card_answered a (Some f) is = inr (refusal.BadCard f, refl, is)

late_list : (fault : EditFault) → is_late (list_refusal fault) ≡ true
late_list NoProtectedAceConflict = refl
late_list NoInheritedAceConflict = refl
late_list LimitedNumberOfAces = refl
late_list NotSupportedPrivilege = refl
late_list RecognizedPrincipal = refl

members_answered : (o : Office) (members : List (List ℕ)) (a : Answer) → IsMembersAnswer o members a → IsAnswered a
members_answered o members (Ok u) is = inl refl
members_answered o members (Err e) is = inr (refusal.RecognizedPrincipal, refl, ap Err is.0)

list_answered : (protected : List Entry) (list : List Submitted) (a : Answer) → IsListAnswer protected list a → IsAnswered a
list_answered protected list (Ok u) is = inl refl
list_answered protected list (Err e) is = inr (list_refusal is.0, late_list is.0, ap Err is.2)

acl_answered : (o : Office) (p : Path) (list : List Submitted) (a : Answer) → IsAclAnswer o p list a → IsAnswered a
acl_answered o p list a (inl long) = inr (refusal.LimitedNumberOfAces, refl, long.1)
acl_answered o p list a (inr at) = list_answered (protected_entries_at o p) at.1.0 a at.1.2

caller_answered : (o : Office) (caller : Caller) (a : Answer) → IsCallerAnswer o caller a → IsAnswered a
caller_answered o Nobody a is = inl is
caller_answered o (Known person) (Ok u) is = inl refl
caller_answered o (Known person) (Err e) is = inr (refusal.RecognizedPrincipal, refl, ap Err is.0)

report_answered : (o : Office) (which : ReportKind) (a : Answer) → IsReportAnswer o which a → IsAnswered a
report_answered o (report.SyncCollection asks) a is = inl is
report_answered o report.GroupMembers a is = inl is
report_answered o (report.Effective caller) a is = caller_answered o caller a is
report_answered o report.Names a is = inl is

pub body_answered : (o : Office) (what : Asked) (p : Path) (a : Answer) → IsBodyAnswer o what p a → IsAnswered a
body_answered o asked.Get p a is = inl is
body_answered o asked.Head p a is = inl is
body_answered o asked.Options p a is = inl is
body_answered o (asked.Put text) p a is = card_answered a (card_fault text) is
body_answered o (asked.Propfind find) p a is = inl is
body_answered o (asked.Proppatch (patch.DisplayName label)) p a is = inl is
body_answered o (asked.Proppatch (patch.GroupMembers members)) p a is = members_answered o members a is
body_answered o (asked.Acl list) p a is = acl_answered o p list a is
body_answered o (asked.Copy to) p a is = inl is
body_answered o (asked.Move to) p a is = inl is
body_answered o asked.Delete p a is = inl is
body_answered o asked.Mkcol p a is = inl is
body_answered o (asked.Report which) p a is = report_answered o which a is

-- ---- a list that is accepted
abbrev AllKnown : Office → List Entry → Type 0
AllKnown o entries = AllByRecursion (λ (e : Entry). IsKnownForm o e.who) entries

entry_known : (o : Office) (who : Option Who) (set : Option (Leaf → Bool)) (invert deny : Bool) (rest : List Entry)
    → IsKnownWho o who → AllKnown o rest → AllKnown o (cons_option (entry_with who set invert deny) rest)
entry_known o None set invert deny rest known others = others
entry_known o (Some who) None invert deny rest known others = others
entry_known o (Some who) (Some set) invert deny rest known others = (known, others)

checked_known : (o : Office) (protected : List Entry) (s c : Submitted) → IsChecked o s c → IsFaultless protected c → IsKnownWho o s.who
checked_known o protected s c (inl x) fine = x.0
checked_known o protected s c (inr x) fine = absurd (fine.recognized (ap (λ (t : Submitted). t.who) x.1))

entries_known : (o : Office) (protected : List Entry) (list checked : List Submitted) → AllZip (IsChecked o) list checked
    → ((i : ℕ) (s : Submitted) → slice_get checked i ≡ Some s → IsFaultless protected s) → AllKnown o (entries_of list)
entries_known o protected [] [] zip fine = tt
entries_known o protected [] (c ∷ checked) zip fine = absurd zip
entries_known o protected (s ∷ list) [] zip fine = absurd zip
entries_known o protected (s ∷ list) (c ∷ checked) zip fine =
    entry_known o s.who s.set s.invert s.deny (entries_of list) (checked_known o protected s c zip.0 (fine 0 c refl))
    (entries_known o protected list checked zip.1 (λ i t is. fine (suc i) t is))

few_options : (e : Option Entry) (entries : List Entry) (n : ℕ) → length entries ≤ n → length (cons_option e entries) ≤ suc n
few_options None entries n few = omega (arith, few)
few_options (Some e) entries n few = omega (arith, few)

few_entries : (list : List Submitted) → length (entries_of list) ≤ length list
few_entries [] = omega arith
few_entries (s ∷ list) = few_options (entry_of s) (entries_of list) (length list) (few_entries list)

pub accepted_list : (o : Office) (p : Path) (list : List Submitted) → IsAclAnswer o p list (Ok tt) → IsSoundList o (entries_of list)
accepted_list o p list (inl long) = absurd (cc (long.1))
accepted_list o p list (inr at) = record {
  few = let few = at.0 in let fewer = few_entries list in omega (arith, few, fewer);
  known = All-from_recursion (λ (e : Entry). IsKnownForm o e.who) (entries_of list) (entries_known o (protected_entries_at o p) list at.1.0 at.1.1 at.1.2.1);
}

-- a list that was checked
pub acl_checked : (o : Office) (p : Path) (list checked : List Submitted) (protected : List Entry) (answer : Answer) → length list ≤ MAX_ENTRIES
    → AllZip (IsChecked o) list checked → protected ≡ protected_entries_at o p → IsListAnswer protected checked answer → IsAclAnswer o p list answer
acl_checked o p list checked protected answer few zip is answers = inr (few, (checked, zip, subst (λ ps. IsListAnswer ps checked answer) is answers))
