-- What the machine does for one request before its verdict, and after it.
use Rattle.std.specs.Prelude.{◌≡◌, ◌⊎◌, ℕ, ◌+◌, ◌<◌, ◌≤◌, length, Bool, true, false, ◌&&◌, ◌||◌, List, map, All, nat_lt, is_some, Option, Some, None, option_map, MatchOption, Result, Ok, Err, if◌then◌else◌}
use Rattle.std.specs.Option.{option_map_or}
use Rattle.std.specs.FinMap.{get}
use Rattle.std.specs.List.{AllZip}
use Rattle.std.specs.Str.{bytes_eq}
use Rattle.book_cards.specs.CardText.{card_fault}
use Rattle.book_cards.specs.declared.fault.CardFault.{CardFault}
use Rattle.book_office_members.specs.declared.members.Members.{Members}
use Rattle.book_lists.specs.Callers.{IsCircle}
use Rattle.book_lists.specs.Circles.{CircleOf}
use Rattle.book_lists.specs.declared.circles.Caller.{Caller}
use Rattle.book_lists.specs.declared.circles.Caller.TheVariants.{Nobody, Known}
use Rattle.book_lists.specs.ListEdits.{IsAccepted, IsRefused, entries_of}
use Rattle.book_lists.specs.Principals.{person_path, group_path}
use Rattle.book_lists.specs.declared.entries.Entry.{Entry}
use Rattle.book_lists.specs.declared.entries.Who.{Who}
use Rattle.book_lists.specs.declared.list_edits.EditFault.{EditFault}
use Rattle.book_lists.specs.declared.list_edits.EditFault.TheVariants as fault
use Rattle.book_lists.specs.declared.submitted.Submitted.{Submitted}
use Rattle.book_office.specs.declared.edits.Edit.{Edit}
use Rattle.book_office.specs.declared.edits.Edit.TheVariants.{PutCard, RemoveCard, CopyCard, MoveCard, AddBook, RemoveBook, SetLabel, SetList, SetMembers}
use Rattle.book_office.specs.declared.nodes.EffectiveEntry.{EffectiveEntry}
use Rattle.book_office.specs.declared.nodes.Node.{Node}
use Rattle.book_limits.specs.declared.TheConstants.{MAX_ENTRIES, MAX_CARDS, MAX_BOOKS, LAST_NUMBER}
use Rattle.book_office_values.specs.declared.offices.Office.{Office}
use Rattle.book_office_values.specs.declared.paths.Kind.{Kind}
use Rattle.book_office_values.specs.declared.paths.Kind.TheVariants as kind
use Rattle.book_office_values.specs.declared.paths.Path.{Path}
use Rattle.book_office_values.specs.declared.paths.Path.TheVariants as path
use Rattle.book_office_values.specs.Paths.{kind_of, is_kind}
use Rattle.book_office_members.specs.Members.{AreMembersAt}
use Rattle.book_office_members.specs.Names.{AreNamesAt}
use Rattle.book_office_members.specs.declared.names.NamedCard.{NamedCard}
use Rattle.book_office.specs.OwnLists.{protected_in_force}
use Rattle.book_office.specs.Resources.{node_at, count_at, unnumbered}
use Rattle.book_office.specs.Sound.{IsMapped, IsKnownForm}
use Rattle.book_office_listings.specs.Listings.{AreResponses}
use Rattle.book_office_listings.specs.declared.messages.Find.{Find}
use Rattle.book_office_listings.specs.declared.messages.Response.{Response}
use Rattle.book_rights.specs.declared.methods.Method.{Method}
use Rattle.book_rights.specs.declared.methods.Method.TheVariants as method
use Rattle.book_office_listings.specs.Rulings.{AreRulingsAt}
use Rattle.book_office_listings.specs.declared.messages.Ruling.{Ruling}
use Rattle.book_office_sync.specs.Copies.{sync}
use Rattle.book_office_sync.specs.declared.messages.Report.{Report}
use Rattle.book_machine.specs.AllowedMethods.{allowed_of, goes_on}
use Rattle.book_machine.specs.Asked.{asked_of, destination_in, destination_path}
use Rattle.book_machine.specs.declared.allowed_methods.AllowedMethods.TheVariants.{OfNewBook, OfNewCard}
use Rattle.book_machine.specs.declared.asked.Asked.{Asked}
use Rattle.book_machine.specs.declared.asked.Asked.TheVariants as asked
use Rattle.book_machine.specs.declared.asked.Destination.{Destination}
use Rattle.book_machine.specs.declared.messages.Content.{Content}
use Rattle.book_machine.specs.declared.messages.Content.TheVariants as content
use Rattle.book_machine.specs.declared.messages.Patch.{Patch}
use Rattle.book_machine.specs.declared.messages.Patch.TheVariants as patch
use Rattle.book_machine.specs.declared.messages.ReportKind.{ReportKind}
use Rattle.book_machine.specs.declared.messages.ReportKind.TheVariants as report
use Rattle.book_machine.specs.declared.messages.Request.{Request}
use Rattle.book_machine.specs.declared.messages.SyncFrom.{SyncFrom}
use Rattle.book_machine.specs.declared.messages.SyncRequest.{SyncRequest}
use Rattle.book_machine.specs.declared.messages.SyncFrom.TheVariants.{Start, After, Unknown}
use Rattle.book_machine.specs.declared.plans.Plan.{Plan}
use Rattle.book_machine.specs.Named.{path_card, path_book, path_group}
use Rattle.book_machine.specs.Targets.{Ready, Target}
use Rattle.book_machine.specs.declared.refusals.Refusal.{Refusal}
use Rattle.book_machine.specs.declared.refusals.Refusal.TheVariants.{UnknownCaller, BadCard, NoProtectedAceConflict, NoInheritedAceConflict, LimitedNumberOfAces, NotSupportedPrivilege, RecognizedPrincipal, ValidSyncToken, NotFound, NotAllowed, NoParent, Overwrite, Full}

-- a stage after one that may refuse
infixl 10 ◌>>=◌
abbrev pub ◌>>=◌ : {A B : Type 0} → Result A Refusal → (A → Result B Refusal) → Result B Refusal
Ok a >>= f = f a
Err e >>= f = Err e

-- refuses where the test fails
abbrev pub check : Bool → Refusal → Result (Unit {0}) Refusal
check true e = Ok tt
check false e = Err e

-- the caller: nobody, or the person of that name
abbrev pub caller_of : Office → Option (List ℕ) → Result Caller Refusal
caller_of o None = Ok Nobody
caller_of o (Some name) = if is_some (get o.persons name) then Ok (Known (person_path name)) else Err UnknownCaller

-- PUT goes on at the path of a card that is not there, where its book is there
abbrev pub new_card : Office → Path → Result (Unit {0}) Refusal
new_card o p = option_map_or (λ b. Err (NotAllowed OfNewBook)) (path_book p)
    (option_map_or (λ card. check (is_some (get o.books card.0)) NoParent) (path_card p) (Err NotFound))

-- MKCOL goes on at the path of a book that is not there
abbrev pub new_book_at : Office → Path → Result (Unit {0}) Refusal
new_book_at o p = option_map_or (λ b. Ok tt) (path_book p)
    (option_map_or (λ card. check (is_some (get o.books card.0)) NoParent >>= λ _. Err (NotAllowed OfNewCard)) (path_card p) (Err NotFound))

abbrev pub at_unmapped : Office → Method → Path → Result (Unit {0}) Refusal
at_unmapped o method.Get p = Err NotFound
at_unmapped o method.Head p = Err NotFound
at_unmapped o method.Options p = Err NotFound
at_unmapped o method.Put p = new_card o p
at_unmapped o method.Propfind p = Err NotFound
at_unmapped o method.Proppatch p = Err NotFound
at_unmapped o method.Acl p = Err NotFound
at_unmapped o method.Copy p = Err NotFound
at_unmapped o method.Move p = Err NotFound
at_unmapped o method.Delete p = Err NotFound
at_unmapped o method.Mkcol p = new_book_at o p
at_unmapped o method.Report p = Err NotFound

-- the path: the target, with what is mapped there
abbrev pub at_node : Office → Method → Path → Option Node → Result Target Refusal
at_node o m p None = at_unmapped o m p >>= λ _. Ok (record { path = p; node = None; replaces = false })
at_node o m p (Some node) = check (goes_on m node.kind) (NotAllowed (allowed_of node.kind)) >>= λ _. Ok (record { path = p; node = Some node; replaces = false })

-- no number is told of the target: no stage, and no reply, rests on it
abbrev pub target_of : Office → Method → Option Path → Result Target Refusal
target_of o m None = Err NotFound
target_of o m (Some p) = at_node o m p (option_map unnumbered (node_at o p))

-- what is asked is asked of a resource of this kind: members are set of a group, the reports on changes and on names are
-- of a book, and the members that a report tells are those of a card
abbrev pub patch_suits : Patch → Kind → Bool
patch_suits (patch.DisplayName label) k = true
patch_suits (patch.GroupMembers members) k = is_kind kind.Group k

abbrev pub report_suits : ReportKind → Kind → Bool
report_suits (report.SyncCollection asks) k = is_kind kind.Book k
report_suits report.GroupMembers k = is_kind kind.Card k
report_suits (report.Effective caller) k = true
report_suits report.Names k = is_kind kind.Book k

abbrev pub suits : Asked → Kind → Bool
suits asked.Get k = true
suits asked.Head k = true
suits asked.Options k = true
suits (asked.Put text) k = true
suits (asked.Propfind find) k = true
suits (asked.Proppatch p) k = patch_suits p k
suits (asked.Acl list) k = true
suits (asked.Copy to) k = true
suits (asked.Move to) k = true
suits asked.Delete k = true
suits asked.Mkcol k = true
suits (asked.Report which) k = report_suits which k

abbrev pub suits_target : Asked → Target → Result (Unit {0}) Refusal
suits_target a target = check (suits a (kind_of target.path)) (NotAllowed (allowed_of (kind_of target.path)))

-- what is mapped may be replaced, or nothing is mapped (RFC 4918, section 10.6)
abbrev pub replaceable : Bool → Bool → Result Bool Refusal
replaceable overwrite false = Ok false
replaceable overwrite true = check overwrite Overwrite >>= λ _. Ok true

-- whether something is mapped at the destination of COPY and MOVE, whose book is there (RFC 4918, section 9.8.5); other methods have none
abbrev pub destination_of : Office → Option Destination → Result Bool Refusal
destination_of o None = Ok false
destination_of o (Some to) = check (is_some (get o.books to.book)) NoParent >>= λ _. replaceable to.overwrite (is_some (node_at o (destination_path to)))

-- the stages before the verdict
abbrev pub ready_of : Office → Option (List ℕ) → Request → Result Ready Refusal
ready_of o name request =
    caller_of o name >>= λ caller.
    asked_of request.method request >>= λ asked.
    target_of o request.method request.path >>= λ target.
    suits_target asked target >>= λ _.
    destination_of o (destination_in asked) >>= λ replaces.
    Ok (record { caller = caller; asked = asked; target = record target { replaces = replaces } })

-- the body: the text of a card that is put is a card
abbrev pub bad_card : Option CardFault → Result (Unit {0}) Refusal
bad_card None = Ok tt
bad_card (Some fault) = Err (BadCard fault)

-- each principal of a member list is there (RFC 3744, section 8.1.1)
abbrev pub IsMembersAnswer : Office → List (List ℕ) → Result (Unit {0}) Refusal → Type 0
IsMembersAnswer o members (Ok u) = All (IsMapped o) members
IsMembersAnswer o members (Err e) = (e ≡ RecognizedPrincipal) × (All (IsMapped o) members → ⊥)

abbrev pub IsPatchAnswer : Office → Patch → Result (Unit {0}) Refusal → Type 0
IsPatchAnswer o (patch.DisplayName label) answer = answer ≡ Ok tt
IsPatchAnswer o (patch.GroupMembers members) answer = IsMembersAnswer o members answer

-- an entry as it is checked: without a form where its form names a principal that is not there
abbrev pub IsKnownWho : Office → Option Who → Type 0
IsKnownWho o None = Unit {0}
IsKnownWho o (Some who) = IsKnownForm o who

abbrev pub IsChecked : Office → Submitted → Submitted → Type 0
IsChecked o submitted checked = (IsKnownWho o submitted.who × (checked ≡ submitted))
    ⊎ ((IsKnownWho o submitted.who → ⊥) × (checked ≡ record submitted { who = None }))

-- the names of the faults of a list (RFC 3744, section 8.1.1)
abbrev pub list_refusal : EditFault → Refusal
list_refusal fault.NoProtectedAceConflict = NoProtectedAceConflict
list_refusal fault.NoInheritedAceConflict = NoInheritedAceConflict
list_refusal fault.LimitedNumberOfAces = LimitedNumberOfAces
list_refusal fault.NotSupportedPrivilege = NotSupportedPrivilege
list_refusal fault.RecognizedPrincipal = RecognizedPrincipal

abbrev pub IsListAnswer : List Entry → List Submitted → Result (Unit {0}) Refusal → Type 0
IsListAnswer protected list (Ok u) = IsAccepted protected list
IsListAnswer protected list (Err e) = (fault : EditFault) × IsRefused protected list fault × (e ≡ list_refusal fault)

-- the protected entries in force at a resource: its own, and those of all above it
abbrev pub protected_entries_at : Office → Path → List Entry
protected_entries_at o p = map (λ (e : EffectiveEntry). e.entry) (protected_in_force o p)

-- a list that is too long is refused before its principals are looked up; another has no fault where these protected entries are in force
abbrev pub IsAclAnswer : Office → Path → List Submitted → Result (Unit {0}) Refusal → Type 0
IsAclAnswer o p list answer = ((MAX_ENTRIES < length list) × (answer ≡ Err LimitedNumberOfAces))
    ⊎ ((length list ≤ MAX_ENTRIES) × ((checked : List Submitted) × AllZip (IsChecked o) list checked × IsListAnswer (protected_entries_at o p) checked answer))

-- who is asked about is nobody, or a principal that is there (RFC 3744, section 8.1.1)
abbrev pub IsCallerAnswer : Office → Caller → Result (Unit {0}) Refusal → Type 0
IsCallerAnswer o Nobody answer = answer ≡ Ok tt
IsCallerAnswer o (Known person) (Ok u) = IsMapped o person
IsCallerAnswer o (Known person) (Err e) = (e ≡ RecognizedPrincipal) × (IsMapped o person → ⊥)

abbrev pub IsReportAnswer : Office → ReportKind → Result (Unit {0}) Refusal → Type 0
IsReportAnswer o (report.SyncCollection asks) answer = answer ≡ Ok tt
IsReportAnswer o report.GroupMembers answer = answer ≡ Ok tt
IsReportAnswer o (report.Effective caller) answer = IsCallerAnswer o caller answer
IsReportAnswer o report.Names answer = answer ≡ Ok tt

-- what the body stage answers; bodies of the other methods have passed
abbrev pub IsBodyAnswer : Office → Asked → Path → Result (Unit {0}) Refusal → Type 0
IsBodyAnswer o asked.Get p answer = answer ≡ Ok tt
IsBodyAnswer o asked.Head p answer = answer ≡ Ok tt
IsBodyAnswer o asked.Options p answer = answer ≡ Ok tt
IsBodyAnswer o (asked.Put text) p answer = answer ≡ bad_card (card_fault text)
IsBodyAnswer o (asked.Propfind find) p answer = answer ≡ Ok tt
IsBodyAnswer o (asked.Proppatch patched) p answer = IsPatchAnswer o patched answer
IsBodyAnswer o (asked.Acl list) p answer = IsAclAnswer o p list answer
IsBodyAnswer o (asked.Copy to) p answer = answer ≡ Ok tt
IsBodyAnswer o (asked.Move to) p answer = answer ≡ Ok tt
IsBodyAnswer o asked.Delete p answer = answer ≡ Ok tt
IsBodyAnswer o asked.Mkcol p answer = answer ≡ Ok tt
IsBodyAnswer o (asked.Report which) p answer = IsReportAnswer o which answer

-- the limits: the number of a book can rise
abbrev pub can_change : Option Node → Bool
can_change None = false
can_change (Some book) = nat_lt book.number LAST_NUMBER

-- PUT: the number of the book can rise, and it has room for one more card where one is added
abbrev pub put_limits : Office → Path → Bool → Bool
put_limits o p mapped =
    option_map_or (λ card. can_change (node_at o (path.Book card.0)) && (mapped || nat_lt (count_at o (path.Book card.0)) MAX_CARDS)) (path_card p) true

-- DELETE: the number of the card's book can rise, and where a book is removed the epoch
abbrev pub delete_limits : Office → Path → Bool
delete_limits o p = option_map_or (λ b. nat_lt o.epoch LAST_NUMBER) (path_book p)
    (option_map_or (λ card. can_change (node_at o (path.Book card.0))) (path_card p) true)

-- PROPPATCH: a card's label takes a number of its book; members raise the epoch
abbrev pub label_limits : Office → Path → Bool
label_limits o p = option_map_or (λ card. can_change (node_at o (path.Book card.0))) (path_card p) true

abbrev pub patch_limits : Office → Patch → Path → Bool
patch_limits o (patch.DisplayName label) p = label_limits o p
patch_limits o (patch.GroupMembers members) p = nat_lt o.epoch LAST_NUMBER

-- COPY puts a card at the destination
abbrev pub copy_limits : Office → Destination → Bool → Bool
copy_limits o to taken = put_limits o (destination_path to) taken

-- the number of a book can rise twice
abbrev pub can_change_twice : Option Node → Bool
can_change_twice None = false
can_change_twice (Some book) = nat_lt (book.number + 1) LAST_NUMBER

-- MOVE: within a book it takes two numbers, and adds no card; else the number of the source's book can rise too
abbrev pub moved_limits : Office → List ℕ → Destination → Bool → Bool
moved_limits o b to taken =
    if bytes_eq b to.book then can_change_twice (node_at o (path.Book b)) else can_change (node_at o (path.Book b)) && copy_limits o to taken

abbrev pub move_limits : Office → Path → Destination → Bool → Bool
move_limits o p to taken = option_map_or (λ card. moved_limits o card.0 to taken) (path_card p) true

-- by what is asked of a path, whether it is mapped, and whether the name at the destination is taken
abbrev pub keeps_limits : Office → Asked → Path → Bool → Bool → Bool
keeps_limits o asked.Get p mapped taken = true
keeps_limits o asked.Head p mapped taken = true
keeps_limits o asked.Options p mapped taken = true
keeps_limits o (asked.Put text) p mapped taken = put_limits o p mapped
keeps_limits o (asked.Propfind find) p mapped taken = true
keeps_limits o (asked.Proppatch patched) p mapped taken = patch_limits o patched p
keeps_limits o (asked.Acl list) p mapped taken = nat_lt o.epoch LAST_NUMBER
keeps_limits o (asked.Copy to) p mapped taken = copy_limits o to taken
keeps_limits o (asked.Move to) p mapped taken = move_limits o p to taken
keeps_limits o asked.Delete p mapped taken = delete_limits o p
keeps_limits o asked.Mkcol p mapped taken = nat_lt (count_at o path.Books) MAX_BOOKS
keeps_limits o (asked.Report which) p mapped taken = true

abbrev pub limits_of : Office → Asked → Target → Result (Unit {0}) Refusal
limits_of o a target = check (keeps_limits o a target.path (is_some target.node) target.replaces) Full

-- who owns what is made
abbrev pub owner_of : Caller → Option (List ℕ)
owner_of Nobody = None
owner_of (Known person) = Some person

-- success: the reply, and the edit that is to be made
abbrev pub replied : ℕ → Content → Option Edit → Plan
replied status what edit = record { reply = record { status = status; content = what }; edit = edit }

-- the text of the card that is asked for
abbrev pub text_told : Option (List ℕ) → Result (List ℕ) Refusal
text_told None = Err NotFound
text_told (Some text) = Ok text

abbrev pub text_of : Option Node → Result (List ℕ) Refusal
text_of None = Err NotFound
text_of (Some node) = text_told node.text

-- by whether a card is replaced
abbrev pub put_status : Bool → ℕ
put_status false = 201
put_status true = 204

abbrev pub put_edit : Caller → List ℕ → Path → Result Edit Refusal
put_edit caller text p = option_map_or (λ card. Ok (PutCard card.0 card.1 (owner_of caller) text)) (path_card p) (Err NotFound)

abbrev pub copy_edit : Caller → Path → Destination → Result Edit Refusal
copy_edit caller p to = option_map_or (λ card. Ok (CopyCard card.0 card.1 to.book to.card (owner_of caller))) (path_card p) (Err NotFound)

abbrev pub move_edit : Path → Destination → Result Edit Refusal
move_edit p to = option_map_or (λ card. Ok (MoveCard card.0 card.1 to.book to.card)) (path_card p) (Err NotFound)

abbrev pub delete_edit : Path → Result Edit Refusal
delete_edit p = option_map_or (λ b. Ok (RemoveBook b)) (path_book p)
    (option_map_or (λ card. Ok (RemoveCard card.0 card.1)) (path_card p) (Err NotFound))

abbrev pub mkcol_edit : Caller → Path → Result Edit Refusal
mkcol_edit caller p = option_map_or (λ b. Ok (AddBook b (owner_of caller))) (path_book p) (Err NotFound)

abbrev pub members_edit : Path → List (List ℕ) → Result Edit Refusal
members_edit p members = option_map_or (λ n. Ok (SetMembers (group_path n) members)) (path_group p) (Err NotFound)

abbrev pub patch_edit : Path → Patch → Result Edit Refusal
patch_edit p (patch.DisplayName label) = Ok (SetLabel p label)
patch_edit p (patch.GroupMembers members) = members_edit p members

-- the text of a card
abbrev pub card_plan : Option Node → Result Plan Refusal
card_plan node = text_of node >>= λ text. Ok (replied 200 (content.Card text) None)

-- the methods that the resource allows
abbrev pub allow_plan : Path → Result Plan Refusal
allow_plan p = Ok (replied 200 (content.Allow (allowed_of (kind_of p))) None)

abbrev pub put_plan : Caller → List ℕ → Target → Result Plan Refusal
put_plan caller text target = put_edit caller text target.path >>= λ edit. Ok (replied (put_status (is_some target.node)) content.Empty (Some edit))

abbrev pub patch_plan : Path → Patch → Result Plan Refusal
patch_plan p patched = patch_edit p patched >>= λ edit. Ok (replied 200 content.Empty (Some edit))

abbrev pub acl_plan : Path → List Submitted → Result Plan Refusal
acl_plan p list = Ok (replied 200 content.Empty (Some (SetList p (entries_of list))))

-- a new card at the destination, or one in the place of a card that is there (RFC 4918, sections 9.8.5 and 9.9.4)
abbrev pub copy_plan : Caller → Destination → Target → Result Plan Refusal
copy_plan caller to target = copy_edit caller target.path to >>= λ edit. Ok (replied (put_status target.replaces) content.Empty (Some edit))

abbrev pub move_plan : Destination → Target → Result Plan Refusal
move_plan to target = move_edit target.path to >>= λ edit. Ok (replied (put_status target.replaces) content.Empty (Some edit))

abbrev pub delete_plan : Path → Result Plan Refusal
delete_plan p = delete_edit p >>= λ edit. Ok (replied 204 content.Empty (Some edit))

abbrev pub mkcol_plan : Caller → Path → Result Plan Refusal
mkcol_plan caller p = mkcol_edit caller p >>= λ edit. Ok (replied 201 content.Empty (Some edit))

-- a listing of what is mapped at a path: each resource in it is decided by itself (RFC 4918, sections 9.1 and 11.1)
abbrev pub listed_plan : List Response → Result Plan Refusal
listed_plan responses = Ok (replied 207 (content.Listing responses) None)

abbrev pub IsListed : Office → CircleOf → Find → Path → Option Node → Result Plan Refusal → Type 0
IsListed o circle find p None result = Err NotFound ≡ result
IsListed o circle find p (Some node) result = (responses : List Response) × AreResponses find circle o p responses × (listed_plan responses ≡ result)

-- the report on a book from a place in its history, with at most so many items, where the token is valid; a text that is
-- no token names no place
abbrev pub report_from : Office → CircleOf → List ℕ → Option ℕ → SyncFrom → Option Report
report_from o circle b limit Start = sync o circle b None limit
report_from o circle b limit (After token) = sync o circle b (Some token) limit
report_from o circle b limit Unknown = None

-- a token that is not valid is refused (RFC 6578, section 3.2, precondition valid-sync-token)
abbrev pub report_plan : Option Report → Result Plan Refusal
report_plan None = Err ValidSyncToken
report_plan (Some report) = Ok (replied 207 (content.Synced report) None)

abbrev pub sync_plan : Office → CircleOf → SyncRequest → Path → Result Plan Refusal
sync_plan o circle asks p = option_map_or (λ b. report_plan (report_from o circle b asks.limit asks.from)) (path_book p) (Err NotFound)

-- the members of a card, in the view of the caller with this circle (RFC 6350, section 6.6.5; the report is own profile)
abbrev pub members_plan : List ℕ → Members → Result Plan Refusal
members_plan b members = Ok (replied 200 (content.Members b members) None)

abbrev pub AreMembersTold : Office → CircleOf → Path → Result Plan Refusal → Type 0
AreMembersTold o circle p result = MatchOption (path_card p) (Err NotFound ≡ result)
    (λ card. (members : Members) × AreMembersAt o circle card.0 card.1 members × (members_plan card.0 members ≡ result))

-- which entry decides each leaf at a resource for who has this circle; `owner` and `self` are read at the resource (own
-- profile)
abbrev pub rulings_plan : Option (List Ruling) → Result Plan Refusal
rulings_plan None = Err NotFound
rulings_plan (Some rulings) = Ok (replied 200 (content.Rulings rulings) None)

pub record AreRulingsFor (o : Office) (circle : CircleOf) (p : Path) (result : Result Plan Refusal) : Type 0 where
  pub rulings : Option (List Ruling)
  pub are : AreRulingsAt o circle p rulings
  pub is_told : rulings_plan rulings ≡ result

-- the same for who is asked about: by the principals to which that person belongs, and not by those of who asks
pub record AreRulingsTold (o : Office) (caller : Caller) (p : Path) (result : Result Plan Refusal) : Type 0 where
  pub circle : CircleOf
  pub is_circle : IsCircle o.pairs caller circle
  pub rulings : AreRulingsFor o circle p result

-- the cards of a book on which `x-read-names` is granted to the caller with this circle, each with the name that its text
-- says (own profile)
abbrev pub names_plan : List ℕ → List NamedCard → Result Plan Refusal
names_plan b names = Ok (replied 200 (content.Names b names) None)

abbrev pub AreNamesTold : Office → CircleOf → Path → Result Plan Refusal → Type 0
AreNamesTold o circle p result = MatchOption (path_book p) (Err NotFound ≡ result)
    (λ b. (names : List NamedCard) × AreNamesAt o circle b names × (names_plan b names ≡ result))

-- what a REPORT tells, by the report that is asked
abbrev pub IsReportOf : Office → CircleOf → ReportKind → Path → Result Plan Refusal → Type 0
IsReportOf o circle (report.SyncCollection asks) p result = sync_plan o circle asks p ≡ result
IsReportOf o circle report.GroupMembers p result = AreMembersTold o circle p result
IsReportOf o circle (report.Effective caller) p result = AreRulingsTold o caller p result
IsReportOf o circle report.Names p result = AreNamesTold o circle p result

-- what is replied and done, by what is asked
abbrev pub IsSuccessOf : Office → CircleOf → Asked → Caller → Target → Result Plan Refusal → Type 0
IsSuccessOf o circle asked.Get caller target result = card_plan target.node ≡ result
IsSuccessOf o circle asked.Head caller target result = card_plan target.node ≡ result
IsSuccessOf o circle asked.Options caller target result = allow_plan target.path ≡ result
IsSuccessOf o circle (asked.Put text) caller target result = put_plan caller text target ≡ result
IsSuccessOf o circle (asked.Propfind find) caller target result = IsListed o circle find target.path target.node result
IsSuccessOf o circle (asked.Proppatch patched) caller target result = patch_plan target.path patched ≡ result
IsSuccessOf o circle (asked.Acl list) caller target result = acl_plan target.path list ≡ result
IsSuccessOf o circle (asked.Copy to) caller target result = copy_plan caller to target ≡ result
IsSuccessOf o circle (asked.Move to) caller target result = move_plan to target ≡ result
IsSuccessOf o circle asked.Delete caller target result = delete_plan target.path ≡ result
IsSuccessOf o circle asked.Mkcol caller target result = mkcol_plan caller target.path ≡ result
IsSuccessOf o circle (asked.Report which) caller target result = IsReportOf o circle which target.path result

abbrev pub IsSuccess : Office → CircleOf → Ready → Result Plan Refusal → Type 0
IsSuccess o circle ready result = IsSuccessOf o circle ready.asked ready.caller ready.target result

-- the limits, after a body that the answer accepts or refuses
abbrev pub body_then_limits : Office → Ready → Result (Unit {0}) Refusal → Result (Unit {0}) Refusal
body_then_limits o ready answer = answer >>= λ _. limits_of o ready.asked ready.target

-- what follows body and limits: success where both have passed, else the refusal
abbrev pub IsDone : Office → CircleOf → Ready → Result (Unit {0}) Refusal → Result Plan Refusal → Type 0
IsDone o circle ready (Ok u) result = IsSuccess o circle ready result
IsDone o circle ready (Err e) result = Err e ≡ result

-- the stages after a verdict that grants; the circle holds the principals to which the caller belongs
abbrev pub IsGrantedPlan : Office → CircleOf → Ready → Result Plan Refusal → Type 0
IsGrantedPlan o circle ready result =
    (answer : Result (Unit {0}) Refusal) × IsBodyAnswer o ready.asked ready.target.path answer × IsDone o circle ready (body_then_limits o ready answer) result
