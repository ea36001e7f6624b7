-- What a report answers, by the report that is asked.
use Rattle.book_machine.proofs.Common.{◌≡◌, ℕ, ◌<◌, Bool, List, [], ◌∷◌, map, Option, Some, None, is_some, Result, Ok, Err, refl, sym, ap, ◌∙◌, subst, arith, AllZip, nat_list_cmp_total, entries, one_circle, CircleOf, Caller, Entry, bare_entries, here_of, name_cmp, names_apart, NamesTo, effective_at, EffectiveEntry, Leaf, AreRulingsAt, Ruling, Office, Path, replied, AreMembersTold, IsReportOf, Content, ReportKind, Plan, Refusal, Unavailable}
use Rattle.std.proofs.Common.{not}
use Rattle.std.specs.FinMap.{from_sorted, entries-from_sorted, get-from_sorted, same_map}
use Rattle.book_lists_explain.specs.ShortNames.{all_leaves}
use Rattle.book_lists.proofs.FirstBearings.{one_decider, one_place}
use Rattle.book_lists.specs.Decisions.{bears, denying}
use Rattle.book_lists.specs.declared.entries.Here.{Here}
use Rattle.book_office_listings.specs.Verdicts.{deciding_entry, paths_of}
use Rattle.book_office_members.proofs.Views.{equal_views}
use Rattle.book_office_members.specs.Names.{AreNamesAt, pair_of}
use Rattle.book_office_members.specs.declared.names.NamedCard.{NamedCard}
use Rattle.book_office_listings.specs.Rulings.{IsDecidedBy, IsRuling}
use Rattle.book_office_values.specs.declared.paths.Path.TheVariants as path
use Rattle.book_machine.proofs.SyncPlans.{sync_available, sync_told}
use Rattle.book_machine.specs.Stages.{members_plan, names_plan, rulings_plan, AreNamesTold, AreRulingsTold}
use Rattle.book_machine.specs.declared.messages.Content.TheVariants as content
use Rattle.book_machine.specs.declared.messages.ReportKind.TheVariants as report

-- a plan that tells a content, with no edit
abbrev pub telling_of : ℕ → Content → Result Plan Refusal
telling_of status what = Ok (replied status what None)

pub record IsTold (plan : Plan) : Type 0 where
  pub status : ℕ
  pub what : Content
  pub low : status < 300
  pub is : telling_of status what ≡ Ok plan

-- ---- a plan of a report tells it
members_told : (o : Office) (circle : CircleOf) (p : Path) (plan : Plan) → AreMembersTold o circle p (Ok plan) → IsTold plan
members_told o circle path.Root plan is = absurd (cc (is))
members_told o circle path.People plan is = absurd (cc (is))
members_told o circle path.Groups plan is = absurd (cc (is))
members_told o circle path.Books plan is = absurd (cc (is))
members_told o circle (path.Person n) plan is = absurd (cc (is))
members_told o circle (path.Group n) plan is = absurd (cc (is))
members_told o circle (path.Book b) plan is = absurd (cc (is))
members_told o circle (path.Card b c) plan is = record { status = 200; what = content.Members b is.0; low = omega arith; is = is.2 }

rulings_told : (rulings : Option (List Ruling)) (plan : Plan) → rulings_plan rulings ≡ Ok plan → IsTold plan
rulings_told None plan is = absurd (cc (is))
rulings_told (Some rulings) plan is = record { status = 200; what = content.Rulings rulings; low = omega arith; is = is }

names_told : (o : Office) (circle : CircleOf) (p : Path) (plan : Plan) → AreNamesTold o circle p (Ok plan) → IsTold plan
names_told o circle path.Root plan is = absurd (cc (is))
names_told o circle path.People plan is = absurd (cc (is))
names_told o circle path.Groups plan is = absurd (cc (is))
names_told o circle path.Books plan is = absurd (cc (is))
names_told o circle (path.Person n) plan is = absurd (cc (is))
names_told o circle (path.Group n) plan is = absurd (cc (is))
names_told o circle (path.Book b) plan is = record { status = 200; what = content.Names b is.0; low = omega arith; is = is.2 }
names_told o circle (path.Card b c) plan is = absurd (cc (is))

pub reported_told : (o : Office) (circle : CircleOf) (which : ReportKind) (p : Path) (plan : Plan) → IsReportOf o circle which p (Ok plan) → IsTold plan
reported_told o circle (report.SyncCollection asks) p plan is =
    let told = sync_told o circle asks p plan is in
    record { status = 207; what = content.Synced told.0; low = omega arith; is = told.1 }
reported_told o circle report.GroupMembers p plan is = members_told o circle p plan is
reported_told o circle (report.Effective caller) p plan is = rulings_told is.rulings.rulings plan is.rulings.is_told
reported_told o circle report.Names p plan is = names_told o circle p plan is

-- ---- no report is unavailable
members_available : (o : Office) (circle : CircleOf) (p : Path) → AreMembersTold o circle p (Err Unavailable) → ⊥
members_available o circle path.Root is = absurd (cc (is))
members_available o circle path.People is = absurd (cc (is))
members_available o circle path.Groups is = absurd (cc (is))
members_available o circle path.Books is = absurd (cc (is))
members_available o circle (path.Person n) is = absurd (cc (is))
members_available o circle (path.Group n) is = absurd (cc (is))
members_available o circle (path.Book b) is = absurd (cc (is))
members_available o circle (path.Card b c) is = let told = is.2 in absurd (cc (told))

rulings_available : (rulings : Option (List Ruling)) → rulings_plan rulings ≡ Err Unavailable → ⊥
rulings_available None is = absurd (cc (is))
rulings_available (Some rulings) is = absurd (cc (is))

names_available : (o : Office) (circle : CircleOf) (p : Path) → AreNamesTold o circle p (Err Unavailable) → ⊥
names_available o circle path.Root is = absurd (cc (is))
names_available o circle path.People is = absurd (cc (is))
names_available o circle path.Groups is = absurd (cc (is))
names_available o circle path.Books is = absurd (cc (is))
names_available o circle (path.Person n) is = absurd (cc (is))
names_available o circle (path.Group n) is = absurd (cc (is))
names_available o circle (path.Book b) is = let told = is.2 in absurd (cc (told))
names_available o circle (path.Card b c) is = absurd (cc (is))

pub reported_available : (o : Office) (circle : CircleOf) (which : ReportKind) (p : Path) → IsReportOf o circle which p (Err Unavailable) → ⊥
reported_available o circle (report.SyncCollection asks) p is = sync_available o circle asks p is
reported_available o circle report.GroupMembers p is = members_available o circle p is
reported_available o circle (report.Effective caller) p is = rulings_available is.rulings.rulings is.rulings.is_told
reported_available o circle report.Names p is = names_available o circle p is

-- ---- a report is one
one_members : (o : Office) (circle : CircleOf) (p : Path) (a b : Result Plan Refusal) → AreMembersTold o circle p a → AreMembersTold o circle p b → a ≡ b
one_members o circle path.Root a b x y = sym x ∙ y
one_members o circle path.People a b x y = sym x ∙ y
one_members o circle path.Groups a b x y = sym x ∙ y
one_members o circle path.Books a b x y = sym x ∙ y
one_members o circle (path.Person n) a b x y = sym x ∙ y
one_members o circle (path.Group n) a b x y = sym x ∙ y
one_members o circle (path.Book n) a b x y = sym x ∙ y
one_members o circle (path.Card k c) a b x y =
    sym x.2 ∙ ap (members_plan k) (equal_views o o circle circle k k (λ name. refl) c x.0 y.0 x.1 y.1) ∙ y.2

-- cards in order, each with the name that its text says, are one list
abbrev card_of : List ℕ × Option (List ℕ) → NamedCard
card_of e = record { name = e.0; formatted = e.1 }

unpaired_each : (cards : List NamedCard) → map card_of (map pair_of cards) ≡ cards
unpaired_each [] = refl
unpaired_each (card ∷ cards) = ap (λ rest. card ∷ rest) (unpaired_each cards)

unpaired : (a b : List NamedCard) → map pair_of a ≡ map pair_of b → a ≡ b
unpaired a b same = sym (unpaired_each a) ∙ ap (map card_of) same ∙ unpaired_each b

abbrev map_of : List NamedCard → NamesTo (Option (List ℕ))
map_of cards = from_sorted (map pair_of cards)

one_list_of_names : (o : Office) (circle : CircleOf) (b : List ℕ) (x y : List NamedCard) → AreNamesAt o circle b x → AreNamesAt o circle b y → x ≡ y
one_list_of_names o circle b x y is_x is_y =
    let same : map_of x ≡ map_of y = same_map nat_list_cmp_total names_apart (map_of x) (map_of y) (λ q.
    get-from_sorted name_cmp (map pair_of x) q is_x.in_order ∙ is_x.told q ∙ sym (is_y.told q) ∙ sym (get-from_sorted name_cmp (map pair_of y) q is_y.in_order)) in
    unpaired x y (sym (entries-from_sorted name_cmp (map pair_of x) is_x.in_order) ∙ ap entries same ∙ entries-from_sorted name_cmp (map pair_of y) is_y.in_order)

one_names : (o : Office) (circle : CircleOf) (p : Path) (a b : Result Plan Refusal) → AreNamesTold o circle p a → AreNamesTold o circle p b → a ≡ b
one_names o circle path.Root a b x y = sym x ∙ y
one_names o circle path.People a b x y = sym x ∙ y
one_names o circle path.Groups a b x y = sym x ∙ y
one_names o circle path.Books a b x y = sym x ∙ y
one_names o circle (path.Person n) a b x y = sym x ∙ y
one_names o circle (path.Group n) a b x y = sym x ∙ y
one_names o circle (path.Book k) a b x y = sym x.2 ∙ ap (names_plan k) (one_list_of_names o circle k x.0 y.0 x.1 y.1) ∙ y.2
one_names o circle (path.Card n c) a b x y = sym x ∙ y

module _ (list : List EffectiveEntry) (circle : CircleOf) (here : Here) where
  one_decision : (leaf : Leaf) (i j : Option ℕ) (g h : Bool) → IsDecidedBy list circle here leaf i g → IsDecidedBy list circle here leaf j h → (i ≡ j) × (g ≡ h)
  one_decision leaf None None g h x y = (refl, x.1 ∙ sym y.1)
  one_decision leaf None (Some j) g h x y = absurd (x.0 j y.0 y.1)
  one_decision leaf (Some i) None g h x y = absurd (y.0 i x.0 x.1)
  one_decision leaf (Some i) (Some j) g h x y =
      let place : i ≡ j = one_place (bears circle here) denying (bare_entries list) leaf i j x.0 y.0 x.1 y.1 in
      let entry : x.0 ≡ y.0 = one_decider (bears circle here) denying (bare_entries list) leaf i j x.0 y.0 x.1 y.1 in
      (ap Some place, x.2 ∙ ap (λ (e : Entry). not e.deny) entry ∙ sym y.2)

  one_ruling : (leaf : Leaf) (a b : Ruling) → IsRuling list circle here leaf a → IsRuling list circle here leaf b → a ≡ b
  one_ruling leaf a b x y =
      let both = one_decision leaf x.index y.index a.grant b.grant x.decided y.decided in
      let one : a.leaf ≡ b.leaf = x.leaf_is ∙ sym y.leaf_is in
      let entry : a.entry ≡ b.entry = x.entry ∙ ap (deciding_entry (paths_of list)) both.0 ∙ sym y.entry in
      λ k. record { leaf = one k; entry = entry k; grant = both.1 k }

  one_list : (leaves : List Leaf) (a b : List Ruling) → AllZip (IsRuling list circle here) leaves a → AllZip (IsRuling list circle here) leaves b → a ≡ b
  one_list [] [] [] x y = refl
  one_list [] [] (s ∷ b) x y = absurd y
  one_list [] (r ∷ a) b x y = absurd x
  one_list (leaf ∷ leaves) [] b x y = absurd x
  one_list (leaf ∷ leaves) (r ∷ a) [] x y = absurd y
  one_list (leaf ∷ leaves) (r ∷ a) (s ∷ b) x y = λ k. one_ruling leaf r s x.0 y.0 k ∷ one_list leaves a b x.1 y.1 k

one_answer : (o : Office) (circle : CircleOf) (p : Path) (a b : Option (List Ruling)) → AreRulingsAt o circle p a → AreRulingsAt o circle p b → a ≡ b
one_answer o circle p None None x y = refl
one_answer o circle p None (Some b) x y = let clash = sym (ap is_some x) ∙ y.0 in absurd (cc (clash))
one_answer o circle p (Some a) None x y = let clash = sym (ap is_some y) ∙ x.0 in absurd (cc (clash))
one_answer o circle p (Some a) (Some b) x y = ap Some (one_list (effective_at o p) circle (here_of o p) all_leaves a b x.1 y.1)

one_rulings : (o : Office) (caller : Caller) (p : Path) (a b : Result Plan Refusal) → AreRulingsTold o caller p a → AreRulingsTold o caller p b → a ≡ b
one_rulings o caller p a b x y =
    let same : x.circle ≡ y.circle = one_circle o.pairs caller x.circle y.circle x.is_circle y.is_circle in
    let one : x.rulings.rulings ≡ y.rulings.rulings =
    one_answer o y.circle p x.rulings.rulings y.rulings.rulings (subst (λ c. AreRulingsAt o c p x.rulings.rulings) same x.rulings.are) y.rulings.are in
    sym x.rulings.is_told ∙ ap rulings_plan one ∙ y.rulings.is_told

pub one_report : (o : Office) (circle : CircleOf) (which : ReportKind) (p : Path) (a b : Result Plan Refusal) → IsReportOf o circle which p a → IsReportOf o circle which p b → a ≡ b
one_report o circle (report.SyncCollection asks) p a b x y = sym x ∙ y
one_report o circle report.GroupMembers p a b x y = one_members o circle p a b x y
one_report o circle (report.Effective caller) p a b x y = one_rulings o caller p a b x y
one_report o circle report.Names p a b x y = one_names o circle p a b x y
