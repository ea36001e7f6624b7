-- Offices that agree for a caller tell the same in reports.
use Rattle.book_machine.proofs.Common.{◌≡◌, ℕ, Bool, true, false, List, map, Option, Some, None, Result, is_some, option_map, option_and_then, unwrap_or, refl, sym, ap, ◌∙◌, subst, if◌then◌else◌, get, same_Some, only, Leaf, IsCircle, CircleOf, Caller, some_apart, Book, Office, StoredCard, Path, effective_at, Resource, card_at, card_in, card_resource, number_of, resource_at, EffectiveEntry, here_of, AreRulingsAt, Ruling, Report, MayRead, outline, outline_of_book, outline_of_card, Agree, report_from, SyncFrom, Plan, Refusal}
use Rattle.std.proofs.Common.{filter}
use Rattle.std.proofs.lemmas.Bool.{and_parts}
use Rattle.book_rights.specs.Leaves.{each_leaf}
use Rattle.book_rights.specs.Privileges.{is_read}
use Rattle.book_rights.specs.declared.privileges.Leaf.TheVariants.{ReadTexts, ReadNames}
use Rattle.book_lists.specs.Decisions.{Grants}
use Rattle.book_office_members.specs.declared.members.Members.{Members}
use Rattle.book_office_members.specs.Members.{AreMembersAt}
use Rattle.book_office_members.specs.Names.{AreNamesAt, name_told}
use Rattle.book_office_members.specs.declared.names.NamedCard.{NamedCard}
use Rattle.book_office_values.specs.Changes.{Change, changes_after, first_of}
use Rattle.book_office_values.specs.declared.collections.changes.Numbers.{Numbers}
use Rattle.book_office_values.specs.declared.paths.Path.TheVariants as path
use Rattle.book_office.specs.OwnLists.{entries_in_force}
use Rattle.book_office_listings.specs.Rulings.{AreRulings}
use Rattle.book_office_sync.specs.Granted.{text_at, text_in}
use Rattle.book_office_sync.specs.Copies.{grants, grants_read, here_of_card, can_read, shown, seen_in, seen, found_of, last_number, is_cut, start_of, sync_of, sync}
use Rattle.book_office_sync.specs.Reading.{names_place}
use Rattle.book_office_sync.specs.declared.messages.Item.{Item}
use Rattle.book_office_sync.specs.declared.messages.Seen.{Seen}
use Rattle.book_office_sync.specs.declared.messages.Token.{Token}
use Rattle.book_machine.proofs.Outlines.{books_alike, cards_alike, effective_same, here_same, outline_of_resource, resources_alike, there_mapped}
use Rattle.book_machine.specs.Agreement.{MayReadName, name_in}
use Rattle.book_machine.specs.Stages.{AreRulingsTold}
use Rattle.book_machine.specs.declared.messages.SyncFrom.TheVariants.{Start, After, Unknown}
use Rattle.book_office_listings.proofs.ToldValues.{told_granted}

-- two Offices tell the same in each report, to who has this circle: in sync reports, in what is seen of each name of a
-- book, in the names that may be told, and in what rests on outlines
pub record AreReportedAlike (o p : Office) (circle : CircleOf) : Type 0 where
  pub synced : (b : List ℕ) (limit : Option ℕ) (from : SyncFrom) → report_from o circle b limit from ≡ report_from p circle b limit from
  pub seen_alike : (b c : List ℕ) → seen o circle b c ≡ seen p circle b c
  pub named_alike : (b c : List ℕ) → option_map name_told (text_at o circle b ReadNames c) ≡ option_map name_told (text_at p circle b ReadNames c)
  pub outlines : outline o ≡ outline p

-- ---- what is seen of a card
owner_is : (c : List ℕ) (found : Option Book) (s : StoredCard) → option_and_then (λ (book : Book). get book.cards c) found ≡ Some s
    → s.owner ≡ option_and_then (λ (r : Resource). r.owner) (option_and_then (λ (book : Book). card_in book c) found)
owner_is c None s at = some_apart (sym at)
owner_is c (Some x) s at = sym (ap (λ r. option_and_then (λ (r : Resource). r.owner) (option_map (card_resource (number_of x c)) r)) at)

module _ (o p : Office) (caller : Caller) (agree : Agree o p caller) (circle : CircleOf) (is_circle : IsCircle o.pairs caller circle) (b : List ℕ) where
  module _ (c : List ℕ) where
    entries_same : entries_in_force o (path.Card b c) ≡ entries_in_force p (path.Card b c)
    entries_same = ap (map (λ (e : EffectiveEntry). e.entry)) (effective_same o p agree.outlines (path.Card b c))

    here_is : (s : StoredCard) → card_at o b c ≡ Some s → here_of_card s ≡ here_of o (path.Card b c)
    here_is s at = let owner = owner_is c (get o.books b) s at in λ i. record { owner = owner i; principal = None }

    -- a card that the report tells may be read
    may_read : (s : StoredCard) → card_at o b c ≡ Some s → can_read o circle b c s ≡ true → MayRead o caller (path.Card b c)
    may_read s at reads =
        let es = entries_in_force o (path.Card b c) in
        let here = here_of o (path.Card b c) in
        let both = and_parts _ _ reads in
        let granted = λ (leaf : Leaf) (told : grants es circle (here_of_card s) leaf ≡ true). subst (λ h. Grants es circle h leaf) (here_is s at) (told_granted circle (here_of_card s) leaf es told) in
        record {
          circle = circle;
          is_circle = is_circle;
          granted = λ leaf is. each_leaf (λ l. is_read l ≡ true → Grants es circle here l) (λ _. granted ReadTexts both.0)
              (λ e. absurd cc) (λ e. absurd cc) (λ e. absurd cc) (λ e. absurd cc) (λ e. absurd cc) (λ e. absurd cc) (λ e. absurd cc) (λ _. granted ReadNames both.1) leaf is;
        }

    -- a card whose name the report tells may be named
    abbrev can_name : Office → StoredCard → Bool
    can_name q s = grants (entries_in_force q (path.Card b c)) circle (here_of_card s) ReadNames

    may_name : (s : StoredCard) → card_at o b c ≡ Some s → can_name o s ≡ true → MayReadName o caller (path.Card b c)
    may_name s at names =
        let es = entries_in_force o (path.Card b c) in
        let here = here_of o (path.Card b c) in
        let granted : Grants es circle here ReadNames = subst (λ h. Grants es circle h ReadNames) (here_is s at) (told_granted circle (here_of_card s) ReadNames es names) in
        record {
          circle = circle;
          is_circle = is_circle;
          granted = λ leaf is. each_leaf (λ l. only ReadNames l ≡ true → Grants es circle here l)
              (λ e. absurd cc) (λ e. absurd cc) (λ e. absurd cc) (λ e. absurd cc) (λ e. absurd cc) (λ e. absurd cc) (λ e. absurd cc) (λ e. absurd cc) (λ _. granted) leaf is;
        }

    reads_same : (s t : StoredCard) → outline_of_card s ≡ outline_of_card t → can_read o circle b c s ≡ can_read p circle b c t
    reads_same s t alike = λ i. grants_read (entries_same i) circle (record { owner = (alike i).owner; principal = None })

    names_same : (s t : StoredCard) → outline_of_card s ≡ outline_of_card t → can_name o s ≡ can_name p t
    names_same s t alike = λ i. grants (entries_same i) circle (record { owner = (alike i).owner; principal = None }) ReadNames

    card_seen : (m n : ℕ) (s t : StoredCard) → m ≡ n → outline_of_card s ≡ outline_of_card t → card_at o b c ≡ Some s → card_at p b c ≡ Some t
        → (if can_read o circle b c s then Some (shown m s) else None) ≡ (if can_read p circle b c t then Some (shown n t) else None)
    card_seen m n s t number alike at_o at_p =
        elim (can_read o circle b c s) as (λ r. can_read o circle b c s ≡ r → (if r then Some (shown m s) else None) ≡ (if can_read p circle b c t then Some (shown n t) else None)) [
          | true ↦ λ reads.
              let card : s ≡ t = same_Some s t (sym at_o ∙ agree.readable b c (may_read s at_o reads) ∙ at_p) in
              let both : true ≡ can_read p circle b c t = sym reads ∙ reads_same s t alike in
              λ i. if both i then Some (shown (number i) (card i)) else None
          | false ↦ λ reads.
              let both : false ≡ can_read p circle b c t = sym reads ∙ reads_same s t alike in
              λ i. if both i then Some (shown n t) else None
        ] refl

    cards_seen : (m n : ℕ) (r s : Option StoredCard) → m ≡ n → option_map outline_of_card r ≡ option_map outline_of_card s → card_at o b c ≡ r → card_at p b c ≡ s
        → option_and_then (λ (card : StoredCard). if can_read o circle b c card then Some (shown m card) else None) r
        ≡ option_and_then (λ (card : StoredCard). if can_read p circle b c card then Some (shown n card) else None) s
    cards_seen m n None None number alike at_o at_p = refl
    cards_seen m n None (Some t) number alike at_o at_p = some_apart (sym alike)
    cards_seen m n (Some s) None number alike at_o at_p = some_apart alike
    cards_seen m n (Some s) (Some t) number alike at_o at_p = card_seen m n s t number (same_Some (outline_of_card s) (outline_of_card t) alike) at_o at_p

    card_named : (s t : StoredCard) → outline_of_card s ≡ outline_of_card t → card_at o b c ≡ Some s → card_at p b c ≡ Some t
        → option_map name_told (if can_name o s then Some s.text else None) ≡ option_map name_told (if can_name p t then Some t.text else None)
    card_named s t alike at_o at_p =
        elim (can_name o s) as (λ r. can_name o s ≡ r → option_map name_told (if r then Some s.text else None) ≡ option_map name_told (if can_name p t then Some t.text else None)) [
          | true ↦ λ names.
              let name : name_told s.text ≡ name_told t.text = sym (ap name_in at_o) ∙ agree.named b c (may_name s at_o names) ∙ ap name_in at_p in
              let both : true ≡ can_name p t = sym names ∙ names_same s t alike in
              ap Some name ∙ ap (λ r. option_map name_told (if r then Some t.text else None)) both
          | false ↦ λ names.
              let both : false ≡ can_name p t = sym names ∙ names_same s t alike in
              ap (λ r. option_map name_told (if r then Some t.text else None)) both
        ] refl

    cards_named : (r s : Option StoredCard) → option_map outline_of_card r ≡ option_map outline_of_card s → card_at o b c ≡ r → card_at p b c ≡ s
        → option_map name_told (option_and_then (λ (card : StoredCard). if can_name o card then Some card.text else None) r)
        ≡ option_map name_told (option_and_then (λ (card : StoredCard). if can_name p card then Some card.text else None) s)
    cards_named None None alike at_o at_p = refl
    cards_named None (Some t) alike at_o at_p = some_apart (sym alike)
    cards_named (Some s) None alike at_o at_p = some_apart alike
    cards_named (Some s) (Some t) alike at_o at_p = card_named s t (same_Some (outline_of_card s) (outline_of_card t) alike) at_o at_p

    books_named : (r s : Option Book) → option_map outline_of_book r ≡ option_map outline_of_book s → get o.books b ≡ r → get p.books b ≡ s
        → option_map name_told (option_and_then (text_in o circle b c ReadNames) r) ≡ option_map name_told (option_and_then (text_in p circle b c ReadNames) s)
    books_named None None alike at_o at_p = refl
    books_named None (Some y) alike at_o at_p = some_apart (sym alike)
    books_named (Some x) None alike at_o at_p = some_apart alike
    books_named (Some x) (Some y) alike at_o at_p =
        let card_o : card_at o b c ≡ get x.cards c = ap (option_and_then (λ (book : Book). get book.cards c)) at_o in
        let card_p : card_at p b c ≡ get y.cards c = ap (option_and_then (λ (book : Book). get book.cards c)) at_p in
        let cards : option_map outline_of_card (get x.cards c) ≡ option_map outline_of_card (get y.cards c) =
        ap (option_map outline_of_card) (sym card_o) ∙ cards_alike o p agree.outlines b c ∙ ap (option_map outline_of_card) card_p in
        cards_named (get x.cards c) (get y.cards c) cards card_o card_p

    named_same : option_map name_told (text_at o circle b ReadNames c) ≡ option_map name_told (text_at p circle b ReadNames c)
    named_same = books_named (get o.books b) (get p.books b) (books_alike o p agree.outlines b) refl refl

    books_seen : (r s : Option Book) → option_map outline_of_book r ≡ option_map outline_of_book s → get o.books b ≡ r → get p.books b ≡ s
        → option_and_then (seen_in o circle b c) r ≡ option_and_then (seen_in p circle b c) s
    books_seen None None alike at_o at_p = refl
    books_seen None (Some y) alike at_o at_p = some_apart (sym alike)
    books_seen (Some x) None alike at_o at_p = some_apart alike
    books_seen (Some x) (Some y) alike at_o at_p =
        let changes : x.changes ≡ y.changes = ap (λ (book : Book). book.changes) (same_Some (outline_of_book x) (outline_of_book y) alike) in
        let card_o : card_at o b c ≡ get x.cards c = ap (option_and_then (λ (book : Book). get book.cards c)) at_o in
        let card_p : card_at p b c ≡ get y.cards c = ap (option_and_then (λ (book : Book). get book.cards c)) at_p in
        let cards : option_map outline_of_card (get x.cards c) ≡ option_map outline_of_card (get y.cards c) =
        ap (option_map outline_of_card) (sym card_o) ∙ cards_alike o p agree.outlines b c ∙ ap (option_map outline_of_card) card_p in
        cards_seen (number_of x c) (number_of y c) (get x.cards c) (get y.cards c) (ap (λ (n : Numbers). unwrap_or (get n.last c) 0) changes) cards card_o card_p

    seen_same : seen o circle b c ≡ seen p circle b c
    seen_same = books_seen (get o.books b) (get p.books b) (books_alike o p agree.outlines b) refl refl

  -- ---- the report, by what is seen
  abbrev item_by : (List ℕ → Option Seen) → Change → Item
  item_by sees change = record { name = change.1; number = change.0; found = option_map found_of (sees change.1) }

  abbrev reported_by : (List ℕ → Option Seen) → Numbers → Option Token → List Change
  reported_by sees numbers None = filter (λ (c : Change). is_some (sees c.1)) (changes_after numbers.last 0)
  reported_by sees numbers (Some token) = changes_after numbers.last token.number

  abbrev report_by : (List ℕ → Option Seen) → ℕ → Numbers → Option Token → Option ℕ → List Change → Report
  report_by sees epoch numbers token limit changes = record {
    items = map (item_by sees) (first_of limit changes);
    truncated = is_cut limit changes;
    token = record { book = b; epoch = epoch; number = if is_cut limit changes then last_number (start_of token) (first_of limit changes) else numbers.number };
  }

  abbrev sync_by : (List ℕ → Option Seen) → ℕ → Numbers → Option Token → Option ℕ → Option Report
  sync_by sees epoch numbers token limit =
      if names_place b epoch numbers.number token then Some (report_by sees epoch numbers token limit (reported_by sees numbers token)) else None

  sync_is : (q : Office) (x : Book) (token : Option Token) (limit : Option ℕ) → sync_of q circle b token limit x ≡ sync_by (λ c. seen q circle b c) q.epoch x.changes token limit
  sync_is q x None limit = refl
  sync_is q x (Some token) limit = refl

  books_synced : (token : Option Token) (limit : Option ℕ) (r s : Option Book) → option_map outline_of_book r ≡ option_map outline_of_book s
      → option_and_then (sync_of o circle b token limit) r ≡ option_and_then (sync_of p circle b token limit) s
  books_synced token limit None None alike = refl
  books_synced token limit None (Some y) alike = some_apart (sym alike)
  books_synced token limit (Some x) None alike = some_apart alike
  books_synced token limit (Some x) (Some y) alike =
      let changes : x.changes ≡ y.changes = ap (λ (book : Book). book.changes) (same_Some (outline_of_book x) (outline_of_book y) alike) in
      let epoch : o.epoch ≡ p.epoch = ap (λ (q : Office). q.epoch) agree.outlines in
      let same : sync_by (λ c. seen o circle b c) o.epoch x.changes token limit ≡ sync_by (λ c. seen p circle b c) p.epoch y.changes token limit =
      λ i. sync_by (λ c. seen_same c i) (epoch i) (changes i) token limit in
      sync_is o x token limit ∙ same ∙ sym (sync_is p y token limit)

  sync_same : (token : Option Token) (limit : Option ℕ) → sync o circle b token limit ≡ sync p circle b token limit
  sync_same token limit = books_synced token limit (get o.books b) (get p.books b) (books_alike o p agree.outlines b)

module _ (o p : Office) (caller : Caller) (agree : Agree o p caller) (circle : CircleOf) (is_circle : IsCircle o.pairs caller circle) where
  syncs_alike : (b : List ℕ) (limit : Option ℕ) (from : SyncFrom) → report_from o circle b limit from ≡ report_from p circle b limit from
  syncs_alike b limit Start = sync_same o p caller agree circle is_circle b None limit
  syncs_alike b limit (After token) = sync_same o p caller agree circle is_circle b (Some token) limit
  syncs_alike b limit Unknown = refl

  pub reports_alike : AreReportedAlike o p circle
  reports_alike = record {
    synced = λ b limit from. syncs_alike b limit from;
    seen_alike = λ b c. seen_same o p caller agree circle is_circle b c;
    named_alike = λ b c. named_same o p caller agree circle is_circle b c;
    outlines = agree.outlines;
  }

-- ---- the members of a card, and what decides each leaf
pub members_alike : (o p : Office) (circle : CircleOf) → ((b c : List ℕ) → seen o circle b c ≡ seen p circle b c)
    → (b c : List ℕ) (members : Members) → AreMembersAt o circle b c members → AreMembersAt p circle b c members
members_alike o p circle same b c members is = (is.0, (λ q. is.1 q ∙ same b q), is.2)

-- ---- the names of a book's cards
pub names_alike : (o p : Office) (circle : CircleOf)
    → ((b c : List ℕ) → option_map name_told (text_at o circle b ReadNames c) ≡ option_map name_told (text_at p circle b ReadNames c))
    → (b : List ℕ) (names : List NamedCard) → AreNamesAt o circle b names → AreNamesAt p circle b names
names_alike o p circle same b names are = record { in_order = are.in_order; told = λ c. are.told c ∙ same b c }

still_none : {A B : Type 0} (f : A → B) (r s : Option A) → option_map f r ≡ option_map f s → r ≡ None → s ≡ None
still_none f r None alike none = refl
still_none f r (Some y) alike none = some_apart (sym alike ∙ ap (option_map f) none)

module _ (o p : Office) (same : outline o ≡ outline p) where
  pub rulings_alike : (circle : CircleOf) (q : Path) (told : Option (List Ruling)) → AreRulingsAt o circle q told → AreRulingsAt p circle q told
  rulings_alike circle q None none = still_none outline_of_resource (resource_at o q) (resource_at p q) (resources_alike o p same q) none
  rulings_alike circle q (Some rulings) are =
      let there : is_some (resource_at o q) ≡ is_some (resource_at p q) =
      sym (there_mapped outline_of_resource (resource_at o q)) ∙ ap is_some (resources_alike o p same q) ∙ there_mapped outline_of_resource (resource_at p q) in (
        sym there ∙ are.0,
        subst (λ here. AreRulings (effective_at p q) circle here rulings) (here_same o p same q)
            (subst (λ list. AreRulings list circle (here_of o q) rulings) (effective_same o p same q) are.1),
      )

  pub rulings_told_alike : (caller : Caller) (q : Path) (result : Result Plan Refusal) → AreRulingsTold o caller q result → AreRulingsTold p caller q result
  rulings_told_alike caller q result is = record {
    circle = is.circle;
    is_circle = subst (λ (x : Office). IsCircle x.pairs caller is.circle) same is.is_circle;
    rulings = record {
      rulings = is.rulings.rulings;
      are = rulings_alike is.circle q is.rulings.rulings is.rulings.are;
      is_told = is.rulings.is_told;
    };
  }
