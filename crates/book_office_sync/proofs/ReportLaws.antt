-- A report brings a copy that was right to the present.
use Rattle.book_office_sync.proofs.Common.{◌≡◌, ℕ, ◌<◌, ◌≤◌, ◌⊎◌, inl, inr, List, length, true, false, Option, Some, None, is_some, refl, sym, ap, ◌∙◌, subst, option_map, option_and_then, unwrap_or, arith, nat_lt, if◌then◌else◌, nat_tests, get, CircleOf, StoredCard, Book, Office, number_of, NamesTo, Seen, Token, Change, changes_after, seen, shown, start_of, report, last_change, patch, Right, Kept, Later, Mem}
use Rattle.std.proofs.Common.{take}
use Rattle.std.specs.FinMap.{empty, get-empty}
use Rattle.book_lists.specs.Names.{name_cmp}
use Rattle.book_office_values.specs.Changes.{first_of}
use Rattle.book_office.specs.Sound.{IsSoundBook}
use Rattle.book_office_sync.specs.Copies.{can_read, seen_in, last_number, reported, Begins, IsView, Follows}
use Rattle.book_office_sync.proofs.Filters.{mem_filter, filter_mem}
use Rattle.book_office_sync.proofs.Patches.{AreChanges, right_patched}
use Rattle.book_office_values.proofs.OneName.{where_some}
use Rattle.book_office_values.proofs.Above.{above}
use Rattle.book_office_sync.proofs.CopiesKept.{right_kept}
use Rattle.book_office_sync.proofs.ChangesAfter.{Rising, rising_filter, take_all, after_last, after_whole, changes_rise, among_first, take_mem, last_number_within}

not_above : (a b : ℕ) → nat_lt a b ≡ false → b ≤ a
not_above a b h = grind (arith, nat_tests)

number_some : (n : Option ℕ) (m : ℕ) → m < unwrap_or n 0 → n ≡ Some (unwrap_or n 0)
number_some None m h = absurd (omega (arith, h))
number_some (Some n) m h = refl

-- a report after a token is for any copy, and the initial one for the empty one
abbrev ForCopy : Option Token → NamesTo Seen → Type 0
ForCopy None copy = copy ≡ empty
ForCopy (Some token) copy = Unit {0}

module _ (o : Office) (b : List ℕ) (book : Book) (at : get o.books b ≡ Some book) (sound : IsSoundBook o book) where
  last_here : (c : List ℕ) → last_change o b c ≡ number_of book c
  last_here c = ap (λ (x : Option Book). unwrap_or (option_map (λ (k : Book). number_of k c) x) 0) at

  all_after : ℕ → List Change
  all_after n = changes_after book.changes.last n

  change_last : (n number : ℕ) (q : List ℕ) → Mem (number, q) (changes_after book.changes.last n) → get book.changes.last q ≡ Some number
  change_last n number q m = after_last book.changes.last n number q m

  change_number : (n number : ℕ) (q : List ℕ) → Mem (number, q) (changes_after book.changes.last n) → number ≡ last_change o b q
  change_number n number q m = sym (last_here q ∙ ap (λ n. unwrap_or n 0) (change_last n number q m))

  change_there : (n : ℕ) (q : List ℕ) → n < last_change o b q → Mem (last_change o b q, q) (changes_after book.changes.last n)
  change_there n q more =
      after_whole book.changes.last sound.different n (last_change o b q) q
      (number_some (get book.changes.last q) n (rw (← last_here q) more) ∙ ap Some (sym (last_here q)))
      (above n (last_change o b q) more)

  within : (q : List ℕ) → last_change o b q ≤ book.changes.number
  within q = rw (last_here q) (elim (get book.changes.last q) as (λ k. get book.changes.last q ≡ k → unwrap_or k 0 ≤ book.changes.number) [ None ↦ λ _. omega arith | Some n ↦ λ e. (sound.within q n e).1 ] refl)

  -- what is listed is among the changes, and what isn't listed isn't seen
  listed_change : (circle : CircleOf) (token : Option Token) (number : ℕ) (q : List ℕ) → Mem (number, q) (reported o circle b book token) → Mem (number, q) (changes_after book.changes.last (start_of token))
  listed_change circle None number q m = filter_mem (λ (c : Change). is_some (seen o circle b c.1)) (number, q) (changes_after book.changes.last 0) m
  listed_change circle (Some token) number q m = m

  listed_rise : (circle : CircleOf) (token : Option Token) → Rising (start_of token) (reported o circle b book token)
  listed_rise circle None = rising_filter (λ (c : Change). is_some (seen o circle b c.1)) 0 (changes_after book.changes.last 0) (changes_rise book.changes.last 0)
  listed_rise circle (Some token) = changes_rise book.changes.last token.number

  -- the copy that a report is for: any one after a token, and the empty one without
  listed_there : (circle : CircleOf) (token : Option Token) (copy : NamesTo Seen) → ForCopy token copy → (q : List ℕ) → start_of token < last_change o b q
      → Mem (last_change o b q, q) (reported o circle b book token) ⊎ (get copy q ≡ seen o circle b q)
  listed_there circle (Some token) copy for q more = inl (change_there token.number q more)
  listed_there circle None copy for q more =
      elim (seen o circle b q) as (λ s. seen o circle b q ≡ s → Mem (last_change o b q, q) (reported o circle b book None) ⊎ (get copy q ≡ s)) [
        | None ↦ λ _. inr (ap (λ m. get m q) for ∙ get-empty name_cmp q)
        | Some s ↦ λ e. inl (mem_filter (λ (c : Change). is_some (seen o circle b c.1)) (last_change o b q, q) (changes_after book.changes.last 0) (change_there 0 q more) (ap is_some e))
      ] refl

  -- the changes of a report are those up to the number of its token
  pub report_changes : (circle : CircleOf) (token : Option Token) (limit : Option ℕ) (copy : NamesTo Seen) → ForCopy token copy
      → AreChanges o circle b copy (start_of token) ((report o circle b book token limit).token.number) (first_of limit (reported o circle b book token))
  report_changes circle token None copy for = record {
    last = λ number q m. change_number (start_of token) number q (listed_change circle token number q m);
    whole = λ q more few. listed_there circle token copy for q more;
  }
  report_changes circle token (Some limit) copy for = record {
    last = λ number q m. change_number (start_of token) number q (listed_change circle token number q (take_mem limit (number, q) (reported o circle b book token) m));
    whole = λ q more few.
        let changes = reported o circle b book token in
        elim (listed_there circle token copy for q more) [
          | inr is ↦ inr is
          | inl there ↦ inl (elim (nat_lt limit (length changes)) as (λ t. nat_lt limit (length changes) ≡ t → last_change o b q ≤ (if t then last_number (start_of token) (take limit changes) else book.changes.number) → Mem (last_change o b q, q) (take limit changes)) [
            | true ↦ λ _ h. among_first limit (start_of token) (last_change o b q) q changes (listed_rise circle token) there h
            | false ↦ λ e _. subst (λ cs. Mem (last_change o b q, q) cs) (sym (take_all limit changes (not_above limit (length changes) e))) there
          ] refl few)
        ];
  }

  pub right_reported : (circle : CircleOf) (token : Option Token) (limit : Option ℕ) (copy : NamesTo Seen) → ForCopy token copy → Right copy o circle b (start_of token)
      → Right (patch copy (report o circle b book token limit).items) o circle b (report o circle b book token limit).token.number
  right_reported circle token limit copy for right = right_patched o circle b (first_of limit (reported o circle b book token)) copy (start_of token) (report o circle b book token limit).token.number (report_changes circle token limit copy for) right

  pub whole_token : (circle : CircleOf) (token : Option Token) (limit : Option ℕ) → (report o circle b book token limit).truncated ≡ false → (report o circle b book token limit).token.number ≡ book.changes.number
  whole_token circle token limit e = ap (λ t. if t then last_number (start_of token) (first_of limit (reported o circle b book token)) else book.changes.number) e

  pub right_view : (circle : CircleOf) (copy : NamesTo Seen) → Right copy o circle b book.changes.number → IsView copy o circle b
  right_view circle copy right q = right q (within q)

  -- the token of a report names a number that the book has reached
  pub token_within : (circle : CircleOf) (token : Option Token) (limit : Option ℕ) → start_of token ≤ book.changes.number → (report o circle b book token limit).token.number ≤ book.changes.number
  token_within circle token None few = omega arith
  token_within circle token (Some limit) few =
      let changes = reported o circle b book token in
      elim (nat_lt limit (length changes)) as (λ t. (if t then last_number (start_of token) (take limit changes) else book.changes.number) ≤ book.changes.number) [
        | true ↦ last_number_within (start_of token) book.changes.number (take limit changes) few
            (λ number q m. (sound.within q number (change_last (start_of token) number q (listed_change circle token number q (take_mem limit (number, q) changes m)))).1)
        | false ↦ omega arith
      ]

  none_seen : (circle : CircleOf) (q : List ℕ) (card : Option StoredCard) → card ≡ None
      → option_and_then (λ (k : StoredCard). if can_read o circle b q k then Some (shown (number_of book q) k) else None) card ≡ None
  none_seen circle q None e = refl
  none_seen circle q (Some card) e = absurd cc

  -- the empty copy is right before the first change
  pub empty_right : (circle : CircleOf) → Right empty o circle b 0
  empty_right circle q few = get-empty name_cmp q ∙ sym (ap (option_and_then (seen_in o circle b q)) at ∙ none_seen circle q (get book.cards q) no_card)
    where
      no_card : get book.cards q ≡ None
      no_card = elim (get book.cards q) as (λ c. get book.cards q ≡ c → c ≡ None) [
        | None ↦ λ _. refl
        | Some card ↦ λ e.
            where_some (get book.changes.last q) (sound.changed q card e) (λ n num.
            let low = (sound.within q n num).0 in
            let here : last_change o b q ≡ n = last_here q ∙ ap (λ n. unwrap_or n 0) num in
            absurd (omega arith))
      ] refl

-- a copy that is right at a report's token is the view where the report isn't truncated
whole_view : (o : Office) (circle : CircleOf) (b : List ℕ) (book : Book) (at : get o.books b ≡ Some book) (sound : IsSoundBook o book) (token : Option Token) (limit : Option ℕ) (copy : NamesTo Seen)
    → Right copy o circle b (report o circle b book token limit).token.number → (report o circle b book token limit).truncated ≡ false → IsView copy o circle b
whole_view o circle b book at sound token limit copy made whole =
    right_view o b book at sound circle copy (subst (λ n. Right copy o circle b n) (whole_token o b book at sound circle token limit whole) made)

-- a copy that was right by a token, patched by a report after it in the same epoch, is right by the report's token
pub follows : (o p : Office) (circle : CircleOf) (t : Token) (x y : Book) (limit : Option ℕ) → Later o p → p.epoch ≡ o.epoch
    → get o.books t.book ≡ Some x → get p.books t.book ≡ Some y → t.number ≤ x.changes.number → IsSoundBook p y
    → Follows o p circle t (report p circle t.book y (Some t) limit)
follows o p circle t x y limit later same at there reached sound copy right =
    let kept : Kept o p = elim later [ inl h ↦ absurd (omega (arith, h, same)) | inr h ↦ h.1 ] in
    let now = right_kept o p circle t.book x copy t.number at kept reached right in
    let made = right_reported p t.book y there sound circle (Some t) limit copy tt now in
    (made, whole_view p circle t.book y there sound (Some t) limit (patch copy (report p circle t.book y (Some t) limit).items) made)

-- the empty copy patched by an initial report
pub begins : (o : Office) (circle : CircleOf) (b : List ℕ) (book : Book) (limit : Option ℕ) → get o.books b ≡ Some book → IsSoundBook o book
    → Begins o circle b (report o circle b book None limit)
begins o circle b book limit at sound =
    let made = right_reported o b book at sound circle None limit empty refl (empty_right o b book at sound circle) in
    (made, whole_view o circle b book at sound None limit (patch empty (report o circle b book None limit).items) made)
