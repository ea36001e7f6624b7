-- A copy that is right and is patched by what changed since is right.
use Rattle.book_office_sync.proofs.Common.{◌≡◌, ℕ, ◌<◌, ◌≤◌, ◌⊎◌, inl, inr, List, [], ◌∷◌, map, Bool, true, false, cond, Option, Some, None, refl, sym, ap, ◌∙◌, subst, option_map, option_and_then, unwrap_or, if◌then◌else◌, get, CircleOf, StoredCard, Book, Office, number_of, NamesTo, Seen, Change, seen, shown, found_of, item_of, last_change, patch, Right, Mem}
use Rattle.std.proofs.lemmas.Bool.{cases_lt}
use Rattle.std.specs.Cmp.{eq_by_cmp_equiv}
use Rattle.std.specs.Cmp.Lexicographic.{nat_list_cmp_total}
use Rattle.std.specs.FinMap.{get-insert, get-remove}
use Rattle.std.proofs.lemmas.Option.{same_Some}
use Rattle.book_office_values.proofs.NameMapLaws.{same, by_same}
use Rattle.book_office_sync.specs.Copies.{can_read, seen_in, patched}

-- the changes above n and up to m: each is the last of its name, and each name is there but those on which the copy is right
pub record AreChanges (o : Office) (circle : CircleOf) (b : List ℕ) (copy : NamesTo Seen) (n m : ℕ) (changes : List Change) : Type 0 where
  pub last : (number : ℕ) (name : List ℕ) → Mem (number, name) changes → number ≡ last_change o b name
  pub whole : (name : List ℕ) → n < last_change o b name → last_change o b name ≤ m → Mem (last_change o b name, name) changes ⊎ (get copy name ≡ seen o circle b name)

module _ (o : Office) (circle : CircleOf) (b : List ℕ) where
  number_in : (c : List ℕ) (n : ℕ) (r : Bool) (card : StoredCard) (s : Seen) → (if r then Some (shown n card) else None) ≡ Some s → s.number ≡ n
  number_in c n true card s e = ap (λ (x : Seen). x.number) (sym (same_Some (shown n card) s e))
  number_in c n false card s e = absurd cc

  number_of_card : (c : List ℕ) (book : Book) (card : Option StoredCard) (s : Seen)
      → option_and_then (λ (k : StoredCard). if can_read o circle b c k then Some (shown (number_of book c) k) else None) card ≡ Some s → s.number ≡ number_of book c
  number_of_card c book None s e = absurd cc
  number_of_card c book (Some card) s e = number_in c (number_of book c) (can_read o circle b c card) card s e

  number_there : (c : List ℕ) (book : Option Book) (s : Seen) → option_and_then (seen_in o circle b c) book ≡ Some s
      → s.number ≡ unwrap_or (option_map (λ (k : Book). number_of k c) book) 0
  number_there c None s e = absurd cc
  number_there c (Some book) s e = number_of_card c book (get book.cards c) s e

  -- what is seen at a name has the number of the name's last change
  seen_number : (c : List ℕ) (s : Seen) → seen o circle b c ≡ Some s → s.number ≡ last_change o b c
  seen_number c s e = number_there c (get o.books b) s e

  -- a copy patched by the item of a name
  patched_at : (copy : NamesTo Seen) (number : ℕ) (name q : List ℕ) → number ≡ last_change o b name
      → get (patched copy (item_of o circle b (number, name)) (option_map found_of (seen o circle b name))) q ≡ cond (same q name) (seen o circle b name) (get copy q)
  patched_at copy number name q is =
      elim (seen o circle b name) as (λ s. seen o circle b name ≡ s → get (patched copy (item_of o circle b (number, name)) (option_map found_of s)) q ≡ cond (same q name) s (get copy q)) [
        | None ↦ λ _. get-remove nat_list_cmp_total copy name q
        | Some s ↦ λ e.
            get-insert nat_list_cmp_total copy name (record { number = number; label = s.label; text = s.text }) q
            ∙ ap (λ n. cond (same q name) (Some (record { number = n; label = s.label; text = s.text })) (get copy q)) (is ∙ sym (seen_number name s e))
      ] refl

  patch_keeps : (changes : List Change) (copy : NamesTo Seen) (q : List ℕ)
      → ((number : ℕ) (name : List ℕ) → Mem (number, name) changes → number ≡ last_change o b name)
      → get copy q ≡ seen o circle b q → get (patch copy (map (item_of o circle b) changes)) q ≡ seen o circle b q
  patch_keeps [] copy q last h = h
  patch_keeps (c ∷ cs) copy q last h =
      patch_keeps cs (patched copy (item_of o circle b c) (item_of o circle b c).found) q (λ n k m. last n k (inr m))
      (patched_at copy c.0 c.1 q (last c.0 c.1 (inl refl)) ∙ by_same q c.1 (λ t. cond t (seen o circle b c.1) (get copy q) ≡ seen o circle b q) (λ is. ap (seen o circle b) (sym is)) h)

  patch_sets : (changes : List Change) (copy : NamesTo Seen) (number : ℕ) (q : List ℕ)
      → ((number : ℕ) (name : List ℕ) → Mem (number, name) changes → number ≡ last_change o b name)
      → Mem (number, q) changes → get (patch copy (map (item_of o circle b) changes)) q ≡ seen o circle b q
  patch_sets [] copy number q last m = absurd m
  patch_sets (c ∷ cs) copy number q last m = elim m [
    | inl is ↦
        let name : q ≡ c.1 = ap (λ (p : Change). p.1) is in
        let tie : same q c.1 ≡ true = subst (λ k. same q k ≡ true) name ((eq_by_cmp_equiv nat_list_cmp_total).refl q) in
        patch_keeps cs (patched copy (item_of o circle b c) (item_of o circle b c).found) q (λ n k h. last n k (inr h))
        (patched_at copy c.0 c.1 q (last c.0 c.1 (inl refl)) ∙ ap (λ t. cond t (seen o circle b c.1) (get copy q)) tie ∙ ap (seen o circle b) (sym name))
    | inr r ↦ patch_sets cs (patched copy (item_of o circle b c) (item_of o circle b c).found) number q (λ n k h. last n k (inr h)) r
  ]

  -- patched by the changes up to m, a copy that was right at n is right at m
  pub right_patched : (changes : List Change) (copy : NamesTo Seen) (n m : ℕ) → AreChanges o circle b copy n m changes → Right copy o circle b n
      → Right (patch copy (map (item_of o circle b) changes)) o circle b m
  right_patched changes copy n m are right q few =
      elim (cases_lt n (last_change o b q)) [
        | inl more ↦ elim (are.whole q more few) [
          | inl there ↦ patch_sets changes copy (last_change o b q) q are.last there
          | inr is ↦ patch_keeps changes copy q are.last is
        ]
        | inr less ↦ patch_keeps changes copy q are.last (right q less)
      ]
