-- The report that is read, and that of the definition.
use Rattle.book_office_sync.proofs.Common.{◌≡◌, ℕ, true, cond, List, [], ◌∷◌, map, filter, Option, Some, None, is_some, option_map, option_and_then, refl, sym, ap, ◌∙◌, if◌then◌else◌, get, CircleOf, Change, Book, Office, Item, Token, seen, found_of, item_of, start_of, report, is_valid, sync}
use Rattle.book_office_sync.specs.Copies.{reported, sync_of}
use Rattle.book_office_sync.specs.Limits.{AreEnough, told_report}
use Rattle.book_office_sync.proofs.CutReports.{told_is}
use Rattle.book_office_sync.specs.Reading.{names_place}

same_valid : (o : Office) (b : List ℕ) (x : Book) (token : Option Token) → names_place b o.epoch x.changes.number token ≡ is_valid o b x token
same_valid o b x None = refl
same_valid o b x (Some token) = refl

module _ (o : Office) (circle : CircleOf) (b : List ℕ) where
  -- the items of cards that may be read
  pub found_items : (cs : List Change) → filter (λ (item : Item). is_some item.found) (map (item_of o circle b) cs)
      ≡ map (item_of o circle b) (filter (λ (c : Change). is_some (seen o circle b c.1)) cs)
  found_items [] = refl
  found_items (c ∷ cs) =
      let told = filter (λ (item : Item). is_some item.found) (map (item_of o circle b) cs) in
      let kept = filter (λ (c : Change). is_some (seen o circle b c.1)) cs in
      elim (seen o circle b c.1) as (λ s. cond (is_some (option_map found_of s)) (item_of o circle b c ∷ told) told ≡ map (item_of o circle b) (cond (is_some s) (c ∷ kept) kept)) [
        | None ↦ found_items cs
        | Some s ↦ ap (λ r. item_of o circle b c ∷ r) (found_items cs)
      ]

  of_book : (token : Option Token) (limit : Option ℕ) (x : Book) → is_valid o b x token ≡ true → Some (report o circle b x token limit) ≡ sync_of o circle b token limit x
  of_book token limit x valid = ap (λ v. if v then Some (report o circle b x token limit) else None) (sym valid)

  -- the report by what was read of the book
  read_at : (token : Option Token) (limit : Option ℕ) (x : Book) (name : List ℕ) (epoch number : ℕ) (items : List Item) → get o.books b ≡ Some x
      → name ≡ b → epoch ≡ o.epoch → number ≡ x.changes.number → names_place b epoch number token ≡ true
      → AreEnough limit (map (item_of o circle b) (reported o circle b x token)) items
      → Some (told_report (start_of token) limit items (record { book = name; epoch = epoch; number = number })) ≡ sync o circle b token limit
  read_at token limit x name epoch number items at name_is epoch_is number_is valid told =
      let here : is_valid o b x token ≡ true = sym (same_valid o b x token) ∙ (λ i. names_place b (sym epoch_is i) (sym number_is i) token) ∙ valid in
      (λ i. Some (told_report (start_of token) limit items (record { book = name_is i; epoch = epoch_is i; number = number_is i })))
      ∙ ap Some (told_is (item_of o circle b) (λ c. refl) (start_of token) limit items (reported o circle b x token) (record { book = b; epoch = o.epoch; number = x.changes.number }) told)
      ∙ of_book token limit x here ∙ ap (option_and_then (sync_of o circle b token limit)) (sym at)

  pub report_read : (token : Option Token) (limit : Option ℕ) (name : List ℕ) (epoch number : ℕ) (items : List Item) (there : Option ℕ) → name ≡ b → epoch ≡ o.epoch
      → there ≡ option_map (λ (x : Book). x.changes.number) (get o.books b) → there ≡ Some number → names_place b epoch number token ≡ true
      → ((x : Book) → get o.books b ≡ Some x → AreEnough limit (map (item_of o circle b) (reported o circle b x token)) items)
      → Some (told_report (start_of token) limit items (record { book = name; epoch = epoch; number = number })) ≡ sync o circle b token limit
  report_read token limit name epoch number items there name_is epoch_is there_is some valid told = at (get o.books b) refl
    where
      at : (found : Option Book) → get o.books b ≡ found
          → Some (told_report (start_of token) limit items (record { book = name; epoch = epoch; number = number })) ≡ sync o circle b token limit
      at None e =
          let none : Some number ≡ None = sym some ∙ there_is ∙ ap (option_map (λ (x : Book). x.changes.number)) e in absurd cc
      at (Some x) e =
          let one : Some number ≡ Some x.changes.number = sym some ∙ there_is ∙ ap (option_map (λ (x : Book). x.changes.number)) e in
          let is : number ≡ x.changes.number = cc in
          read_at token limit x name epoch number items e name_is epoch_is is valid (told x e)
