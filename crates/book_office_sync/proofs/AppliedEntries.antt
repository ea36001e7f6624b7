-- Entries that apply nowhere decide nothing.
use Rattle.book_office_sync.proofs.Common.{◌≡◌, true, false, cond, ◌&&◌, List, [], ◌∷◌, ◌++◌, Option, Some, None, refl, sym, ap, ◌∙◌, if◌then◌else◌, CircleOf, NamesTo, StoredCard, Level}
use Rattle.std.proofs.Common.{not, ℕ, append_assoc}
use Rattle.std.proofs.lemmas.List.Elements.{filter-append}
use Rattle.book_rights.specs.declared.privileges.Leaf.{Leaf}
use Rattle.book_rights.specs.declared.privileges.Leaf.TheVariants.{ReadTexts, ReadNames}
use Rattle.book_lists.specs.Entries.{applies}
use Rattle.book_lists.specs.declared.entries.Entry.{Entry}
use Rattle.book_lists.specs.declared.entries.Here.{Here}
use Rattle.book_office.specs.declared.nodes.Changed.{Changed}
use Rattle.book_office_sync.specs.Copies.{grants, here_of_card}
use Rattle.book_office_sync.specs.Granted.{text_of, put_text, put_texts}
use Rattle.book_office_sync.specs.Reading.{above_of, entries_under, is_granted, found_in, item_in}
use Rattle.book_office_sync.specs.Sifting.{applied, AppliesAs, IsAboveOf}
use Rattle.book_office_sync.specs.declared.reports.Above.{Above}

-- ---- among those that apply the same is first
module _ (circle : CircleOf) (here : Here) (leaf : Leaf) where
  grants_applied : (entries : List Entry) → grants (applied circle here entries) circle here leaf ≡ grants entries circle here leaf
  grants_applied [] = refl
  grants_applied (e ∷ es) =
      elim (applies e circle here) as (λ b. applies e circle here ≡ b
      → grants (cond b (e ∷ applied circle here es) (applied circle here es)) circle here leaf ≡ cond (b && e.set leaf) (not e.deny) (grants es circle here leaf)) [
        | true ↦ λ is. ap (λ b. cond (b && e.set leaf) (not e.deny) (grants (applied circle here es) circle here leaf)) is
            ∙ ap (λ rest. cond (e.set leaf) (not e.deny) rest) (grants_applied es)
        | false ↦ λ is. grants_applied es
      ] refl

  grants_same : (xs ys : List Entry) → applied circle here xs ≡ applied circle here ys → grants xs circle here leaf ≡ grants ys circle here leaf
  grants_same xs ys same = sym (grants_applied xs) ∙ ap (λ es. grants es circle here leaf) same ∙ grants_applied ys

-- ---- lists one after the other
module _ (circle : CircleOf) where
  pub applied_both : (xs ks ys ls : List Entry) → AppliesAs circle xs ks → AppliesAs circle ys ls → AppliesAs circle (xs ++ ys) (ks ++ ls)
  applied_both xs ks ys ls first second = λ here.
      filter-append (λ (entry : Entry). applies entry circle here) ks ls
      ∙ (λ k. first here k ++ second here k)
      ∙ sym (filter-append (λ (entry : Entry). applies entry circle here) xs ys)

  -- one that applies nowhere may be left out
  pub one_less : (entry : Entry) (xs ys : List Entry) → ((here : Here) → applies entry circle here ≡ false) → AppliesAs circle (xs ++ entry ∷ ys) (xs ++ ys)
  one_less entry xs ys never = applied_both xs xs (entry ∷ ys) ys (λ here. refl)
      (λ here. sym (ap (λ b. cond b (entry ∷ applied circle here ys) (applied circle here ys)) (never here)))

  -- one list more is kept
  pub kept_more : (all first next rest kept : List Entry) → AppliesAs circle all (first ++ (next ++ rest)) → AppliesAs circle (first ++ next) kept → AppliesAs circle all (kept ++ rest)
  kept_more all first next rest kept so_far more = λ here.
      applied_both (first ++ next) kept rest rest more (λ h. refl) here
      ∙ ap (applied circle here) (append_assoc first next rest) ∙ so_far here

-- ---- by what is kept of the entries of levels cards are read as by all of them
module _ (circle : CircleOf) (levels : List Level) (above : Above) (is : IsAboveOf circle levels above) where
  granted_same : (here : Here) (own : List Entry) (leaf : Leaf) → is_granted above circle here own leaf ≡ is_granted (above_of levels) circle here own leaf
  granted_same here own leaf =
      let all = above_of levels in
      grants_same circle here leaf (entries_under above own) (entries_under all own)
      (applied_both circle all.protected above.protected (own ++ all.own) (own ++ above.own) is.protected
      (applied_both circle own own all.own above.own (λ h. refl) is.own) here)

  found_same : (card : Option StoredCard) → found_in above circle card ≡ found_in (above_of levels) circle card
  found_same None = refl
  found_same (Some card) = λ i.
      if granted_same (here_of_card card) card.own ReadTexts i && granted_same (here_of_card card) card.own ReadNames i
      then Some (record { label = card.label; text = card.text }) else None

  pub item_same : item_in above circle ≡ item_in (above_of levels) circle
  item_same = λ i change. record { name = change.name; number = change.number; found = found_same change.card i }

  text_same : (leaf : Leaf) (card : Option StoredCard) → text_of above circle leaf card ≡ text_of (above_of levels) circle leaf card
  text_same leaf None = refl
  text_same leaf (Some card) = λ i. if granted_same (here_of_card card) card.own leaf i then Some card.text else None

  pub texts_same : {V : Type 0} (kept : List ℕ → V) (leaf : Leaf) (cs : List Changed) (told : NamesTo V) → put_texts kept above circle leaf cs told ≡ put_texts kept (above_of levels) circle leaf cs told
  texts_same kept leaf [] told = refl
  texts_same kept leaf (c ∷ cs) told =
      texts_same kept leaf cs (put_text kept told c.name (text_of above circle leaf c.card))
      ∙ ap (λ t. put_texts kept (above_of levels) circle leaf cs (put_text kept told c.name t)) (text_same leaf c.card)
