-- An edit of a sound Office within the limits leaves a sound Office.
use Rattle.book_office.proofs.Common.{◌≡◌, ◌≢◌, inr, ℕ, ◌+◌, ◌<◌, ◌≤◌, List, Option, Some, None, refl, sym, ap, ◌∙◌, subst, option_map, option_and_then, le_trans, arith, get, insert, remove, same_Some, IsName, Book, StoredCard, Office, LAST_NUMBER, changed_at, with_book, put_card, remove_card, copy_from, move_to, new_book, card_at, NamesTo, IsMapped, IsOwner, IsSoundCard, IsSoundBook, IsSound, some_apart, where_some, is_there, by_put, by_removed, by_changed}
use Rattle.std.proofs.Common.{◌-◌}
use Rattle.std.specs.FinMap.{len}
use Rattle.book_limits.specs.declared.TheConstants.{MAX_CARDS, MAX_BOOKS}
use Rattle.book_office.specs.Edits.{card_put, card_copied}
use Rattle.book_office.specs.Fitting.{PutCardFits, RemoveCardFits, CopyCardFits, MoveAcrossFits, MoveWithinFits, AddBookFits, RemoveBookFits}
use Rattle.book_office.specs.Fitting.{HasRoom}
use Rattle.book_office.proofs.KnownPrincipals.{properties_known, card_known, book_known}
use Rattle.book_office_values.proofs.Labels.{empty_label}
use Rattle.book_office_values.specs.Texts.{IsLabel, IsCardText}
use Rattle.book_office_values.proofs.NameMapLaws.{len_put, len_removed, len_removed_there}
use Rattle.book_office_values.proofs.OneName.{changed_here, changed_elsewhere, len_changed}
use Rattle.book_office.proofs.MovedCards.{card_there, card_is}
use Rattle.book_office.proofs.SoundBooks.{placed_sound, removed_sound, card_named, new_book_sound}

-- other books and another epoch make a sound Office where these are sound
pub books_sound : (o : Office) (books : NamesTo Book) (epoch : ℕ) → IsSound o
    → ((name : List ℕ) (book : Book) → get books name ≡ Some book → IsName name × IsSoundBook o book) → len books ≤ MAX_BOOKS → epoch ≤ LAST_NUMBER
    → IsSound (record o { books = books; epoch = epoch })
books_sound o books epoch sound each few low =
    let p : Office = record o { books = books; epoch = epoch } in
    let known : (principal : List ℕ) → IsMapped o principal → IsMapped p principal = λ _ h. h in
    record {
      root = properties_known o p known o.root sound.root;
      people = properties_known o p known o.people sound.people;
      groups_home = properties_known o p known o.groups_home sound.groups_home;
      books_home = properties_known o p known o.books_home sound.books_home;
      persons = λ name properties e. let h = sound.persons name properties e in (h.0, properties_known o p known properties h.1);
      groups = λ name properties e. let h = sound.groups name properties e in (h.0, properties_known o p known properties h.1);
      books = λ name book e. let h = each name book e in (h.0, book_known o p known book h.1);
      few = few;
      pairs = λ pair e. let h = sound.pairs pair e in record { group = h.group; member = h.member };
      members = sound.members;
      epoch = low;
    }

-- one book changed
pub with_book_sound : (o : Office) (b : List ℕ) (change : Book → Book) (book : Book) → IsSound o
    → get o.books b ≡ Some book → IsSoundBook o (change book)
    → IsSound (with_book change o b)
with_book_sound o b change book sound at good = books_sound o (changed_at change o.books b) o.epoch sound
    (λ q k. by_changed o.books b change q (λ r. r ≡ Some k → IsName q × IsSoundBook o k)
    (λ is h.
    let here : get o.books q ≡ Some book = ap (get o.books) is ∙ at in
    let new : change book ≡ k = same_Some (change book) k (sym (ap (option_map change) here) ∙ h) in
    ((sound.books q book here).0, subst (IsSoundBook o) new good))
    (λ _. sound.books q k))
    (rw (len_changed o.books b change) sound.few)
    sound.epoch

-- PUT leaves a sound card
card_put_sound : (o : Office) (old : Option StoredCard) (owner : Option (List ℕ)) (text : List ℕ) → ((card : StoredCard) → old ≡ Some card → IsSoundCard o card)
    → IsOwner o owner → IsCardText text → IsSoundCard o (card_put old owner text)
card_put_sound o None owner text good known short = record { owner = known; label = empty_label; own = record { few = omega arith; known = λ k d l. absurd (omega arith) }; text = short }
card_put_sound o (Some card) owner text good known short = let h = good card refl in record { owner = h.owner; label = h.label; own = h.own; text = short }

pub put_card_fits : PutCardFits
put_card_fits o b c owner text book sound at named known low room short =
    let good : IsSoundBook o book = (sound.books b book at).1 in
    let card : IsSoundCard o (card_put (get book.cards c) owner text) = card_put_sound o (get book.cards c) owner text (good.cards c) known short in
    record {
      possible = λ none. some_apart (sym at ∙ none);
      sound = with_book_sound o b (put_card c owner text) book sound at (placed_sound o book c good _ named card low room);
    }

pub remove_card_fits : RemoveCardFits
remove_card_fits o b c book sound at mapped low =
    let good : IsSoundBook o book = (sound.books b book at).1 in
    record {
      possible = λ none. mapped (sym (ap (option_and_then (λ (k : Book). get k.cards c)) at) ∙ none);
      sound = with_book_sound o b (remove_card c) book sound at (removed_sound o book c good (card_named o book c good mapped) low);
    }

-- COPY leaves a sound card
card_copied_sound : (o : Office) (old : Option StoredCard) (owner : Option (List ℕ)) (label text : List ℕ) → ((card : StoredCard) → old ≡ Some card → IsSoundCard o card)
    → IsOwner o owner → IsLabel label → IsCardText text → IsSoundCard o (card_copied old owner label text)
card_copied_sound o None owner label text good known low short =
    record { owner = known; label = low; own = record { few = omega arith; known = λ k d l. absurd (omega arith) }; text = short }
card_copied_sound o (Some card) owner label text good known low short = let h = good card refl in record { owner = h.owner; label = low; own = h.own; text = short }

pub copy_card_fits : CopyCardFits
copy_card_fits o fb fc tb tc owner target sound mapped at named known low room =
    card_there o fb fc mapped (λ source source_at there is. where_some (get source.cards fc) there (λ card here.
    let good : IsSoundBook o target = (sound.books tb target at).1 in
    let old : IsSoundCard o card = (sound.books fb source source_at).1.cards fc card here in
    let copy : IsSoundCard o (card_copied (get target.cards tc) owner card.label card.text) =
    card_copied_sound o (get target.cards tc) owner card.label card.text (good.cards tc) known old.label old.text in
    record {
      possible = (mapped, λ none. some_apart (sym at ∙ none));
      sound = subst (λ r. IsSound (with_book (copy_from r tc owner) o tb)) (sym (is ∙ here))
          (with_book_sound o tb (copy_from (Some card) tc owner) target sound at (placed_sound o target tc good _ named copy low room));
    }))

-- a card put where a sound card was removed before, in an Office that differs from a sound one by that removal
module _ (o : Office) (fb fc : List ℕ) (source : Book) (card : StoredCard) (sound : IsSound o) (at : get o.books fb ≡ Some source) (here : get source.cards fc ≡ Some card) (low : source.changes.number < LAST_NUMBER) where
  abbrev without_it : Office
  without_it = with_book (remove_card fc) o fb

  good_source : IsSoundBook o source
  good_source = (sound.books fb source at).1

  is_mapped : get source.cards fc ≢ None
  is_mapped none = some_apart (sym here ∙ none)

  sound_without : IsSound without_it
  sound_without = with_book_sound o fb (remove_card fc) source sound at (removed_sound o source fc good_source (card_named o source fc good_source is_mapped) low)

  sound_card : IsSoundCard without_it card
  sound_card = card_known o without_it (λ _ h. h) card (good_source.cards fc card here)

  moved_sound : (tb tc : List ℕ) (target : Book) → get without_it.books tb ≡ Some target → IsName tc → target.changes.number < LAST_NUMBER → HasRoom target tc
      → IsSound (with_book (move_to (card_at o fb fc) tc) without_it tb)
  moved_sound tb tc target beside named free room = subst (λ r. IsSound (with_book (move_to r tc) without_it tb)) (sym (card_is o fb fc source card at here))
      (with_book_sound without_it tb (move_to (Some card) tc) target sound_without beside
      (placed_sound without_it target tc (sound_without.books tb target beside).1 card named sound_card free room))

  is_at : card_at o fb fc ≢ None
  is_at none = some_apart (sym (card_is o fb fc source card at here) ∙ none)

pub move_across_fits : MoveAcrossFits
move_across_fits o fb fc tb tc source target sound apart at there beside named low free room = where_some (get source.cards fc) there (λ card here. record {
  possible = (is_at o fb fc source card sound at here low, (λ none. some_apart (sym beside ∙ none)), λ one. absurd (apart one));
  sound = moved_sound o fb fc source card sound at here low tb tc target
      (changed_elsewhere o.books fb (remove_card fc) tb (λ is. apart (sym is)) ∙ beside) named free room;
})

pub move_within_fits : MoveWithinFits
move_within_fits o b fc tc book sound apart at there named low = where_some (get book.cards fc) there (λ card here.
    let few : len book.cards ≤ MAX_CARDS = (sound.books b book at).1.few in
    let fewer : len (remove book.cards fc) ≡ len book.cards - 1 = len_removed_there book.cards fc (is_there _ there) in
    let room : len (remove book.cards fc) < MAX_CARDS = rw fewer (omega (arith, few)) in
    record {
      possible = (is_at o b fc book card sound at here (omega (arith, low)), (λ none. some_apart (sym at ∙ none)), λ _. apart);
      sound = moved_sound o b fc book card sound at here (omega (arith, low)) b tc (remove_card fc book)
          (changed_here o.books b (remove_card fc) ∙ ap (option_map (remove_card fc)) at) named low (inr room);
    })

pub add_book_fits : AddBookFits
add_book_fits o b owner sound none named known room = record {
  possible = none;
  sound = books_sound o (insert o.books b (new_book owner)) o.epoch sound
      (λ q k. by_put o.books b (new_book owner) q (λ r. r ≡ Some k → IsName q × IsSoundBook o k)
      (λ is h.
      let good : IsSoundBook o k = subst (IsSoundBook o) (same_Some (new_book owner) k h) (new_book_sound o owner known) in
      (subst IsName (sym is) named, good))
      (λ _. sound.books q k))
      (len_put o.books b (new_book owner) MAX_BOOKS (inr room))
      sound.epoch;
}

pub remove_book_fits : RemoveBookFits
remove_book_fits o b sound mapped low = record {
  possible = mapped;
  sound = books_sound o (remove o.books b) (o.epoch + 1) sound
      (λ q k. by_removed o.books b q (λ r. r ≡ Some k → IsName q × IsSoundBook o k) (λ _ h. some_apart (sym h)) (λ _. sound.books q k))
      (le_trans (len_removed o.books b) sound.few)
      (omega arith);
}
