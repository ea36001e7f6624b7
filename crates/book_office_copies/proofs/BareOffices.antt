-- A sound Office without its cards is sound.
use Rattle.std.proofs.Common.{◌≤◌, List, lit≤, sym, subst, ◌∙◌}
use Rattle.std.specs.FinMap.{get, len-empty}
use Rattle.book_limits.specs.declared.TheConstants.{MAX_BOOKS, MAX_CARDS}
use Rattle.book_lists.specs.Names.{name_cmp}
use Rattle.book_lists.specs.declared.entries.Entry.{Entry}
use Rattle.book_office.proofs.StandingResources.{from_map}
use Rattle.book_office.specs.Sound.{AreSoundProperties, IsSound, IsSoundBook, IsSoundList}
use Rattle.book_office_adopting.proofs.MappedEntries.{len_mapped}
use Rattle.book_office_adopting.proofs.Merges.{get_mapped}
use Rattle.book_office_adopting.specs.TakingOver.{bare, emptied}
use Rattle.book_office_values.proofs.OneName.{nothing_in}
use Rattle.book_office_values.specs.declared.offices.Book.{Book}
use Rattle.book_office_values.specs.declared.offices.Office.{Office}
use Rattle.book_office_values.specs.declared.offices.Properties.{Properties}
use Rattle.book_office_values.specs.declared.offices.StoredCard.{StoredCard}

module _ (o : Office) where
  list_bare : (list : List Entry) → IsSoundList o list → IsSoundList (bare o) list
  list_bare list sound = record { few = sound.few; known = sound.known }

  place_bare : (p : Properties) → AreSoundProperties o p → AreSoundProperties (bare o) p
  place_bare p sound = record {
    owner = sound.owner;
    label = sound.label;
    protected = list_bare p.protected sound.protected;
    own = list_bare p.own sound.own;
  }

  book_bare : (book : Book) → IsSoundBook o book → IsSoundBook (bare o) (emptied book)
  book_bare book sound = record {
    properties = place_bare book.properties sound.properties;
    cards = λ name card e. nothing_in name card e;
    few = subst (λ n. n ≤ MAX_CARDS) (sym (len-empty name_cmp StoredCard)) (lit≤ tt);
    changed = λ name card e. nothing_in name card e;
    names = λ name n e. nothing_in name n e;
    within = λ name n e. nothing_in name n e;
    different = λ a b n e. nothing_in a n e;
    last = lit≤ tt;
  }

  pub bare_sound : IsSound o → IsSound (bare o)
  bare_sound sound = record {
    root = place_bare o.root sound.root;
    people = place_bare o.people sound.people;
    groups_home = place_bare o.groups_home sound.groups_home;
    books_home = place_bare o.books_home sound.books_home;
    persons = λ name p e. let s = sound.persons name p e in (s.0, place_bare p s.1);
    groups = λ name p e. let s = sound.groups name p e in (s.0, place_bare p s.1);
    books = λ name book e. from_map emptied (get o.books name) book (sym (get_mapped (λ _ b. emptied b) o.books name) ∙ e) (λ b at is.
        let s = sound.books name b at in (s.0, subst (IsSoundBook (bare o)) is (book_bare b s.1)));
    few = subst (λ n. n ≤ MAX_BOOKS) (sym (len_mapped (λ _ b. emptied b) o.books)) sound.few;
    pairs = λ pair has. let s = sound.pairs pair has in record { group = s.group; member = s.member };
    members = sound.members;
    epoch = sound.epoch;
  }
