-- What is sound by the principals that are there stays so while they are.
use Rattle.book_office.proofs.Common.{ℕ, List, Option, Some, None, Entry, Book, StoredCard, Office, Properties, IsMapped, IsOwner, IsSoundList, AreSoundProperties, IsSoundCard, IsSoundBook}
use Rattle.book_lists.specs.declared.entries.Who.{Who}
use Rattle.book_lists.specs.declared.entries.Who.TheVariants.{Href, Everyone, Authenticated, Unauthenticated, Owner, Own}
use Rattle.book_office.specs.Sound.{IsKnownForm}

module _ (o p : Office) (known : (principal : List ℕ) → IsMapped o principal → IsMapped p principal) where
  owner_known : (owner : Option (List ℕ)) → IsOwner o owner → IsOwner p owner
  owner_known None h = tt
  owner_known (Some owner) h = known owner h

  form_known : (who : Who) → IsKnownForm o who → IsKnownForm p who
  form_known (Href principal) h = known principal h
  form_known Everyone h = tt
  form_known Authenticated h = tt
  form_known Unauthenticated h = tt
  form_known Owner h = tt
  form_known Own h = tt

  list_known : (list : List Entry) → IsSoundList o list → IsSoundList p list
  list_known list h = record { few = h.few; known = λ k d l. form_known _ (h.known k d l) }

  pub properties_known : (properties : Properties) → AreSoundProperties o properties → AreSoundProperties p properties
  properties_known properties h = record {
    owner = owner_known properties.owner h.owner;
    label = h.label;
    protected = list_known properties.protected h.protected;
    own = list_known properties.own h.own;
  }

  pub card_known : (card : StoredCard) → IsSoundCard o card → IsSoundCard p card
  card_known card h = record { owner = owner_known card.owner h.owner; label = h.label; own = list_known card.own h.own; text = h.text }

  pub book_known : (book : Book) → IsSoundBook o book → IsSoundBook p book
  book_known book h = record {
    properties = properties_known book.properties h.properties;
    cards = λ name card e. card_known card (h.cards name card e);
    few = h.few;
    changed = h.changed;
    names = h.names;
    within = h.within;
    different = h.different;
    last = h.last;
  }
