-- The objects of an answer tell what its text tells.
use Rattle.std.specs.Prelude.{◌≡◌, Bool, List}
use Rattle.std.specs.List.{flat_map}
use Rattle.book_rights.specs.declared.privileges.Leaf.{Leaf}
use Rattle.book_questions.specs.Lines.{why_text}
use Rattle.book_questions.specs.Who.{who_text}
use Rattle.book_questions.specs.declared.holders.Holder.{Holder}
use Rattle.book_questions.specs.declared.whys.InForce.{InForce}
use Rattle.book_questions.specs.declared.whys.Why.{Why}
use Rattle.book_questions_rights.specs.EqualCards.{Class}
use Rattle.book_questions_rights.specs.Lines.{class_block, own_block}
use Rattle.book_questions_rights.specs.declared.askers.Asker.{Asker}
use Rattle.book_questions_rights.specs.declared.places.Place.{Place}
use Rattle.book_questions_json.specs.Facts.{Fact, who_facts, why_facts}
use Rattle.book_questions_json.specs.Held.{Held, held_data, held_words}
use Rattle.book_questions_json.specs.HeldBlocks.{class_held, own_held}
use Rattle.book_questions_json.specs.Objects.{data_of}
use Rattle.book_questions_json.specs.Words.{words}

-- the text of an answer has the words of the facts whose objects are told, in the same order
abbrev pub TextsTellTheFacts : Type 0
TextsTellTheFacts =
    ((why : Why) → why_text why ≡ flat_map words (why_facts why))
    × ((denied : Bool) (force : InForce) (set : Leaf → Bool) (holders : List Holder) → who_text denied force set holders ≡ flat_map words (who_facts denied force set holders))

-- the lines of rights at a place, and at equal cards, have the words of those whose objects are told there, in the same order
abbrev pub RightsTellTheHeld : Type 0
RightsTellTheHeld =
    ((askers : List Asker) (place : Place) → (own_block askers place).1 ≡ flat_map held_words (own_held askers place))
    × ((askers : List Asker) (place : Place) (class : Class) → (class_block askers place class).1 ≡ flat_map held_words (class_held askers place class))

-- an object tells each value of the words of its fact: facts with one object have the same words
abbrev pub ObjectsTellTheWords : Type 0
ObjectsTellTheWords =
    ((fact other : Fact) → data_of fact ≡ data_of other → words fact ≡ words other)
    × ((held other : Held) → held_data held ≡ held_data other → held_words held ≡ held_words other)
