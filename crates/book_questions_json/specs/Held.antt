-- Who holds which leaves where, as facts: their words in a text, and their objects.
use Rattle.std.specs.Prelude.{ℕ, Bool, List, [], ◌∷◌, ◌++◌, codes, decimal, Option, Some, None, if◌then◌else◌}
use Rattle.std.specs.List.{flat_map}
use Rattle.serde_json.specs.Data.{Data, member, no_members, null, number, object, string, unsigned}
use Rattle.book_rights.specs.Leaves.{no_leaf, same_leaves}
use Rattle.book_rights.specs.declared.privileges.Leaf.{Leaf}
use Rattle.book_lists.specs.declared.circles.Caller.{Caller}
use Rattle.book_lists.specs.declared.entries.Entry.{Entry}
use Rattle.book_lists.specs.declared.entries.Here.{Here}
use Rattle.book_lists_explain.specs.Answers.{spaced}
use Rattle.book_lists_explain.specs.ShortNames.{short_list}
use Rattle.book_questions.specs.Who.{caller_text}
use Rattle.book_questions_rights.specs.Lines.{granted_by}
use Rattle.book_questions_rights.specs.declared.askers.Asker.{Asker}
use Rattle.book_questions_json.specs.Objects.{data_line, names_data}

-- a caller who holds leaves at a resource, or at each of so many equal cards, of which the place is that of the first
pub record Held : Type 0 where
  pub place : List ℕ
  pub cards : Option ℕ
  pub caller : Caller
  pub set : Leaf → Bool

-- ---- the words
abbrev pub head_words : List ℕ → Option ℕ → List ℕ
head_words place None = place
head_words place (Some n) = place ++ (codes " of " ++ decimal n)

abbrev pub held_words : Held → List ℕ
held_words held = head_words held.place held.cards ++ (codes " " ++ (caller_text held.caller ++ (flat_map spaced (short_list held.set) ++ codes "\n")))

-- ---- {"caller":PATH,"cards":N,"path":PATH,"privileges":[NAME, ..]}; the cards are null for a resource by itself
abbrev pub count_data : Option ℕ → Data
count_data None = null
count_data (Some n) = number (unsigned n)

abbrev pub held_data : Held → Data
held_data held =
    object (member (codes "caller") (string (caller_text held.caller))
    (member (codes "cards") (count_data held.cards)
    (member (codes "path") (string held.place)
    (member (codes "privileges") (names_data held.set) no_members))))

abbrev pub held_line : Held → List ℕ
held_line held = data_line (held_data held)

-- ---- those who hold a leaf by some entries
abbrev pub held_if : List ℕ → Option ℕ → Caller → (Leaf → Bool) → List Held
held_if place cards caller set = if same_leaves set no_leaf then [] else record { place = place; cards = cards; caller = caller; set = set } ∷ []

abbrev pub held_by : List ℕ → Option ℕ → List Entry → Here → Asker → List Held
held_by place cards entries here asker = held_if place cards asker.caller (granted_by entries asker.circle here)

abbrev pub held_at : List ℕ → Option ℕ → List Entry → Here → List Asker → List Held
held_at place cards entries here askers = flat_map (held_by place cards entries here) askers
