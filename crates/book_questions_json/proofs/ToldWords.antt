-- The words of a fact are read off its object.
use Rattle.book_questions_json.proofs.Common.{◌≡◌, ◌++◌, ◌∷◌, ◌∙◌, [], ℕ, zero, suc, Bool, false, List, Option, Some, None, codes, decimal, ap, flat_map, map, refl, sym, Denial, Decided, Fact, LeafFact, Privilege, Standing, holder, need, short_list, verdict}
use Rattle.serde_json.specs.Data.{Data, array, boolean, member, no_members, null, number, object, string, unsigned, negative, float, Items, no_items, item, Members, Num}
use Rattle.serde_json.specs.View.{items_of}
use Rattle.book_rights.specs.Privileges.{leaf_name, name_of}
use Rattle.book_lists_explain.specs.Answers.{spaced}
use Rattle.book_office_audit.specs.EntryLines.{action_word, invert_word, list_word, who_text}
use Rattle.book_office_listings.specs.declared.messages.DecidingEntry.{DecidingEntry}
use Rattle.book_questions.specs.Lines.{by_text, decision_word, verdict_line}
use Rattle.book_questions.specs.Who.{caller_text}
use Rattle.book_questions_json.specs.Held.{Held, count_data, head_words, held_data, held_words}
use Rattle.book_questions_json.specs.Laws.{ObjectsTellTheWords}
use Rattle.book_questions_json.specs.Objects.{data_of, decided_data, denial_data, entry_data, leaf_data, name_data, number_data, standing_data}
use Rattle.book_questions_json.specs.Words.{by_words, decided_words, leaf_words, standing_words, words}

-- ---- what is read off a value
abbrev text_in : Data → List ℕ
text_in null = []
text_in (boolean b) = []
text_in (number n) = []
text_in (string s) = s
text_in (array ds) = []
text_in (object ms) = []

abbrev digits_in : Num → List ℕ
digits_in (unsigned n) = decimal n
digits_in (negative z) = []
digits_in (float x) = []

abbrev number_in : Data → List ℕ
number_in null = []
number_in (boolean b) = []
number_in (number n) = digits_in n
number_in (string s) = []
number_in (array ds) = []
number_in (object ms) = []

abbrev holds_in : Data → Bool
holds_in null = false
holds_in (boolean b) = b
holds_in (number n) = false
holds_in (string s) = false
holds_in (array ds) = false
holds_in (object ms) = false

abbrev items_in : Data → Items
items_in null = no_items
items_in (boolean b) = no_items
items_in (number n) = no_items
items_in (string s) = no_items
items_in (array ds) = ds
items_in (object ms) = no_items

abbrev members_in : Data → Members
members_in null = no_members
members_in (boolean b) = no_members
members_in (number n) = no_members
members_in (string s) = no_members
members_in (array ds) = no_members
members_in (object ms) = ms

-- the value of the member at a place
abbrev at : ℕ → Members → Data
at n no_members = null
at zero (member k d ms) = d
at (suc n) (member k d ms) = at n ms

abbrev count : Members → ℕ
count no_members = 0
count (member k d ms) = suc (count ms)

abbrev texts_in : Items → List (List ℕ)
texts_in no_items = []
texts_in (item d ds) = text_in d ∷ texts_in ds

abbrev names_in : Items → List ℕ
names_in no_items = []
names_in (item d ds) = 32 ∷ (text_in d ++ names_in ds)

texts_read : (xs : List (List ℕ)) → texts_in (items_of (map string xs)) ≡ xs
texts_read [] = refl
texts_read (x ∷ xs) = ap (λ r. x ∷ r) (texts_read xs)

names_read : (ps : List Privilege) → names_in (items_of (map name_data ps)) ≡ flat_map spaced ps
names_read [] = refl
names_read (p ∷ ps) = ap (λ r. 32 ∷ (name_of p ++ r)) (names_read ps)

-- ---- an entry
abbrev full_words : Members → List ℕ
full_words ms =
    codes ", " ++ (number_in (at 5 ms) ++ (codes " at " ++ (text_in (at 2 ms) ++ (codes "\n"
    ++ ((list_word (holds_in (at 7 ms)) ++ (action_word (holds_in (at 1 ms)) ++ (invert_word (holds_in (at 3 ms)) ++ (text_in (at 8 ms) ++ (names_in (items_in (at 6 ms)) ++ codes "\n")))))
    ++ by_words (texts_in (items_in (at 0 ms))))))))

-- the number alone, or the entry in full
abbrev numbered_words : Bool → ℕ → Members → List ℕ
numbered_words grant zero ms = []
numbered_words grant (suc zero) ms = decision_word grant ++ (number_in (at 0 ms) ++ codes "\n")
numbered_words grant (suc (suc n)) ms = decision_word grant ++ (number_in (at 4 ms) ++ full_words ms)

abbrev entry_words : Bool → Data → List ℕ
entry_words grant null = codes " denied, none granted\n"
entry_words grant (boolean b) = []
entry_words grant (number n) = []
entry_words grant (string s) = []
entry_words grant (array ds) = []
entry_words grant (object ms) = numbered_words grant (count ms) ms

standing_read : (grant : Bool) (n : ℕ) (s : Option Standing) → entry_words grant (entry_data n s) ≡ decision_word grant ++ (decimal n ++ standing_words s)
standing_read grant n None = refl
standing_read grant n (Some s) = λ i.
    decision_word grant ++ (decimal n ++ (codes ", " ++ (decimal s.number_there ++ (codes " at " ++ (text_in (at 2 (members_in (standing_data n s))) ++ (codes "\n"
    ++ ((list_word s.entry.protected ++ (action_word s.entry.entry.deny ++ (invert_word s.entry.entry.invert ++ (who_text s.entry.entry.who
    ++ (names_read (short_list s.entry.entry.set) i ++ codes "\n")))))
    ++ by_words (texts_read s.by i))))))))

decided_read : (grant : Bool) (d : Option Decided) → entry_words grant (decided_data d) ≡ decided_words grant d
decided_read grant None = refl
decided_read grant (Some d) = standing_read grant d.number d.standing

-- ---- leaves
abbrev leaf_in : Members → List ℕ
leaf_in ms = codes " " ++ (text_in (at 2 ms) ++ entry_words (holds_in (at 1 ms)) (at 0 ms))

abbrev leaves_in : Items → List ℕ
leaves_in no_items = []
leaves_in (item d ds) = leaf_in (members_in d) ++ leaves_in ds

leaf_read : (fact : LeafFact) → leaf_in (members_in (leaf_data fact)) ≡ leaf_words fact
leaf_read fact = ap (λ r. codes " " ++ (leaf_name fact.leaf ++ r)) (decided_read fact.grant fact.decided)

leaves_read : (facts : List LeafFact) → leaves_in (items_of (map leaf_data facts)) ≡ flat_map leaf_words facts
leaves_read [] = refl
leaves_read (fact ∷ facts) = λ i. leaf_read fact i ++ leaves_read facts i

-- ---- facts
abbrev number_words : Data → List ℕ
number_words null = codes ", none granted\n"
number_words (boolean b) = []
number_words (number n) = codes " by " ++ (digits_in n ++ codes "\n")
number_words (string s) = []
number_words (array ds) = []
number_words (object ms) = []

abbrev denial_words : Data → List ℕ
denial_words null = codes "granted\n"
denial_words (boolean b) = []
denial_words (number n) = []
denial_words (string s) = []
denial_words (array ds) = []
denial_words (object ms) = codes "denied " ++ (text_in (at 1 ms) ++ (codes " at " ++ (text_in (at 2 ms) ++ number_words (at 0 ms))))

-- a verdict has one member, a caller two, and a need three
abbrev fact_words : ℕ → Members → List ℕ
fact_words zero ms = []
fact_words (suc zero) ms = denial_words (at 0 ms)
fact_words (suc (suc zero)) ms = text_in (at 0 ms) ++ (codes "\n" ++ leaves_in (items_in (at 1 ms)))
fact_words (suc (suc (suc n))) ms = codes "need" ++ (names_in (items_in (at 1 ms)) ++ (codes " at " ++ (text_in (at 2 ms) ++ (codes "\n" ++ leaves_in (items_in (at 0 ms))))))

abbrev words_in : Data → List ℕ
words_in d = fact_words (count (members_in d)) (members_in d)

number_read : (e : Option DecidingEntry) → number_words (number_data e) ≡ by_text e
number_read None = refl
number_read (Some e) = refl

denial_read : (d : Option Denial) → denial_words (denial_data d) ≡ verdict_line d
denial_read None = refl
denial_read (Some d) = ap (λ r. codes "denied " ++ (name_of d.privilege ++ (codes " at " ++ (text_in (at 2 (members_in (denial_data (Some d)))) ++ r)))) (number_read d.entry)

read : (fact : Fact) → words_in (data_of fact) ≡ words fact
read (verdict d) = denial_read d
read (need fact) = λ i.
    codes "need" ++ (names_read (short_list fact.set) i ++ (codes " at " ++ (text_in (at 2 (members_in (data_of (need fact)))) ++ (codes "\n" ++ leaves_read fact.leaves i))))
read (holder fact) = ap (λ r. text_in (at 0 (members_in (data_of (holder fact)))) ++ (codes "\n" ++ r)) (leaves_read fact.leaves)

-- who holds leaves
abbrev head_in : List ℕ → Data → List ℕ
head_in place null = place
head_in place (boolean b) = []
head_in place (number n) = place ++ (codes " of " ++ digits_in n)
head_in place (string s) = []
head_in place (array ds) = []
head_in place (object ms) = []

abbrev held_in : Members → List ℕ
held_in ms = head_in (text_in (at 2 ms)) (at 1 ms) ++ (codes " " ++ (text_in (at 0 ms) ++ (names_in (items_in (at 3 ms)) ++ codes "\n")))

head_read : (place : List ℕ) (n : Option ℕ) → head_in place (count_data n) ≡ head_words place n
head_read place None = refl
head_read place (Some n) = refl

held_read : (held : Held) → held_in (members_in (held_data held)) ≡ held_words held
held_read held = λ i. head_read held.place held.cards i ++ (codes " " ++ (caller_text held.caller ++ (names_read (short_list held.set) i ++ codes "\n")))

pub words_told : ObjectsTellTheWords
words_told = (
  λ fact other same. sym (read fact) ∙ ap words_in same ∙ read other,
  λ held other same. sym (held_read held) ∙ ap (λ d. held_in (members_in d)) same ∙ held_read other,
)
