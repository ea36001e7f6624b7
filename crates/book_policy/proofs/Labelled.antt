-- The forms of entries as parts of a policy.
use Rattle.book_policy.proofs.Common.{ℕ, List, [], ◌∷◌, map, All, NamesForm, entry_part, who_of, EntryText}
use Rattle.std.proofs.lemmas.List.Elements.{All-nil, All-cons, All-head, All-tail}
use Rattle.book_office_values.specs.Names.{NamesTo}
use Rattle.book_policy_values.specs.declared.parts.EntryPart.{EntryPart}

all_before : {A B : Type 0} (P : B → Type 0) (f : A → B) (xs : List A) → All P (map f xs) → All (λ x. P (f x)) xs
all_before P f [] h = All-nil _
all_before P f (x ∷ xs) h = All-cons (λ y. P (f y)) x xs (All-head P (f x) (map f xs) h) (all_before P f xs (All-tail P (f x) (map f xs) h))

pub forms_of : (persons groups : NamesTo (List ℕ)) (es : List EntryText) → All (λ (e : EntryPart). NamesForm persons groups e.entry.who) (map entry_part es)
    → All (λ (e : EntryText). NamesForm persons groups (who_of e.who)) es
forms_of persons groups es h = all_before (λ (e : EntryPart). NamesForm persons groups e.entry.who) entry_part es h
