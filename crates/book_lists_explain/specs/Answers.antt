-- The text that answers a question.
use Rattle.std.specs.Prelude.{◌≡◌, ℕ, ◌+◌, Bool, List, [], ◌∷◌, ◌++◌, None, Some, codes, decimal, ◌↔◌}
use Rattle.std.specs.List.{flat_map}
use Rattle.book_rights.specs.declared.privileges.Leaf.{Leaf}
use Rattle.book_rights.specs.declared.privileges.Privilege.{Privilege}
use Rattle.book_rights.specs.Privileges.{denied_name, name_of}
use Rattle.book_lists.specs.declared.circles.Caller.{Caller}
use Rattle.book_lists.specs.declared.entries.Entry.{Entry}
use Rattle.book_lists.specs.declared.entries.Here.{Here}
use Rattle.book_lists.specs.declared.decisions.Outcome.{Outcome}
use Rattle.book_lists.specs.declared.decisions.Outcome.TheVariants.{Allowed, Denied}
use Rattle.book_lists.specs.Circles.{CircleOf}
use Rattle.book_lists.specs.Callers.{IsCircle}
use Rattle.book_lists.specs.Memberships.{Memberships}
use Rattle.book_lists.specs.Decisions.{IsAllowed, IsDenial, IsGrantedSet, IfDenied}
use Rattle.book_lists_explain.specs.ShortNames.{short_list}

-- the outcome of a need; entries are numbered from 1 in texts
abbrev pub outcome_text : (Leaf → Bool) → Outcome → List ℕ
outcome_text need Allowed = codes "allowed"
outcome_text need (Denied leaf None) = codes "denied " ++ (name_of (denied_name leaf need) ++ codes ", none granted")
outcome_text need (Denied leaf (Some index)) = codes "denied " ++ (name_of (denied_name leaf need) ++ (codes " by " ++ decimal (index + 1)))

-- a name after a space
abbrev pub spaced : Privilege → List ℕ
spaced name = 32 ∷ name_of name

-- the names with single spaces between them, or a dash
abbrev pub names_text : List Privilege → List ℕ
names_text [] = codes "-"
names_text (name ∷ names) = name_of name ++ flat_map spaced names

abbrev pub answer_text : (Leaf → Bool) → Outcome → (Leaf → Bool) → List ℕ
answer_text need outcome granted = outcome_text need outcome ++ ((10 ∷ codes "granted: ") ++ (names_text (short_list granted) ++ (10 ∷ [])))

-- the text tells the decision of the need, and what is granted, for the caller's circle
pub record IsAnswer (pairs : Memberships) (caller : Caller) (need : Leaf → Bool) (here : Here) (entries : List Entry) (text : List ℕ) : Type 0 where
  pub circle : CircleOf
  pub outcome : Outcome
  pub granted : Leaf → Bool
  pub expanded : IsCircle pairs caller circle
  pub allowed : (outcome ≡ Allowed) ↔ IsAllowed entries circle here need
  pub denied : IfDenied outcome (IsDenial entries circle here need)
  pub grants : IsGrantedSet entries circle here granted
  pub told : text ≡ answer_text need outcome granted
