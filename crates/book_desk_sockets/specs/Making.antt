-- A socket's file is made in a folder of its own, and takes its name when it is whole (own profile).
use Rattle.std.specs.Prelude.{◌≡◌, ◌⊎◌, ℕ, Option, Some, IfSome}
use Rattle.book_desk_sockets.specs.declared.making.Found.{Found}
use Rattle.book_desk_sockets.specs.declared.making.Found.TheVariants.{Missing, Left, Answers}

-- what is at the path: what was found there, or a socket that was made, with its mode, if it was given one
pub data Thing : Type 0 where
  is : Found → Thing
  made : Option ℕ → Thing

-- what is in the folder in which it is made: there is no such folder, or it is empty, or the socket is in it
pub data Within : Type 0 where
  no_folder : Within
  empty : Within
  holds : Option ℕ → Within

-- what is at the path and in the folder
pub record Names : Type 0 where
  pub at_path : Thing
  pub within : Within

-- where it is known, it is so afterwards
abbrev pub Becomes : Option Names → Option Names → (Names → Names → Type 0) → Type 0
Becomes old new Goes = IfSome old (λ before. (after : Names) × (new ≡ Some after) × Goes before after)

abbrev pub Stays : Option Names → Option Names → Type 0
Stays old new = Becomes old new (λ before after. after ≡ before)

-- what is at the path stays
abbrev pub KeepsPath : Option Names → Option Names → Type 0
KeepsPath old new = Becomes old new (λ before after. after.at_path ≡ before.at_path)

-- what the folder holds is so, and what is at the path stays
abbrev pub Puts : Within → Option Names → Option Names → Type 0
Puts within old new = Becomes old new (λ before after. after ≡ record { at_path = before.at_path; within = within })

-- the socket in the folder is given the mode
abbrev pub with_mode : ℕ → Within → Within
with_mode mode no_folder = no_folder
with_mode mode empty = empty
with_mode mode (holds given) = holds (Some mode)

abbrev pub Permits : ℕ → Option Names → Option Names → Type 0
Permits mode old new =
    Becomes old new (λ before after. after ≡ record { at_path = before.at_path; within = with_mode mode before.within })

-- it goes from the folder to the path, in the place of what is there
abbrev pub moved_to : Within → Thing → Thing
moved_to (holds given) there = made given
moved_to no_folder there = there
moved_to empty there = there

abbrev pub Moves : Option Names → Option Names → Type 0
Moves old new = Becomes old new (λ before after. after ≡ record { at_path = moved_to before.within before.at_path; within = empty })

abbrev pub IsAt : Option Names → Found → Type 0
IsAt names found = IfSome names (λ known. known.at_path ≡ is found)

-- nothing is there, or a socket at which nobody answers
abbrev pub IsFree : Thing → Type 0
IsFree there = (there ≡ is Missing) ⊎ (there ≡ is Left)

-- the socket with this mode is at the path
abbrev pub PutsSocket : ℕ → Within → Option Names → Option Names → Type 0
PutsSocket mode within old new =
    Becomes old new (λ before after. after ≡ record { at_path = made (Some mode); within = within })

-- the path was free, and the socket with this mode is there; no folder is left
abbrev pub Makes : ℕ → Option Names → Option Names → Type 0
Makes mode old new =
    Becomes old new (λ before after. IsFree before.at_path × (after ≡ record { at_path = made (Some mode); within = no_folder }))

-- somebody answers there, and nothing was done
abbrev pub IsTaken : Option Names → Option Names → Type 0
IsTaken old new = Becomes old new (λ before after. (before.at_path ≡ is Answers) × (after ≡ before))
