-- What `card` tells of a card, from its unfolded text (own profile).
use Rattle.std.specs.Prelude.{ℕ, List, ◌++◌, codes, unwrap_or}
use Rattle.std.specs.List.{flat_map}
use Rattle.book_cards.specs.CardText.{kind_in, uid_in, formatted_in, members_in}

-- a value as written, behind what it is
abbrev pub summary_line : List ℕ → List ℕ → List ℕ
summary_line name value = name ++ (codes ": " ++ (value ++ codes "\n"))

-- the kind, the UID or a hyphen, the first FN, and a line for each member in order
abbrev pub summary_text : List ℕ → List ℕ
summary_text whole =
    codes "valid\n"
    ++ (summary_line (codes "kind") (kind_in whole)
    ++ (summary_line (codes "uid") (unwrap_or (uid_in whole) (codes "-"))
    ++ (summary_line (codes "fn") (formatted_in whole)
    ++ flat_map (summary_line (codes "member")) (members_in whole))))
