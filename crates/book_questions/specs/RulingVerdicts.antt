-- What the rulings on every leaf answer to a need: the decision is one of their readings.
use Rattle.std.specs.Prelude.{Bool, true, false, not, ◌&&◌, nat_lt, List, [], ◌∷◌, filter, Option, Some, None, option_map, if◌then◌else◌}
use Rattle.book_rights.specs.Privileges.{denied_name}
use Rattle.book_rights.specs.declared.privileges.Leaf.{Leaf}
use Rattle.book_lists.specs.Circles.{CircleOf}
use Rattle.book_lists.specs.declared.entries.Here.{Here}
use Rattle.book_office.specs.declared.nodes.EffectiveEntry.{EffectiveEntry}
use Rattle.book_office_values.specs.declared.paths.Path.{Path}
use Rattle.book_office_listings.specs.Rulings.{AreRulings}
use Rattle.book_office_listings.specs.Scanning.{IsVerdict}
use Rattle.book_office_listings.specs.declared.messages.DecidingEntry.{DecidingEntry}
use Rattle.book_office_listings.specs.declared.messages.Denial.{Denial}
use Rattle.book_office_listings.specs.declared.messages.Ruling.{Ruling}

-- those of its leaves that do not grant, in order
abbrev pub ungranted : (Leaf → Bool) → List Ruling → List Ruling
ungranted set rulings = filter (λ (r : Ruling). set r.leaf && not r.grant) rulings

-- one entry stands before another; where none decides comes after each entry
abbrev pub stands_before : Option DecidingEntry → Option DecidingEntry → Bool
stands_before None b = false
stands_before (Some a) None = true
stands_before (Some a) (Some b) = nat_lt a.number b.number

-- the one whose entry stands first, and of those with one entry the first
abbrev pub earlier : Ruling → Ruling → Ruling
earlier best r = if stands_before r.entry best.entry then r else best

abbrev pub earliest : Option Ruling → List Ruling → Option Ruling
earliest best [] = best
earliest None (r ∷ rs) = earliest (Some r) rs
earliest (Some best) (r ∷ rs) = earliest (Some (earlier best r)) rs

-- the denial is the earliest ruling that does not grant
abbrev pub denial_of : Path → (Leaf → Bool) → List Ruling → Option Denial
denial_of p set rulings =
    option_map (λ (r : Ruling). record { resource = p; privilege = denied_name r.leaf set; entry = r.entry }) (earliest None (ungranted set rulings))

-- the rulings on every leaf at a resource tell the decision on each need there
abbrev pub RulingsTellTheVerdict : Type 0
RulingsTellTheVerdict = (list : List EffectiveEntry) (circle : CircleOf) (here : Here) (p : Path) (set : Leaf → Bool) (rulings : List Ruling)
    → AreRulings list circle here rulings → IsVerdict list circle here p set (denial_of p set rulings)
