-- What an Office has at a path that is no card's, as it is compared.
use Rattle.std.specs.Prelude.{Bool, not, is_some, List, ◌++◌, filter, Option, option_map}
use Rattle.book_lists.specs.declared.entries.Here.{Here}
use Rattle.book_office.specs.Levels.{lists_at}
use Rattle.book_office.specs.Resources.{node_at}
use Rattle.book_office.specs.declared.nodes.Lists.{Lists}
use Rattle.book_office.specs.declared.nodes.Node.{Node}
use Rattle.book_office_values.specs.declared.offices.Office.{Office}
use Rattle.book_office_values.specs.declared.paths.Path.{Path}
use Rattle.book_office_values.specs.declared.paths.Path.TheVariants as path
use Rattle.book_office_listings.specs.Verdicts.{here_of}
use Rattle.book_questions_rights.specs.Places.{asked_below, cards_of}
use Rattle.book_questions_differs.specs.declared.places.Found.{Found}
use Rattle.book_questions_differs.specs.declared.places.Side.{Side}

-- a resource with the lists in force there, and what they ask of it
abbrev pub found_with : Here → Lists → Node → Found
found_with here lists node = record { node = node; here = here; lists = lists }

-- the resource at a path; none where none is mapped
abbrev pub found_at : Office → Path → Option Found
found_at o p = option_map (found_with (here_of o p) (lists_at o p)) (node_at o p)

-- the same with the cards in it
abbrev pub side_at : Office → Path → Side
side_at o p = record { found = found_at o p; cards = cards_of o p }

abbrev pub is_missing : Office → Path → Bool
is_missing o p = not (is_some (node_at o p))

-- the path of each resource of either Office that is no card: those of the first, and those of the last that the first has not
abbrev pub paths_of_either : Office → Office → List Path
paths_of_either o p = asked_below o path.Root ++ filter (is_missing o) (asked_below p path.Root)
