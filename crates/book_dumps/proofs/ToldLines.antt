-- What is told of the resource at a path.
use Rattle.book_dumps.proofs.Common.{◌≡◌, refl, Option, Some, None, option_map, Office, Path}
use Rattle.book_office.specs.Levels.{level_at}
use Rattle.book_office.specs.Resources.{Resource, node_at, node_of, resource_at}
use Rattle.std.specs.Prelude.{[], unwrap_or}
use Rattle.book_office.specs.declared.nodes.Level.{Level}
use Rattle.book_dumps.specs.Told.{line_at, line_of, line_with, members_at, removed_in}

-- what a keeper tells in parts is what is told of the resource
pub line_told : (o : Office) (p : Path) → option_map (line_with p (level_at o p) (members_at o p) (removed_in o p)) (node_at o p) ≡ line_at o p
line_told o p = by_resource (resource_at o p)
  where
    level_with : Option Resource → Level
    level_with found = record { path = p; protected = unwrap_or (option_map (λ (r : Resource). r.protected) found) []; own = unwrap_or (option_map (λ (r : Resource). r.own) found) [] }

    by_resource : (found : Option Resource) → option_map (line_with p (level_with found) (members_at o p) (removed_in o p)) (option_map node_of found) ≡ option_map (line_of o p) found
    by_resource None = refl
    by_resource (Some r) = refl
