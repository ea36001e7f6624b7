-- How two Offices differ.
use Rattle.std.specs.Prelude.{◌≡◌, ℕ, List}
use Rattle.std.specs.FinMap.{empty, entries}
use Rattle.std.specs.List.{flat_map}
use Rattle.book_office_audit.specs.Audits.{Block, gathered}
use Rattle.book_office_values.specs.Names.{NamesTo}
use Rattle.book_office_values.specs.declared.offices.Office.{Office}
use Rattle.book_office_values.specs.declared.paths.Path.{Path}
use Rattle.book_questions_differs.specs.Lines.{side_blocks}
use Rattle.book_questions_differs.specs.Parties.{AreParties, everybody}
use Rattle.book_questions_differs.specs.Places.{paths_of_either, side_at}
use Rattle.book_questions_differs.specs.declared.parties.Party.{Party}

module _ (o p : Office) where
  -- what differs at a path, and in the cards there
  abbrev pub blocks_at : List Party → Path → List Block
  blocks_at parties at = side_blocks parties at (side_at o at) (side_at p at)

  -- what differs at some paths
  abbrev pub blocks_of : List Party → List Path → List Block
  blocks_of parties paths = flat_map (blocks_at parties) paths

  -- the lines of each resource of either Office, as a map from the texts of paths
  abbrev pub AreBlocks : NamesTo (List ℕ) → Type 0
  AreBlocks blocks = (parties : List Party) × AreParties o p (everybody o p) parties × (blocks ≡ gathered empty (blocks_of parties (paths_of_either o p)))

  -- the same as a text, in byte order of the paths
  abbrev pub IsDifferences : List ℕ → Type 0
  IsDifferences text = (blocks : NamesTo (List ℕ)) × AreBlocks blocks × (text ≡ flat_map (λ (b : Block). b.1) (entries blocks))
