use Rattle.book_wire_json.proofs.Common.{◌+◌, length, sym, ap, ◌∙◌}
use Rattle.std.proofs.Common.{codes, ◌++◌}
use Rattle.serde_json.specs.Written.{compact_text}
use Rattle.book_wire_json.specs.Listings.{response_data}
use Rattle.book_wire_json.specs.Members.{hrefs_data, line_data}
use Rattle.book_wire_json.specs.Names.{named_data}
use Rattle.book_wire_json.specs.Pieces.{pieces}
use Rattle.book_wire_json.proofs.Joined.{count_of}
use Rattle.book_wire_json.proofs.pieces.piece_count.Goals as goal

pub returns-in-Listing : goal.returns-in-Listing
returns-in-Listing c =
    ap (λ rs. length rs + 2) c.as_slice.ensures
    ∙ count_of (codes "{\"responses\":[") (codes "]}") response_data c.in-Listing.responses
    ∙ ap (λ x. length (pieces x)) (sym c.in-Listing.is)

pub returns-in-Members : goal.returns-in-Members
returns-in-Members c =
    ap (λ ls. length ls + 2) c.as_slice-in-Members.ensures
    ∙ count_of (codes "{\"members\":[")
    (codes "],\"reached\":" ++ compact_text (hrefs_data c.in-Members.field-0 c.in-Members.members.reached) ++ codes "}")
    (line_data c.in-Members.field-0) c.in-Members.members.lines
    ∙ ap (λ x. length (pieces x)) (sym c.in-Members.is)

pub returns-in-Names : goal.returns-in-Names
returns-in-Names c =
    ap (λ ns. length ns + 2) c.as_slice-in-Names.ensures
    ∙ count_of (codes "{\"names\":[") (codes "]}") (named_data c.in-Names.field-0) c.in-Names.names
    ∙ ap (λ x. length (pieces x)) (sym c.in-Names.is)
