-- The body of a reply in pieces: one after the other they are its text.
use Rattle.std.specs.Prelude.{ℕ, Bool, true, false, List, [], ◌∷◌, ◌++◌, map, codes}
use Rattle.json.specs.Print.{quoted}
use Rattle.serde_json.specs.Data.{Data}
use Rattle.serde_json.specs.Written.{comma_if, compact_text}
use Rattle.book_machine.specs.declared.messages.Content.{Content}
use Rattle.book_machine.specs.declared.messages.Content.TheVariants as content
use Rattle.book_office_sync.specs.Tokens.{token_text}
use Rattle.book_wire_json.specs.Listings.{response_data}
use Rattle.book_wire_json.specs.Members.{hrefs_data, line_data}
use Rattle.book_wire_json.specs.Names.{named_data}
use Rattle.book_wire_json.specs.Refusals.{refusal_data}
use Rattle.book_wire_json.specs.Rulings.{rulings_data}
use Rattle.book_wire_json.specs.SyncReports.{item_data, remaining_data}

-- the text of each item of an array, after a comma where one is before it
abbrev pub item_texts : Bool → List Data → List (List ℕ)
item_texts later [] = []
item_texts later (d ∷ ds) = (comma_if later ++ compact_text d) ∷ item_texts true ds

-- what stands before the items of an object's first member, the items, and what stands behind them
abbrev pub pieces_of : List ℕ → List Data → List ℕ → List (List ℕ)
pieces_of front items end = front ∷ (item_texts false items ++ end ∷ [])

-- the pieces of a body, none where there is no body
abbrev pub pieces : Content → List (List ℕ)
pieces content.Empty = []
pieces (content.Card text) = text ∷ []
pieces (content.Allow methods) = []
pieces (content.Listing responses) = pieces_of (codes "{\"responses\":[") (map response_data responses) (codes "]}")
pieces (content.Synced r) =
    pieces_of (codes "{\"responses\":[") (map (item_data r.token.book) r.items ++ remaining_data r.token.book r.truncated)
    (codes "],\"sync-token\":" ++ quoted (token_text r.token) ++ codes "}")
pieces (content.Members book members) =
    pieces_of (codes "{\"members\":[") (map (line_data book) members.lines) (codes "],\"reached\":" ++ compact_text (hrefs_data book members.reached) ++ codes "}")
pieces (content.Rulings rulings) = compact_text (rulings_data rulings) ∷ []
pieces (content.Names book names) = pieces_of (codes "{\"names\":[") (map (named_data book) names) (codes "]}")
pieces (content.Refusal r) = compact_text (refusal_data r) ∷ []
