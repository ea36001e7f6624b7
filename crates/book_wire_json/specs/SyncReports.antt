-- What a sync report says (RFC 6578, section 3; own profile).
use Rattle.std.specs.Prelude.{ℕ, Bool, true, false, List, [], ◌∷◌, ◌++◌, map, codes, Option, Some, None}
use Rattle.serde_json.specs.Data.{Data, number, string, array, object, member, no_members, unsigned}
use Rattle.serde_json.specs.View.{items_of}
use Rattle.book_office_values.specs.Paths.{book_path, card_path}
use Rattle.book_office_sync.specs.Tokens.{token_text}
use Rattle.book_office_sync.specs.declared.messages.Found.{Found}
use Rattle.book_office_sync.specs.declared.messages.Item.{Item}
use Rattle.book_office_sync.specs.declared.messages.Report.{Report}

-- {"href":PATH,"status":STATUS}
abbrev pub status_data : List ℕ → ℕ → Data
status_data href status =
    object (member (codes "href") (string href) (member (codes "status") (number (unsigned status)) no_members))

-- {"displayname":LABEL,"href":PATH,"number":N,"status":200,"text":TEXT}, or {"href":PATH,"status":404} of a name that is
-- removed or may not be read
abbrev pub changed_data : List ℕ → ℕ → Option Found → Data
changed_data href change (Some found) =
    object (member (codes "displayname") (string found.label) (member (codes "href") (string href)
    (member (codes "number") (number (unsigned change)) (member (codes "status") (number (unsigned 200))
    (member (codes "text") (string found.text) no_members)))))
changed_data href change None = status_data href 404

abbrev pub item_data : List ℕ → Item → Data
item_data book i = changed_data (card_path book i.name) i.number i.found

-- {"href":BOOK,"status":507}, where changes remain (RFC 6578, section 3.6)
abbrev pub remaining_data : List ℕ → Bool → List Data
remaining_data book true = status_data (book_path book) 507 ∷ []
remaining_data book false = []

-- {"responses":[RESPONSE, ..],"sync-token":TOKEN}
abbrev pub report_data : Report → Data
report_data r =
    object (member (codes "responses") (array (items_of (map (item_data r.token.book) r.items ++ remaining_data r.token.book r.truncated)))
    (member (codes "sync-token") (string (token_text r.token)) no_members))
