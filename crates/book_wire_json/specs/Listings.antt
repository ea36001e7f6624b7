-- What a listing says (RFC 4918, section 9.1; own profile).
use Rattle.std.specs.Prelude.{List, map, codes}
use Rattle.serde_json.specs.Data.{Data, number, string, array, object, member, no_members, unsigned}
use Rattle.serde_json.specs.View.{items_of}
use Rattle.book_office_values.specs.Paths.{path_text}
use Rattle.book_office_listings.specs.declared.messages.Response.{Response}
use Rattle.book_office_listings.specs.declared.messages.Response.TheVariants.{Told, Denied}
use Rattle.book_wire_json.specs.Denials.{denial_data}
use Rattle.book_wire_json.specs.PropertyValues.{prop_data}

-- {"href":PATH,"prop":{..},"status":200}, or {"href":PATH,"need-privileges":{..},"status":403}
abbrev pub response_data : Response → Data
response_data (Told path properties) =
    object (member (codes "href") (string (path_text path)) (member (codes "prop") (prop_data properties)
    (member (codes "status") (number (unsigned 200)) no_members)))
response_data (Denied denial) =
    object (member (codes "href") (string (path_text denial.resource)) (member (codes "need-privileges") (denial_data denial)
    (member (codes "status") (number (unsigned 403)) no_members)))

-- {"responses":[RESPONSE, ..]}
abbrev pub listing_data : List Response → Data
listing_data responses = object (member (codes "responses") (array (items_of (map response_data responses))) no_members)
