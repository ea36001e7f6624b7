-- Bodies in pieces, as the texts that they are.
use Rattle.book_wire_json.proofs.Common.{◌≡◌, ℕ, ◌+◌, ◌<◌, List, [], ◌∷◌, ◌++◌, map, length, get_or, drop, refl, sym, ap, ◌∙◌, Data, items_of, null}
use Rattle.std.proofs.Common.{◌≢◌, ◌≤◌, ◌⊎◌, inl, inr, true≢false, zero, Bool, true, false, append_assoc, append-nil, drop-cons, length-append, add-one, arith, suc, codes}
use Rattle.std.specs.List.{concat}
use Rattle.std.proofs.lemmas.List.Folds.{concat-append}
use Rattle.std.proofs.Math.ListN.{get_or-append}
use Rattle.std.proofs.Math.Seq.{get_or-append_seam}
use Rattle.std.proofs.lemmas.List.{length-map}
use Rattle.json.specs.Print.{escape_byte, quoted}
use Rattle.serde_json.specs.Written.{comma_if, compact_text, items_text}
use Rattle.book_machine.specs.declared.messages.Content.TheVariants as content
use Rattle.book_office_listings.specs.declared.messages.Response.{Response}
use Rattle.book_office_members.specs.declared.members.Members.{Members}
use Rattle.book_office_members.specs.declared.names.NamedCard.{NamedCard}
use Rattle.book_office_sync.specs.Tokens.{token_text}
use Rattle.book_office_sync.specs.declared.messages.Item.{Item}
use Rattle.book_office_sync.specs.declared.messages.Report.{Report}
use Rattle.book_office_values.specs.Paths.{book_path}
use Rattle.book_wire_json.specs.Listings.{listing_data, response_data}
use Rattle.book_wire_json.specs.Members.{hrefs_data, line_data, members_data}
use Rattle.book_wire_json.specs.Names.{named_data, names_data}
use Rattle.book_wire_json.specs.Pieces.{item_texts, pieces, pieces_of}
use Rattle.book_wire_json.specs.SyncReports.{item_data, remaining_data, report_data, status_data}

regroup : (a b c d : List ℕ) → a ++ (b ++ (c ++ d)) ≡ ((a ++ b) ++ c) ++ d
regroup a b c d = simp append_assoc

pub ended : (a b c d : List ℕ) → ((a ++ b) ++ c) ++ d ≡ a ++ (b ++ (c ++ d))
ended a b c d = sym (regroup a b c d)

-- the texts of items and a closing bracket are the text of an array behind its opening bracket
items_joined : (later : Bool) (ds : List Data) → items_text later (items_of ds) ≡ concat (item_texts later ds) ++ 93 ∷ []
items_joined later [] = refl
items_joined later (d ∷ ds) =
    ap (λ s. comma_if later ++ (compact_text d ++ s)) (items_joined true ds)
    ∙ regroup (comma_if later) (compact_text d) (concat (item_texts true ds)) (93 ∷ [])

-- the pieces of an object whose first member is an array are its text
pub pieces_joined : (front : List ℕ) (ds : List Data) (end : List ℕ)
    → concat (pieces_of front ds (93 ∷ end)) ≡ front ++ (items_text false (items_of ds) ++ end)
pieces_joined front ds end =
    let ts = item_texts false ds in
    ap (λ s. front ++ s)
    (concat-append ts ((93 ∷ end) ∷ []) ∙ ap (λ e. concat ts ++ 93 ∷ e) (append-nil end) ∙ sym (append_assoc (concat ts) (93 ∷ []) end)
    ∙ ap (λ s. s ++ end) (sym (items_joined false ds)))

pub listing_joined : (responses : List Response) → concat (pieces (content.Listing responses)) ≡ compact_text (listing_data responses)
unfolding escape_byte
listing_joined responses = pieces_joined (codes "{\"responses\":[") (map response_data responses) (codes "}")

pub report_joined : (report : Report) → concat (pieces (content.Synced report)) ≡ compact_text (report_data report)
unfolding escape_byte
report_joined report =
    let book = report.token.book in
    pieces_joined (codes "{\"responses\":[") (map (item_data book) report.items ++ remaining_data book report.truncated)
    (codes ",\"sync-token\":" ++ quoted (token_text report.token) ++ codes "}")

pub members_joined : (book : List ℕ) (members : Members) → concat (pieces (content.Members book members)) ≡ compact_text (members_data book members)
unfolding escape_byte
members_joined book members =
    pieces_joined (codes "{\"members\":[") (map (line_data book) members.lines)
    (codes ",\"reached\":" ++ compact_text (hrefs_data book members.reached) ++ codes "}")

pub names_joined : (book : List ℕ) (names : List NamedCard) → concat (pieces (content.Names book names)) ≡ compact_text (names_data book names)
unfolding escape_byte
names_joined book names = pieces_joined (codes "{\"names\":[") (map (named_data book) names) (codes "}")

-- how many pieces there are
item_texts_length : (later : Bool) (ds : List Data) → length (item_texts later ds) ≡ length ds
item_texts_length later [] = refl
item_texts_length later (d ∷ ds) = ap suc (item_texts_length true ds)

pub pieces_length : (front : List ℕ) (ds : List Data) (end : List ℕ) → length (pieces_of front ds end) ≡ length ds + 2
pieces_length front ds end =
    ap suc (length-append (item_texts false ds) (end ∷ []) ∙ ap (λ n. n + 1) (item_texts_length false ds)) ∙ omega arith

-- those of a list of items, and those where one more is told
pub count_of : {A : Type 0} (front end : List ℕ) (f : A → Data) (xs : List A) → length xs + 2 ≡ length (pieces_of front (map f xs) end)
count_of front end f xs = sym (pieces_length front (map f xs) end ∙ ap (λ n. n + 2) (length-map xs f))

pub whole_count : (report : Report) → report.truncated ≡ false → length report.items + 2 ≡ length (pieces (content.Synced report))
whole_count report whole =
    let book = report.token.book in
    let items : List Data = map (item_data book) report.items in
    let end : List ℕ = codes "],\"sync-token\":" ++ quoted (token_text report.token) ++ codes "}" in
    count_of (codes "{\"responses\":[") end (item_data book) report.items
    ∙ ap (λ ds. length (pieces_of (codes "{\"responses\":[") ds end)) (sym (append-nil items))
    ∙ ap (λ b. length (pieces_of (codes "{\"responses\":[") (items ++ remaining_data book b) end)) (sym whole)

pub cut_count : (report : Report) → report.truncated ≡ true → length report.items + 3 ≡ length (pieces (content.Synced report))
cut_count report cut =
    let book = report.token.book in
    let items : List Data = map (item_data book) report.items in
    let more : List Data = remaining_data book true in
    let end : List ℕ = codes "],\"sync-token\":" ++ quoted (token_text report.token) ++ codes "}" in
    let counted : length (items ++ more) ≡ length report.items + 1 = length-append items more ∙ ap (λ n. n + 1) (length-map report.items (item_data book)) in
    let three : length report.items + 3 ≡ length (items ++ more) + 2 = omega (arith, counted) in
    three ∙ sym (pieces_length (codes "{\"responses\":[") (items ++ more) end)
    ∙ ap (λ b. length (pieces_of (codes "{\"responses\":[") (items ++ remaining_data book b) end)) (sym cut)

-- ---- the piece at a place

later_text : (ds : List Data) (i : ℕ) → i < length ds → get_or (item_texts true ds) i [] ≡ comma_if true ++ compact_text (get_or ds i null)
later_text [] i lt = absurd (omega (arith, lt))
later_text (d ∷ ds) zero lt = refl
later_text (d ∷ ds) (suc i) lt = later_text ds i (omega (arith, lt))

-- a comma stands before each item but the first
item_text : (ds : List Data) (i : ℕ) (later : Bool) → i < length ds → (i ≡ 0 → later ≡ false) → (i ≢ 0 → later ≡ true)
    → comma_if later ++ compact_text (get_or ds i null) ≡ get_or (item_texts false ds) i []
item_text [] i later lt first more = absurd (omega (arith, lt))
item_text (d ∷ ds) zero later lt first more = ap (λ b. comma_if b ++ compact_text d) (first refl)
item_text (d ∷ ds) (suc i) later lt first more =
    ap (λ b. comma_if b ++ compact_text (get_or ds i null)) (more (λ e. omega (arith, e))) ∙ sym (later_text ds i (omega (arith, lt)))

pub front_piece : (front end : List ℕ) (ds : List Data) (index : ℕ) → index ≡ 0 → front ≡ get_or (pieces_of front ds end) index []
front_piece front end ds index e = ap (λ n. get_or (pieces_of front ds end) n []) (sym e)

item_piece : (front end : List ℕ) (ds : List Data) (i : ℕ) (later : Bool) → i < length ds → (i ≡ 0 → later ≡ false) → (i ≢ 0 → later ≡ true)
    → comma_if later ++ compact_text (get_or ds i null) ≡ get_or (pieces_of front ds end) (suc i) []
item_piece front end ds i later lt first more =
    item_text ds i later lt first more
    ∙ sym (get_or-append (item_texts false ds) (end ∷ []) [] i (omega (arith, lt, item_texts_length false ds)))

data_at : {A : Type 0} (f : A → Data) (xs : List A) (more : List Data) (i : ℕ) (x : A) → i < length xs → x ≡ get_or xs i x
    → f x ≡ get_or (map f xs ++ more) i null
data_at f [] more i x lt at = absurd (omega (arith, lt))
data_at f (y ∷ ys) more zero x lt at = ap f at
data_at f (y ∷ ys) more (suc i) x lt at = data_at f ys more i x (omega (arith, lt)) at

-- an item, and further ones behind the list
pub item_told : {A : Type 0} (front end : List ℕ) (f : A → Data) (xs : List A) (more : List Data) (index i : ℕ) (x : A) (later : Bool)
    → index ≡ i + 1 → i < length xs → x ≡ get_or xs i x → (i ≡ 0 → later ≡ false) → (i ≢ 0 → later ≡ true)
    → comma_if later ++ compact_text (f x) ≡ get_or (pieces_of front (map f xs ++ more) end) index []
item_told front end f xs more index i x later place lt at first others =
    let ds : List Data = map f xs ++ more in
    let within : i < length ds = omega (arith, lt, length-append (map f xs) more, length-map xs f) in
    let next : suc i ≡ index = omega (arith, place) in
    ap (λ d. comma_if later ++ compact_text d) (data_at f xs more i x lt at)
    ∙ item_piece front end ds i later within first others
    ∙ ap (λ n. get_or (pieces_of front ds end) n []) next

pub item_only : {A : Type 0} (front end : List ℕ) (f : A → Data) (xs : List A) (index i : ℕ) (x : A) (later : Bool)
    → index ≡ i + 1 → i < length xs → x ≡ get_or xs i x → (i ≡ 0 → later ≡ false) → (i ≢ 0 → later ≡ true)
    → comma_if later ++ compact_text (f x) ≡ get_or (pieces_of front (map f xs) end) index []
item_only front end f xs index i x later place lt at first others =
    item_told front end f xs [] index i x later place lt at first others
    ∙ ap (λ ds. get_or (pieces_of front ds end) index []) (append-nil (map f xs))

-- one item more than the list has
pub last_told : {A : Type 0} (front end : List ℕ) (f : A → Data) (xs : List A) (d : Data) (index i : ℕ) (later : Bool)
    → index ≡ i + 1 → i ≡ length xs → (i ≡ 0 → later ≡ false) → (i ≢ 0 → later ≡ true)
    → comma_if later ++ compact_text d ≡ get_or (pieces_of front (map f xs ++ d ∷ []) end) index []
last_told front end f xs d index i later place last first others =
    let ds : List Data = map f xs ++ d ∷ [] in
    let within : i < length ds = omega (arith, last, length-append (map f xs) (d ∷ []), length-map xs f) in
    let next : suc i ≡ index = omega (arith, place) in
    let here : d ≡ get_or ds i null =
    sym (get_or-append_seam (map f xs) d [] null) ∙ ap (λ n. get_or ds n null) (length-map xs f ∙ sym last) in
    ap (λ x. comma_if later ++ compact_text x) here
    ∙ item_piece front end ds i later within first others
    ∙ ap (λ n. get_or (pieces_of front ds end) n []) next

pub remaining_told : (report : Report) (index i : ℕ) (later : Bool) → report.truncated ≡ true → index ≡ i + 1 → i ≡ length report.items
    → (i ≡ 0 → later ≡ false) → (i ≢ 0 → later ≡ true)
    → comma_if later ++ compact_text (status_data (book_path report.token.book) 507) ≡ get_or (pieces (content.Synced report)) index []
remaining_told report index i later cut place last first others =
    let book = report.token.book in
    let front : List ℕ = codes "{\"responses\":[" in
    let end : List ℕ = codes "],\"sync-token\":" ++ quoted (token_text report.token) ++ codes "}" in
    last_told front end (item_data book) report.items (status_data (book_path book) 507) index i later place last first others
    ∙ ap (λ b. get_or (pieces_of front (map (item_data book) report.items ++ remaining_data book b) end) index []) (sym cut)

-- a place behind the items, and behind the one that says that changes remain
pub past_remaining : (book : List ℕ) (items : List Item) (cut : Bool) (i : ℕ) → length items ≤ i → (cut ≡ false) ⊎ (i ≢ length items)
    → length (map (item_data book) items ++ remaining_data book cut) ≤ i
past_remaining book items false i past other =
    omega (arith, past, length-append (map (item_data book) items) [], length-map items (item_data book))
past_remaining book items true i past (inl e) = absurd (true≢false e)
past_remaining book items true i past (inr e) =
    omega (arith, past, e, length-append (map (item_data book) items) (remaining_data book true), length-map items (item_data book))

pub end_piece : (front end : List ℕ) (ds : List Data) (index i : ℕ) → index ≡ i + 1 → length ds ≤ i → index < length (pieces_of front ds end)
    → end ≡ get_or (pieces_of front ds end) index []
end_piece front end ds index i place past within =
    let ts = item_texts false ds in
    let next : suc (length ts) ≡ index = omega (arith, place, past, within, pieces_length front ds end, item_texts_length false ds) in
    sym (get_or-append_seam ts end [] []) ∙ ap (λ n. get_or (pieces_of front ds end) n []) next

-- ---- what is left

-- a body that is one piece
pub one_joined : (text : List ℕ) → concat (text ∷ []) ≡ text
one_joined text = append-nil text

-- what is left of a body is the next piece and what is left behind it
pub next_piece : (ps : List (List ℕ)) (i : ℕ) → i < length ps → concat (drop i ps) ≡ get_or ps i [] ++ concat (drop (i + 1) ps)
next_piece ps i lt = ap concat (drop-cons ps i [] lt) ∙ ap (λ n. get_or ps i [] ++ concat (drop n ps)) (sym (add-one i))

pub next_length : (ps : List (List ℕ)) (i : ℕ) → i < length ps
    → length (concat (drop i ps)) ≡ length (get_or ps i []) + length (concat (drop (i + 1) ps))
next_length ps i lt = ap length (next_piece ps i lt) ∙ length-append (get_or ps i []) (concat (drop (i + 1) ps))
