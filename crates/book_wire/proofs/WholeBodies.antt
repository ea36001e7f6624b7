-- The bytes of a body whose first chunk was made.
use Rattle.book_wire.proofs.Common.{◌≡◌, ℕ, Bool, List, [], ◌++◌, true, false, length, refl, sym, ap, ◌∙◌, Reply}
use Rattle.std.proofs.lemmas.Bool.{false≢true}
use Rattle.std.specs.List.{concat}
use Rattle.book_machine.specs.declared.messages.Content.{Content}
use Rattle.book_machine.specs.declared.messages.Content.TheVariants as content
use Rattle.book_wire_json.specs.Pieces.{pieces}
use Rattle.book_wire_json.proofs.Joined.{listing_joined, report_joined, members_joined, names_joined, one_joined}
use Rattle.book_wire.specs.Sending.{IsChunk, is_there, rest_of_body}
use Rattle.book_wire.specs.Spelling.{allow_line, body_bytes, head_text, sent_text, spelling, type_line}

-- the pieces are the body
joined : (c : Content) → is_there c ≡ false → concat (pieces c) ≡ body_bytes c
joined content.Empty made = absurd (false≢true (sym made))
joined (content.Card text) made = absurd (false≢true (sym made))
joined (content.Allow methods) made = absurd (false≢true (sym made))
joined (content.Listing responses) made = listing_joined responses
joined (content.Synced report) made = report_joined report
joined (content.Members book members) made = members_joined book members
joined (content.Rulings rulings) made = one_joined _
joined (content.Names book names) made = names_joined book names
joined (content.Refusal refusal) made = one_joined _

-- the text of the chunk and what is left behind it
pub chunk_bytes : (c : Content) (text : List ℕ) (next size : ℕ) → is_there c ≡ false → IsChunk c text next size
    → text ++ rest_of_body c next ≡ body_bytes c
chunk_bytes c text next size made chunk = chunk.bytes ∙ joined c made

pub chunk_size : (c : Content) (text : List ℕ) (next size : ℕ) → is_there c ≡ false → IsChunk c text next size
    → size ≡ length (body_bytes c)
chunk_size c text next size made chunk = chunk.counted ∙ ap length (joined c made)

-- a head and what is sent of the body are the reply
pub spelled : (reply : Reply) (head allow kind sent : List ℕ) (size : ℕ) (bare closes : Bool)
    → head ≡ head_text reply.status allow kind size closes → allow ≡ allow_line reply.content → kind ≡ type_line reply.content bare
    → size ≡ length (body_bytes reply.content) → sent ≡ sent_text (body_bytes reply.content) bare
    → head ++ sent ≡ spelling reply bare closes
unfolding spelling
spelled reply head allow kind sent size bare closes is allowed typed counted all =
    let whole = is
    ∙ ap (λ (t : List ℕ). head_text reply.status t kind size closes) allowed
    ∙ ap (λ (t : List ℕ). head_text reply.status (allow_line reply.content) t size closes) typed
    ∙ ap (λ (n : ℕ). head_text reply.status (allow_line reply.content) (type_line reply.content bare) n closes) counted in
    ap (λ (t : List ℕ). t ++ sent) whole ∙ ap (λ (t : List ℕ). head_text reply.status (allow_line reply.content) (type_line reply.content bare) (length (body_bytes reply.content)) closes ++ t) all

-- a bare reply has its head alone
pub sent_bare : (body : List ℕ) (bare : Bool) → bare ≡ true → [] ≡ sent_text body bare
sent_bare body true is = refl
sent_bare body false is = absurd (false≢true is)

pub sent_whole : (body sent : List ℕ) (bare : Bool) → bare ≡ false → sent ≡ body → sent ≡ sent_text body bare
sent_whole body sent true is same = absurd (false≢true (sym is))
sent_whole body sent false is same = same

-- a bare reply whose chunk was made
pub chunk_bare : (reply : Reply) (head allow kind text : List ℕ) (next size : ℕ) (bare closes : Bool)
    → bare ≡ true → is_there reply.content ≡ false → IsChunk reply.content text next size
    → head ≡ head_text reply.status allow kind size closes → allow ≡ allow_line reply.content → kind ≡ type_line reply.content bare
    → head ++ [] ≡ spelling reply bare closes
chunk_bare reply head allow kind text next size bare closes is_bare made chunk is allowed typed =
    spelled reply head allow kind [] size bare closes is allowed typed
    (chunk_size reply.content text next size made chunk) (sent_bare (body_bytes reply.content) bare is_bare)

-- a reply whose chunk was made, and what is left of it
pub chunk_spelled : (reply : Reply) (head allow kind text front left : List ℕ) (next size : ℕ) (bare closes : Bool)
    → bare ≡ false → is_there reply.content ≡ false → IsChunk reply.content text next size
    → head ≡ head_text reply.status allow kind size closes → allow ≡ allow_line reply.content → kind ≡ type_line reply.content bare
    → front ≡ text → left ≡ rest_of_body reply.content next
    → head ++ (front ++ left) ≡ spelling reply bare closes
chunk_spelled reply head allow kind text front left next size bare closes whole made chunk is allowed typed same rest =
    spelled reply head allow kind (front ++ left) size bare closes is allowed typed
    (chunk_size reply.content text next size made chunk)
    (sent_whole (body_bytes reply.content) (front ++ left) bare whole
    (ap (λ (t : List ℕ). t ++ left) same ∙ ap (λ (t : List ℕ). text ++ t) rest ∙ chunk_bytes reply.content text next size made chunk))
