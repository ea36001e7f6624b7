-- What is left of a body, from one piece to the next.
use Rattle.book_wire.proofs.Common.{◌≡◌, ℕ, ◌+◌, ◌<◌, ◌≤◌, List, [], ◌++◌, length, ap, sym, ◌∙◌, append_assoc}
use Rattle.std.proofs.Common.{get_or, length-append}
use Rattle.std.specs.List.{concat}
use Rattle.std.proofs.lemmas.List.{drop_more, drop_all}
use Rattle.book_machine.specs.declared.messages.Content.{Content}
use Rattle.book_wire_json.specs.Pieces.{pieces}
use Rattle.book_wire.specs.Sending.{rest_of_body}

-- a piece, and what is left behind it
pub rest_more : (content : Content) (i : ℕ) → i < length (pieces content)
    → rest_of_body content i ≡ get_or (pieces content) i [] ++ rest_of_body content (i + 1)
rest_more content i within = ap concat (drop_more (pieces content) i [] within)

-- nothing is left behind the last piece
pub rest_none : (content : Content) (i : ℕ) → length (pieces content) ≤ i → rest_of_body content i ≡ []
rest_none content i end = ap concat (drop_all i (pieces content) end)

-- one more piece was put behind a front
pub front_more : (content : Content) (i : ℕ) (front old whole : List ℕ) → i < length (pieces content)
    → old ++ rest_of_body content i ≡ whole → front ≡ old ++ get_or (pieces content) i []
    → front ++ rest_of_body content (i + 1) ≡ whole
front_more content i front old whole within was is =
    ap (λ (t : List ℕ). t ++ rest_of_body content (i + 1)) is
    ∙ append_assoc old (get_or (pieces content) i []) (rest_of_body content (i + 1))
    ∙ ap (λ (t : List ℕ). old ++ t) (sym (rest_more content i within))
    ∙ was

-- and how many bytes are left behind it
pub count_more : (content : Content) (i : ℕ) → i < length (pieces content)
    → length (rest_of_body content i) ≡ length (get_or (pieces content) i []) + length (rest_of_body content (i + 1))
count_more content i within =
    ap length (rest_more content i within) ∙ length-append (get_or (pieces content) i []) (rest_of_body content (i + 1))
