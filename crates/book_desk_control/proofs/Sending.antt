-- What is sent next is the front of what is left.
use Rattle.std.proofs.Common.{◌≡◌, ℕ, Bool, true, false, List, [], ◌++◌, length, drop, nat_lt, sym, ap, ◌∙◌, append-nil, arith, refl, if◌then◌else◌}
use Rattle.std.proofs.lemmas.Bool.{ltb-false, ltb-true}
use Rattle.std.proofs.lemmas.List.{drop_all, length-drop}
use Rattle.book_desk_control.specs.Exchanges.{left, unsent}
use Rattle.book_desk_control.specs.Laws.{SentInOrder}
use Rattle.book_desk_control.specs.declared.exchanges.Exchange.{Exchange}

front_by : (b : Bool) (n : ℕ) (head body : List ℕ) → nat_lt n (length head) ≡ b
    → (later : List ℕ) × (drop n head ++ body ≡ (if b then drop n head else body) ++ later)
front_by true n head body e = (body, refl)
front_by false n head body e = ([], ap (λ t. t ++ body) (drop_all n head (ltb-false n (length head) e)) ∙ sym (append-nil body))

front_of_left : (x : Exchange) → (later : List ℕ) × (left x ≡ unsent x ++ later)
front_of_left x = front_by (nat_lt x.head_sent (length x.head)) x.head_sent x.head (drop x.body_sent x.body) refl

end_by : (b : Bool) (n : ℕ) (head body : List ℕ) → nat_lt n (length head) ≡ b
    → (if b then drop n head else body) ≡ [] → drop n head ++ body ≡ []
end_by true n head body e none = absurd (omega (arith, ltb-true n (length head) e, ap length none, length-drop n head))
end_by false n head body e none = ap (λ t. t ++ body) (drop_all n head (ltb-false n (length head) e)) ∙ none

all_sent : (x : Exchange) → unsent x ≡ [] → left x ≡ []
all_sent x none = end_by (nat_lt x.head_sent (length x.head)) x.head_sent x.head (drop x.body_sent x.body) refl none

pub sent_in_order : SentInOrder
sent_in_order = record { front = front_of_left; end = all_sent }
