-- A value is told by its text.
use Rattle.book_dumps.proofs.Common.{◌≡◌, ◌≢◌, ℕ, ◌+◌, List, [], ◌∷◌, ◌++◌, refl, sym, ap, ◌∙◌, arith, append-nil, map, Option, Some, None, option_map}
use Rattle.std.proofs.Common.{◌≤◌, true, false, Bool, ◌&&◌, not, true≢false}
use Rattle.std.specs.List.{All}
use Rattle.std.proofs.lemmas.List.Elements.{All-head, All-tail}
use Rattle.book_office_values.proofs.NameMapLaws.{same, same_itself}
use Rattle.json.specs.Json.{Json, string, value}
use Rattle.json.specs.Print.{print}
use Rattle.json.specs.Tree.{depth, json_tokens}
use Rattle.json.proofs.Printed.Tokens.{tokens-print}
use Rattle.json.proofs.Printed.Trees.{value-json_tokens, ArePrintable-json_tokens}
use Rattle.json.specs.Lex.{tokens}
use Rattle.std.proofs.lemmas.Option.{same_Some}
use Rattle.book_dumps.specs.Objects.{Slot, if_some, items_of, members_of, present, text_line, unless_empty}
use Rattle.book_dumps.proofs.Feeds.{HasNumerals, numbers_of}

and_parts : (a b : Bool) → (a && b) ≡ true → (a ≡ true) × (b ≡ true)
and_parts true b h = (refl, h)
and_parts false b h = absurd (true≢false (sym h))

ends_alike : (xs ys : List ℕ) (z : ℕ) → xs ++ z ∷ [] ≡ ys ++ z ∷ [] → xs ≡ ys
ends_alike [] [] z e = refl
ends_alike [] (y ∷ []) z e = absurd cc
ends_alike [] (y ∷ v ∷ ys) z e = absurd cc
ends_alike (x ∷ []) [] z e = absurd cc
ends_alike (x ∷ v ∷ xs) [] z e = absurd cc
ends_alike (x ∷ xs) (y ∷ ys) z e = let same : x ≡ y = cc in let rest = ends_alike xs ys z cc in λ i. same i ∷ rest i

-- values whose tokens are the same
one_value : (j k : Json) → json_tokens j ≡ json_tokens k → j ≡ k
one_value j k e =
    let d = depth j + depth k in
    let read : (l : Json) → depth l ≤ d → value d (json_tokens l) ≡ Some (l, []) = λ l deep. ap (value d) (sym (append-nil (json_tokens l))) ∙ value-json_tokens l d [] deep in
    ap (λ p. p.0) (same_Some (j, []) (k, []) (sym (read j (omega arith)) ∙ ap (value d) e ∙ read k (omega arith)))

-- values that are one line
pub one_text : (j k : Json) → HasNumerals j → HasNumerals k → text_line j ≡ text_line k → j ≡ k
one_text j k a b e =
    let printed : print (json_tokens j) ≡ print (json_tokens k) = ends_alike _ _ 10 e in
    one_value j k (sym (tokens-print (json_tokens j) (ArePrintable-json_tokens j (numbers_of j a))) ∙ ap tokens printed
    ∙ tokens-print (json_tokens k) (ArePrintable-json_tokens k (numbers_of k b)))

-- ---- lists of values and of members
pub items_alike : (js ks : List Json) → items_of js ≡ items_of ks → js ≡ ks
items_alike [] [] e = refl
items_alike [] (k ∷ ks) e = absurd cc
items_alike (j ∷ js) [] e = absurd cc
items_alike (j ∷ js) (k ∷ ks) e =
    let same : j ≡ k = cc in
    let more : items_of js ≡ items_of ks = cc in
    let rest = items_alike js ks more in λ i. same i ∷ rest i

pub members_alike : (ms ns : List (List ℕ × Json)) → members_of ms ≡ members_of ns → ms ≡ ns
members_alike [] [] e = refl
members_alike [] (n ∷ ns) e = absurd cc
members_alike (m ∷ ms) [] e = absurd cc
members_alike (m ∷ ms) (n ∷ ns) e =
    let key : m.0 ≡ n.0 = cc in
    let same : m.1 ≡ n.1 = cc in
    let more : members_of ms ≡ members_of ns = cc in
    let rest = members_alike ms ns more in λ i. (key i, same i) ∷ rest i

-- lists of values that are told alike
pub mapped_alike : {A B : Type 0} (f : A → B) (P : A → Type 0) → ((x y : A) → P x → P y → f x ≡ f y → x ≡ y)
    → (xs ys : List A) → All P xs → All P ys → map f xs ≡ map f ys → xs ≡ ys
mapped_alike f P one [] [] a b e = refl
mapped_alike f P one [] (y ∷ ys) a b e = absurd cc
mapped_alike f P one (x ∷ xs) [] a b e = absurd cc
mapped_alike f P one (x ∷ xs) (y ∷ ys) a b e =
    let first : f x ≡ f y = cc in
    let more : map f xs ≡ map f ys = cc in
    let same = one x y (All-head P x xs a) (All-head P y ys b) first in
    let rest = mapped_alike f P one xs ys (All-tail P x xs a) (All-tail P y ys b) more in λ i. same i ∷ rest i

-- the same without a condition
pub mapped_same : {A B : Type 0} (f : A → B) → ((x y : A) → f x ≡ f y → x ≡ y) → (xs ys : List A) → map f xs ≡ map f ys → xs ≡ ys
mapped_same f one [] [] e = refl
mapped_same f one [] (y ∷ ys) e = absurd cc
mapped_same f one (x ∷ xs) [] e = absurd cc
mapped_same f one (x ∷ xs) (y ∷ ys) e =
    let first : f x ≡ f y = cc in
    let more : map f xs ≡ map f ys = cc in
    let same = one x y first in
    let rest = mapped_same f one xs ys more in λ i. same i ∷ rest i

pub option_alike : {A B : Type 0} (f : A → B) → ((x y : A) → f x ≡ f y → x ≡ y) → (r s : Option A) → option_map f r ≡ option_map f s → r ≡ s
option_alike f one None None e = refl
option_alike f one None (Some y) e = absurd cc
option_alike f one (Some x) None e = absurd cc
option_alike f one (Some x) (Some y) e = ap Some (one x y (same_Some (f x) (f y) e))

pub unless_alike : {A : Type 0} (f : List A → Json) (xs ys : List A) → (f xs ≡ f ys → xs ≡ ys) → unless_empty f xs ≡ unless_empty f ys → xs ≡ ys
unless_alike f [] [] one e = refl
unless_alike f [] (y ∷ ys) one e = absurd cc
unless_alike f (x ∷ xs) [] one e = absurd cc
unless_alike f (x ∷ xs) (y ∷ ys) one e = one (same_Some (f (x ∷ xs)) (f (y ∷ ys)) e)

pub string_alike : (s t : List ℕ) → string s ≡ string t → s ≡ t
string_alike s t e = cc

-- ---- keys that have values
abbrev absent : List ℕ → List (List ℕ) → Bool
absent k [] = true
absent k (x ∷ ks) = not (same k x) && absent k ks

abbrev pub distinct : List (List ℕ) → Bool
distinct [] = true
distinct (k ∷ ks) = absent k ks && distinct ks

abbrev pub keys_of : List Slot → List (List ℕ)
keys_of ss = map (λ (s : Slot). s.0) ss

apart : (k x : List ℕ) (rest : Bool) → (not (same k x) && rest) ≡ true → (k ≢ x) × (rest ≡ true)
apart k x rest h =
    elim (same k x) as (λ b. same k x ≡ b → (not b && rest) ≡ true → (k ≢ x) × (rest ≡ true)) [
      | true ↦ λ _ no. absurd (true≢false (sym no))
      | false ↦ λ is yes. (λ e. true≢false (sym (same_itself k) ∙ ap (same k) e ∙ is), yes)
    ] refl h

first_key : (k x : List ℕ) (j : Json) (rest : List (List ℕ × Json)) (v : Option Json) (more : List (List ℕ × Json)) → k ≢ x → ((k, j) ∷ rest ≡ more → ⊥) → (k, j) ∷ rest ≡ if_some x v ++ more → ⊥
first_key k x j rest None more other none e = none e
first_key k x j rest (Some v) more other none e = other (let first : ◌≡◌ {A = List ℕ × Json} (k, j) (x, v) = cc in ap (λ p. p.0) first)

not_among : (k : List ℕ) (j : Json) (rest : List (List ℕ × Json)) (ss : List Slot) → absent k (keys_of ss) ≡ true → (k, j) ∷ rest ≡ present ss → ⊥
not_among k j rest [] none e = absurd cc
not_among k j rest (s ∷ ss) none e =
    let h = apart k s.0 (absent k (keys_of ss)) none in first_key k s.0 j rest s.1 (present ss) h.0 (not_among k j rest ss h.1) e

abbrev pub values_of : List Slot → List (Option Json)
values_of ss = map (λ (s : Slot). s.1) ss

values_alike : (k x : List ℕ) (v w : Option Json) (ss ts : List Slot) → k ≡ x → absent k (keys_of ss) ≡ true → absent x (keys_of ts) ≡ true
    → (present ss ≡ present ts → values_of ss ≡ values_of ts) → if_some k v ++ present ss ≡ if_some x w ++ present ts → v ∷ values_of ss ≡ w ∷ values_of ts
values_alike k x None None ss ts key p q more e = ap (λ rest. None ∷ rest) (more e)
values_alike k x None (Some w) ss ts key p q more e = absurd (not_among x w (present ts) ss (ap (λ y. absent y (keys_of ss)) (sym key) ∙ p) (sym e))
values_alike k x (Some v) None ss ts key p q more e = absurd (not_among k v (present ss) ts (ap (λ y. absent y (keys_of ts)) key ∙ q) e)
values_alike k x (Some v) (Some w) ss ts key p q more e =
    let first : ◌≡◌ {A = List ℕ × Json} (k, v) (x, w) = cc in
    let rest : present ss ≡ present ts = cc in
    let after = more rest in λ i. Some ((first i).1) ∷ after i

-- where no key comes twice, what is present tells each value
pub present_alike : (ss ts : List Slot) → keys_of ss ≡ keys_of ts → distinct (keys_of ss) ≡ true → present ss ≡ present ts → values_of ss ≡ values_of ts
present_alike [] [] keys once e = refl
present_alike [] (t ∷ ts) keys once e = absurd cc
present_alike (s ∷ ss) [] keys once e = absurd cc
present_alike (s ∷ ss) (t ∷ ts) keys once e =
    let key : s.0 ≡ t.0 = cc in
    let more : keys_of ss ≡ keys_of ts = cc in
    let parts = and_parts (absent s.0 (keys_of ss)) (distinct (keys_of ss)) once in
    let other : absent t.0 (keys_of ts) ≡ true = sym (λ i. absent (key i) (more i)) ∙ parts.0 in
    values_alike s.0 t.0 s.1 t.1 ss ts key parts.0 other (present_alike ss ts more parts.1) e
