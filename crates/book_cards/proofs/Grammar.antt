-- The fields that are read are those of the grammar, and no others.
use Rattle.book_cards.proofs.Common.{◌≡◌, ◌≢◌, ℕ, suc, ◌+◌, ◌<◌, Bool, true, false, cond, Option, Some, None, List, [], ◌∷◌, ◌++◌, length, take, drop, get_or, refl, ap, sym, ◌∙◌, subst, arith, append_assoc, eqb, option_map, option_and_then, AllByRecursion, Start, Fields, is_name_byte, colon_from, name_length, fields_of}
use mathlib.Core.Bool.{not-not}
use Rattle.std.proofs.Common.{◌&&◌, add-one, take-append-drop, drop-drop, drop-cons, inl, inr}
use Rattle.std.specs.Prelude.{◌⊎◌, IfSome}
use Rattle.std.specs.List.{join_with_byte, concat}
use Rattle.std.proofs.lemmas.Option.{same_Some}
use Rattle.book_cards.specs.declared.line.Position.{Position}
use Rattle.book_cards.specs.declared.line.Position.TheVariants.{NameStart, Name, ValueStart, Bare, Quoted, AfterQuote}
use Rattle.book_cards.specs.ContentLine.{is_bare_byte, IsName, IsBareValue, IsQuotedValue, AreValues, IsParam, AreParams, group_text, IsContentLine}
use Rattle.book_cards.specs.Reading.{may_end, after_value, next, name_at, after_name, is_empty, with_value, fields_with, grouped}
use Rattle.book_cards.proofs.Folds.{eqb_is}
use Rattle.book_cards.proofs.Names.{at_colon}

abbrev pub AllNames : List ℕ → Type 0
AllNames name = AllByRecursion (λ b. is_name_byte b ≡ true) name

abbrev pub NoQuote : List ℕ → Type 0
NoQuote text = AllByRecursion (λ b. eqb b 34 ≡ false) text

abbrev pub IsValue : List ℕ → Type 0
IsValue v = IsBareValue v ⊎ IsQuotedValue v

-- values, and then parameters
abbrev pub ValuesThen : List ℕ → Type 0
ValuesThen t = (values params : List ℕ) × AreValues values × AreParams params × (t ≡ values ++ params)

-- what may come after a value
abbrev pub AfterValue : List ℕ → Type 0
AfterValue t = AreParams t ⊎ ((rest : List ℕ) × ValuesThen rest × (t ≡ 44 ∷ rest))

-- what may stand between a position and the colon
abbrev pub Tail : Position → List ℕ → Type 0
Tail Start t = AreParams t
Tail NameStart t = (name rest : List ℕ) × IsName name × ValuesThen rest × (t ≡ name ++ 61 ∷ rest)
Tail Name t = (name rest : List ℕ) × AllNames name × ValuesThen rest × (t ≡ name ++ 61 ∷ rest)
Tail ValueStart t = ValuesThen t
Tail Bare t = (bare rest : List ℕ) × IsBareValue bare × AfterValue rest × (t ≡ bare ++ rest)
Tail Quoted t = (inside rest : List ℕ) × NoQuote inside × AfterValue rest × (t ≡ inside ++ 34 ∷ rest)
Tail AfterQuote t = AfterValue t

pub params_nil : AreParams []
params_nil = ([], tt, refl)

params_cons : (p t : List ℕ) → IsParam p → AreParams t → AreParams (p ++ t)
params_cons p t is more = (p ∷ more.0, (is, more.1), ap (λ r. p ++ r) more.2)

-- a value, and what may come after it
value_then : (v rest : List ℕ) → IsValue v → AfterValue rest → ValuesThen (v ++ rest)
value_then v rest is (inl params) = (v, rest, (v ∷ [], omega arith, (is, tt), refl), params, refl)
value_then v rest is (inr more) = here more.1.2
  where
    again : (vs : List (List ℕ)) → 0 < length vs → join_with_byte 44 (v ∷ vs) ≡ v ++ (44 ∷ join_with_byte 44 vs)
    again [] l = absurd (omega arith)
    again (w ∷ vs) l = refl

    here : AreValues more.1.0 → ValuesThen (v ++ rest)
    here values = (
      v ++ (44 ∷ more.1.0),
      more.1.1,
      (v ∷ values.0, omega arith, (is, values.2), ap (λ t. v ++ (44 ∷ t)) values.3 ∙ sym (again values.0 values.1)),
      more.1.3,
      ap (λ t. v ++ t) (more.2 ∙ ap (λ t. 44 ∷ t) more.1.4) ∙ sym (append_assoc v (44 ∷ more.1.0) more.1.1),
    )

-- and the other way
then_value : (t : List ℕ) → ValuesThen t → (v rest : List ℕ) × IsValue v × AfterValue rest × (t ≡ v ++ rest)
then_value t (values, params, ([], l, all, is), more, e) = absurd (omega arith)
then_value t (values, params, ((v ∷ []), l, all, is), more, e) = (v, params, all.0, inl more, e ∙ ap (λ r. r ++ params) is)
then_value t (values, params, ((v ∷ w ∷ vs), l, all, is), more, e) = (
  v,
  44 ∷ (join_with_byte 44 (w ∷ vs) ++ params),
  all.0,
  inr (join_with_byte 44 (w ∷ vs) ++ params, (join_with_byte 44 (w ∷ vs), params, (w ∷ vs, omega arith, all.1, refl), more, refl), refl),
  e ∙ ap (λ r. r ++ params) is ∙ append_assoc v (44 ∷ join_with_byte 44 (w ∷ vs)) params,
)

-- a semicolon, and a parameter without it
param_then : (t : List ℕ) → Tail NameStart t → AreParams (59 ∷ t)
param_then t (name, rest, is, (values, params, are, more, e), spelled) =
    subst AreParams (ap (λ r. 59 ∷ r) (append_assoc name (61 ∷ values) params ∙ ap (λ r. name ++ (61 ∷ r)) (sym e) ∙ sym spelled))
    (params_cons (59 ∷ (name ++ 61 ∷ values)) params (name, values, is, are, refl) more)

then_param : (b : ℕ) (t : List ℕ) → AreParams (b ∷ t) → (b ≡ 59) × Tail NameStart t
then_param b t ([], all, e) = cc
then_param b t (((p ∷ ps)), ((name, values, is, are, spelled), all), e) =
    let whole : b ∷ t ≡ 59 ∷ ((name ++ 61 ∷ values) ++ concat ps) = e ∙ ap (λ r. r ++ concat ps) spelled in
    let rest : t ≡ (name ++ 61 ∷ values) ++ concat ps = cc in
    (cc, (name, values ++ concat ps, is, (values, concat ps, are, (ps, all, refl), refl), rest ∙ append_assoc name (61 ∷ values) (concat ps)))

-- Where a byte leads

abbrev Leads : Position → ℕ → List ℕ → Type 0
Leads position b t = (q : Position) × (next position b ≡ Some q) × Tail q t

to_tail : (q p : Position) (t : List ℕ) → Some p ≡ Some q → Tail q t → Tail p t
to_tail q p t e h = subst (λ (r : Position). Tail r t) (sym (same_Some p q e)) h

-- after a value
value_back : (b : ℕ) (q : Position) (t : List ℕ) (other : Option Position) → after_value b other ≡ Some q → Tail q t
    → AfterValue (b ∷ t) ⊎ ((eqb b 44 ≡ false) × (eqb b 59 ≡ false) × (other ≡ Some q))
value_back b q t other e h = comma (eqb b 44) refl e
  where
    semicolon : (s : Bool) → eqb b 59 ≡ s → eqb b 44 ≡ false → cond s (Some NameStart) other ≡ Some q
        → (AreParams (b ∷ t) ⊎ ((rest : List ℕ) × ValuesThen rest × (b ∷ t ≡ 44 ∷ rest))) ⊎ ((eqb b 44 ≡ false) × (eqb b 59 ≡ false) × (other ≡ Some q))
    semicolon true s f g = inl (inl (subst (λ (c : ℕ). AreParams (c ∷ t)) (sym (eqb_is b 59 s)) (param_then t (to_tail q NameStart t g h))))
    semicolon false s f g = inr (f, s, g)

    comma : (s : Bool) → eqb b 44 ≡ s → cond s (Some ValueStart) (cond (eqb b 59) (Some NameStart) other) ≡ Some q
        → (AreParams (b ∷ t) ⊎ ((rest : List ℕ) × ValuesThen rest × (b ∷ t ≡ 44 ∷ rest))) ⊎ ((eqb b 44 ≡ false) × (eqb b 59 ≡ false) × (other ≡ Some q))
    comma true s g = inl (inr (t, to_tail q ValueStart t g h, ap (λ c. c ∷ t) (eqb_is b 44 s)))
    comma false s g = semicolon (eqb b 59) refl s g

value_forth : (b : ℕ) (t : List ℕ) (other : Option Position) → AfterValue (b ∷ t)
    → (q : Position) × (after_value b other ≡ Some q) × Tail q t × (eqb b 34 ≡ false) × (eqb b 58 ≡ false)
value_forth b t other (inl params) =
    let first = then_param b t params in
    (NameStart, ap (λ (c : ℕ). after_value c other) first.0, first.1, ap (λ (c : ℕ). eqb c 34) first.0, ap (λ (c : ℕ). eqb c 58) first.0)
value_forth b t other (inr (rest, values, e)) =
    let byte : b ≡ 44 = cc in let same : t ≡ rest = cc in
    (ValueStart, ap (λ (c : ℕ). after_value c other) byte, subst ValuesThen (sym same) values, ap (λ (c : ℕ). eqb c 34) byte, ap (λ (c : ℕ). eqb c 58) byte)

bare_byte : (b : ℕ) → is_bare_byte b ≡ true → (eqb b 34 ≡ false) × (eqb b 59 ≡ false) × (eqb b 58 ≡ false) × (eqb b 44 ≡ false)
bare_byte b e = (grind arith, grind arith, grind arith, grind arith)

is_bare : (b : ℕ) → eqb b 34 ≡ false → eqb b 59 ≡ false → eqb b 58 ≡ false → eqb b 44 ≡ false → is_bare_byte b ≡ true
is_bare b q s c m = grind arith

name_byte : (b : ℕ) → is_name_byte b ≡ true → (eqb b 58 ≡ false) × (eqb b 61 ≡ false) × (eqb b 46 ≡ false)
name_byte b e = (grind arith, grind arith, grind arith)

-- A byte that leads on stands before what follows it.
back : (position : Position) (b : ℕ) (q : Position) (t : List ℕ) → eqb b 58 && may_end position ≡ false → next position b ≡ Some q → Tail q t → Tail position (b ∷ t)
back Start b q t colon e h = here (eqb b 59) refl e
  where
    here : (s : Bool) → eqb b 59 ≡ s → cond s (Some NameStart) None ≡ Some q → AreParams (b ∷ t)
    here true s g = subst (λ (c : ℕ). AreParams (c ∷ t)) (sym (eqb_is b 59 s)) (param_then t (to_tail q NameStart t g h))
    here false s g = cc
back NameStart b q t colon e h = here (is_name_byte b) refl e
  where
    here : (s : Bool) → is_name_byte b ≡ s → cond s (Some Name) None ≡ Some q → Tail NameStart (b ∷ t)
    here true s g = let tail = to_tail q Name t g h in (b ∷ tail.0, tail.1, (omega arith, (s, tail.2)), tail.3, ap (λ r. b ∷ r) tail.4)
    here false s g = cc
back Name b q t colon e h = here (is_name_byte b) refl e
  where
    equals : (s : Bool) → eqb b 61 ≡ s → cond s (Some ValueStart) None ≡ Some q → Tail Name (b ∷ t)
    equals true s g = ([], t, tt, to_tail q ValueStart t g h, ap (λ c. c ∷ t) (eqb_is b 61 s))
    equals false s g = cc

    here : (s : Bool) → is_name_byte b ≡ s → cond s (Some Name) (cond (eqb b 61) (Some ValueStart) None) ≡ Some q → Tail Name (b ∷ t)
    here true s g = let tail = to_tail q Name t g h in (b ∷ tail.0, tail.1, (s, tail.2), tail.3, ap (λ r. b ∷ r) tail.4)
    here false s g = equals (eqb b 61) refl g
back ValueStart b q t colon e h = here (eqb b 34) refl e
  where
    and_true : (c : Bool) → (c && true) ≡ false → c ≡ false
    and_true true k = cc
    and_true false k = refl

    other : eqb b 34 ≡ false → AfterValue (b ∷ t) ⊎ ((eqb b 44 ≡ false) × (eqb b 59 ≡ false) × (Some Bare ≡ Some q)) → ValuesThen (b ∷ t)
    other quote (inl after) = value_then [] (b ∷ t) (inl tt) after
    other quote (inr (m, s, g)) =
        let tail = to_tail q Bare t g h in
        subst ValuesThen (ap (λ r. b ∷ r) (sym tail.4)) (value_then (b ∷ tail.0) tail.1 (inl (is_bare b quote s (and_true (eqb b 58) colon) m, tail.2)) tail.3)

    here : (s : Bool) → eqb b 34 ≡ s → cond s (Some Quoted) (after_value b (Some Bare)) ≡ Some q → ValuesThen (b ∷ t)
    here true s g =
        let tail = to_tail q Quoted t g h in
        let spelled : (34 ∷ (tail.0 ++ 34 ∷ [])) ++ tail.1 ≡ b ∷ t = ap (λ r. 34 ∷ r) (append_assoc tail.0 (34 ∷ []) tail.1 ∙ sym tail.4) ∙ ap (λ c. c ∷ t) (sym (eqb_is b 34 s)) in
        subst ValuesThen spelled (value_then (34 ∷ (tail.0 ++ 34 ∷ [])) tail.1 (inr (tail.0, tail.2, refl)) tail.3)
    here false s g = other s (value_back b q t (Some Bare) g h)
back Bare b q t colon e h = here (eqb b 34) refl e
  where
    and_true : (c : Bool) → (c && true) ≡ false → c ≡ false
    and_true true k = cc
    and_true false k = refl

    other : eqb b 34 ≡ false → AfterValue (b ∷ t) ⊎ ((eqb b 44 ≡ false) × (eqb b 59 ≡ false) × (Some Bare ≡ Some q)) → Tail Bare (b ∷ t)
    other quote (inl after) = ([], b ∷ t, tt, after, refl)
    other quote (inr (m, s, g)) =
        let tail = to_tail q Bare t g h in
        (b ∷ tail.0, tail.1, (is_bare b quote s (and_true (eqb b 58) colon) m, tail.2), tail.3, ap (λ r. b ∷ r) tail.4)

    here : (s : Bool) → eqb b 34 ≡ s → cond s None (after_value b (Some Bare)) ≡ Some q → Tail Bare (b ∷ t)
    here true s g = cc
    here false s g = other s (value_back b q t (Some Bare) g h)
back Quoted b q t colon e h = here (eqb b 34) refl e
  where
    here : (s : Bool) → eqb b 34 ≡ s → cond s (Some AfterQuote) (Some Quoted) ≡ Some q → Tail Quoted (b ∷ t)
    here true s g = ([], t, tt, to_tail q AfterQuote t g h, ap (λ c. c ∷ t) (eqb_is b 34 s))
    here false s g = let tail = to_tail q Quoted t g h in (b ∷ tail.0, tail.1, (s, tail.2), tail.3, ap (λ r. b ∷ r) tail.4)
back AfterQuote b q t colon e h = here (value_back b q t None e h)
  where
    here : AfterValue (b ∷ t) ⊎ ((eqb b 44 ≡ false) × (eqb b 59 ≡ false) × (None ≡ Some q)) → AfterValue (b ∷ t)
    here (inl after) = after
    here (inr (m, s, g)) = cc

-- What may stand at a position begins with a byte that leads on.
and_false : (c d : Bool) → c ≡ false → c && d ≡ false
and_false c d e = ap (λ x. x && d) e

and_false_right : (c d : Bool) → d ≡ false → c && d ≡ false
and_false_right true d e = e
and_false_right false d e = refl

after_bare : (b : ℕ) → is_bare_byte b ≡ true → after_value b (Some Bare) ≡ Some Bare
after_bare b e =
    let parts = bare_byte b e in
    ap (λ c. cond c (Some ValueStart) (cond (eqb b 59) (Some NameStart) (Some Bare))) parts.3 ∙ ap (λ c. cond c (Some NameStart) (Some Bare)) parts.1

forth : (position : Position) (b : ℕ) (t : List ℕ) → Tail position (b ∷ t) → (eqb b 58 && may_end position ≡ false) × Leads position b t
forth Start b t h =
    let first = then_param b t h in
    (ap (λ (c : ℕ). eqb c 58 && true) first.0, (NameStart, ap (λ (c : ℕ). next Start c) first.0, first.1))
forth NameStart b t ([], rest, is, values, e) = absurd (omega arith)
forth NameStart b t ((c ∷ name), rest, is, values, e) =
    let byte : b ≡ c = cc in let same : t ≡ name ++ 61 ∷ rest = cc in (
      and_false_right (eqb b 58) false refl,
      (Name, ap (λ x. cond x (Some Name) None) (ap is_name_byte byte ∙ is.1.0), (name, rest, is.1.1, values, same)),
    )
forth Name b t ([], rest, is, values, e) =
    let byte : b ≡ 61 = cc in let same : t ≡ rest = cc in
    (and_false_right (eqb b 58) false refl, (ValueStart, ap (λ (c : ℕ). next Name c) byte, subst ValuesThen (sym same) values))
forth Name b t ((c ∷ name), rest, is, values, e) =
    let byte : b ≡ c = cc in let same : t ≡ name ++ 61 ∷ rest = cc in (
      and_false_right (eqb b 58) false refl,
      (Name, ap (λ x. cond x (Some Name) (cond (eqb b 61) (Some ValueStart) None)) (ap is_name_byte byte ∙ is.0), (name, rest, is.1, values, same)),
    )
forth ValueStart b t h = here (then_value (b ∷ t) h)
  where
    at : (v rest : List ℕ) → IsValue v → AfterValue rest → b ∷ t ≡ v ++ rest → (eqb b 58 && true ≡ false) × Leads ValueStart b t
    at [] rest is after e =
        let leads = value_forth b t (Some Bare) (subst AfterValue (sym e) after) in
        (and_false (eqb b 58) true leads.4, (leads.0, ap (λ x. cond x (Some Quoted) (after_value b (Some Bare))) leads.3 ∙ leads.1, leads.2))
    at (c ∷ v) rest (inl is) after e =
        let byte : b ≡ c = cc in let same : t ≡ v ++ rest = cc in
        let bare : is_bare_byte b ≡ true = ap is_bare_byte byte ∙ is.0 in
        let parts = bare_byte b bare in (
          and_false (eqb b 58) true parts.2,
          (Bare, ap (λ x. cond x (Some Quoted) (after_value b (Some Bare))) parts.0 ∙ after_bare b bare, (v, rest, is.1, after, same)),
        )
    at (c ∷ v) rest (inr is) after e =
        let byte : b ≡ 34 = cc in let same : t ≡ (is.0 ++ 34 ∷ []) ++ rest = cc in
        (ap (λ (x : ℕ). eqb x 58 && true) byte, (Quoted, ap (λ (x : ℕ). next ValueStart x) byte, (is.0, rest, is.1, after, same ∙ append_assoc is.0 (34 ∷ []) rest)))

    here : (v rest : List ℕ) × IsValue v × AfterValue rest × (b ∷ t ≡ v ++ rest) → (eqb b 58 && true ≡ false) × Leads ValueStart b t
    here (v, rest, is, after, e) = at v rest is after e
forth Bare b t ([], rest, is, after, e) =
    let leads = value_forth b t (Some Bare) (subst AfterValue (sym e) after) in
    (and_false (eqb b 58) true leads.4, (leads.0, ap (λ x. cond x None (after_value b (Some Bare))) leads.3 ∙ leads.1, leads.2))
forth Bare b t ((c ∷ v), rest, is, after, e) =
    let byte : b ≡ c = cc in let same : t ≡ v ++ rest = cc in
    let bare : is_bare_byte b ≡ true = ap is_bare_byte byte ∙ is.0 in
    let parts = bare_byte b bare in
    (and_false (eqb b 58) true parts.2, (Bare, ap (λ x. cond x None (after_value b (Some Bare))) parts.0 ∙ after_bare b bare, (v, rest, is.1, after, same)))
forth Quoted b t ([], rest, is, after, e) =
    let byte : b ≡ 34 = cc in let same : t ≡ rest = cc in
    (and_false_right (eqb b 58) false refl, (AfterQuote, ap (λ (x : ℕ). next Quoted x) byte, subst AfterValue (sym same) after))
forth Quoted b t ((c ∷ v), rest, is, after, e) =
    let byte : b ≡ c = cc in let same : t ≡ v ++ 34 ∷ rest = cc in (
      and_false_right (eqb b 58) false refl,
      (Quoted, ap (λ x. cond x (Some AfterQuote) (Some Quoted)) (ap (λ (x : ℕ). eqb x 34) byte ∙ is.0), (v, rest, is.1, after, same)),
    )
forth AfterQuote b t h =
    let leads = value_forth b t None h in (and_false (eqb b 58) true leads.4, (leads.0, leads.1, leads.2))

no_end : (xs : List ℕ) (y : ℕ) (ys : List ℕ) → [] ≢ xs ++ y ∷ ys
no_end [] y ys e = cc
no_end (x ∷ xs) y ys e = cc

nothing : (position : Position) → Tail position [] → may_end position ≡ true
nothing Start h = refl
nothing NameStart (name, rest, is, values, e) = absurd (no_end name 61 rest e)
nothing Name (name, rest, is, values, e) = absurd (no_end name 61 rest e)
nothing ValueStart h = refl
nothing Bare h = refl
nothing Quoted (inside, rest, is, after, e) = absurd (no_end inside 34 rest e)
nothing AfterQuote h = refl

-- The colon that ends the parameters

pub sound : (position : Position) (bs : List ℕ) (n : ℕ) → colon_from position bs ≡ Some n → Tail position (take n bs)
sound position [] n e = cc
sound position (b ∷ bs) n e = here (eqb b 58 && may_end position) refl (λ q m k. sound q bs m k) e
  where
    and_right : (c d : Bool) → (c && d) ≡ true → d ≡ true
    and_right true d k = k
    and_right false d k = cc

    empty : (p : Position) → may_end p ≡ true → Tail p []
    empty Start k = params_nil
    empty NameStart k = cc
    empty Name k = cc
    empty ValueStart k = value_then [] [] (inl tt) (inl params_nil)
    empty Bare k = ([], [], tt, inl params_nil, refl)
    empty Quoted k = cc
    empty AfterQuote k = inl params_nil

    after : (q : Position) → ((m : ℕ) → colon_from q bs ≡ Some m → Tail q (take m bs)) → (r : Option ℕ) → r ≡ colon_from q bs → option_map (λ m. m + 1) r ≡ Some n
        → (m : ℕ) × (suc m ≡ n) × Tail q (take m bs)
    after q later None is f = cc
    after q later (Some m) is f = (m, grind arith, later m (sym is))

    past : eqb b 58 && may_end position ≡ false → ((q : Position) (m : ℕ) → colon_from q bs ≡ Some m → Tail q (take m bs)) → (o : Option Position) → next position b ≡ o
        → option_and_then (λ q. option_map (λ m. m + 1) (colon_from q bs)) o ≡ Some n → Tail position (take n (b ∷ bs))
    past colon later None is f = cc
    past colon later (Some q) is f =
        let found = after q (later q) (colon_from q bs) refl f in
        subst (λ (k : ℕ). Tail position (take k (b ∷ bs))) found.1 (back position b q (take found.0 bs) colon is found.2)

    here : (t : Bool) → (eqb b 58 && may_end position) ≡ t → ((q : Position) (m : ℕ) → colon_from q bs ≡ Some m → Tail q (take m bs))
        → cond t (Some 0) (option_and_then (λ q. option_map (λ m. m + 1) (colon_from q bs)) (next position b)) ≡ Some n → Tail position (take n (b ∷ bs))
    here true is later f =
        let none : 0 ≡ n = grind arith in
        subst (λ (k : ℕ). Tail position (take k (b ∷ bs))) none (empty position (and_right (eqb b 58) (may_end position) is))
    here false is later f = past is later (next position b) refl f

pub complete : (position : Position) (t value : List ℕ) → Tail position t → colon_from position (t ++ 58 ∷ value) ≡ Some (length t)
complete position [] value h = ap (λ c. cond c (Some 0) (option_and_then (λ q. option_map (λ m. m + 1) (colon_from q value)) (next position 58))) (nothing position h)
complete position (b ∷ t) value h =
    let leads = forth position b t h in
    ap (λ c. cond c (Some 0) (option_and_then (λ q. option_map (λ m. m + 1) (colon_from q (t ++ 58 ∷ value))) (next position b))) leads.0
    ∙ ap (λ o. option_and_then (λ q. option_map (λ m. m + 1) (colon_from q (t ++ 58 ∷ value))) o) leads.1.1
    ∙ ap (λ o. option_map (λ m. m + 1) o) (complete leads.1.0 t value leads.1.2) ∙ ap (λ (k : ℕ). Some k) (add-one (length t))

-- Names

-- what begins with no letter, digit or hyphen
abbrev NoName : List ℕ → Type 0
NoName [] = Unit {0}
NoName (b ∷ r) = is_name_byte b ≡ false

pub one_more : (k : ℕ) → 1 + k ≡ suc k
one_more k = omega arith

name_len_cons : (b : ℕ) (bs : List ℕ) → is_name_byte b ≡ true → name_length (b ∷ bs) ≡ suc (name_length bs)
name_len_cons b bs e = ap (λ t. cond t (1 + name_length bs) 0) (not-not (is_name_byte b) ∙ e) ∙ one_more (name_length bs)

name_len_stop : (r : List ℕ) → NoName r → name_length r ≡ 0
name_len_stop [] h = refl
name_len_stop (b ∷ r) h = ap (λ t. cond t (1 + name_length r) 0) (not-not (is_name_byte b) ∙ h)

take_front : (n r : List ℕ) → take (length n) (n ++ r) ≡ n
take_front [] r = refl
take_front (b ∷ n) r = ap (λ t. b ∷ t) (take_front n r)

drop_front : (n r : List ℕ) → drop (length n) (n ++ r) ≡ r
drop_front [] r = refl
drop_front (b ∷ n) r = drop_front n r

name_len_is : (n r : List ℕ) → AllNames n → NoName r → name_length (n ++ r) ≡ length n
name_len_is [] r all stop = name_len_stop r stop
name_len_is (b ∷ n) r all stop = name_len_cons b (n ++ r) all.0 ∙ ap (λ (k : ℕ). suc k) (name_len_is n r all.1 stop)

name_is : (n r : List ℕ) → AllNames n → NoName r → name_at (n ++ r) ≡ n
name_is n r all stop = ap (λ (k : ℕ). take k (n ++ r)) (name_len_is n r all stop) ∙ take_front n r

rest_is : (n r : List ℕ) → AllNames n → NoName r → after_name (n ++ r) ≡ r
rest_is n r all stop = ap (λ (k : ℕ). drop k (n ++ r)) (name_len_is n r all stop) ∙ drop_front n r

names_all : (bs : List ℕ) → AllNames (name_at bs)
names_all [] = tt
names_all (b ∷ bs) = here (is_name_byte b) refl (names_all bs)
  where
    here : (t : Bool) → is_name_byte b ≡ t → AllNames (name_at bs) → AllNames (take (name_length (b ∷ bs)) (b ∷ bs))
    here true e later = subst (λ (k : ℕ). AllNames (take k (b ∷ bs))) (sym (name_len_cons b bs e)) (e, later)
    here false e later = subst (λ (k : ℕ). AllNames (take k (b ∷ bs))) (sym (name_len_stop (b ∷ bs) e)) tt

-- Fields

not_empty : (name : List ℕ) → is_empty name ≡ false → 0 < length name
not_empty name e = grind arith

is_not_empty : (name : List ℕ) → 0 < length name → is_empty name ≡ false
is_not_empty name l = grind arith

at_cut : (rest : List ℕ) (n : ℕ) → n < length rest → get_or rest n 0 ≡ 58 → rest ≡ take n rest ++ 58 ∷ drop (n + 1) rest
at_cut rest n l e =
    sym (take-append-drop n rest) ∙ ap (λ t. take n rest ++ t) (drop-cons rest n 0 l ∙ ap (λ (b : ℕ). b ∷ drop (suc n) rest) e ∙ ap (λ (k : ℕ). 58 ∷ drop k rest) (sym (add-one n)))

with_sound : (group : Option (List ℕ)) (name rest : List ℕ) (f : Fields) → fields_with group name rest ≡ Some f
    → (0 < length name) × (group ≡ f.group) × (name ≡ f.name) × AreParams f.params × (rest ≡ f.params ++ 58 ∷ f.value)
with_sound group name rest f e = empty (is_empty name) refl e
  where
    Right : Fields → Type 0
    Right g = (0 < length name) × (group ≡ g.group) × (name ≡ g.name) × AreParams g.params × (rest ≡ g.params ++ 58 ∷ g.value)

    colon : (o : Option ℕ) → colon_from Start rest ≡ o → is_empty name ≡ false → with_value group name rest o ≡ Some f
        → (0 < length name) × (group ≡ f.group) × (name ≡ f.name) × AreParams f.params × (rest ≡ f.params ++ 58 ∷ f.value)
    colon None is n h = cc
    colon (Some k) is n h =
        let position = at_colon Start rest k is in
        subst (λ (g : Fields). (0 < length name) × (group ≡ g.group) × (name ≡ g.name) × AreParams g.params × (rest ≡ g.params ++ 58 ∷ g.value))
        (same_Some (record { group = group; name = name; params = take k rest; value = drop (k + 1) rest }) f h)
        (not_empty name n, refl, refl, sound Start rest k is, at_cut rest k position.0 position.1)

    empty : (t : Bool) → is_empty name ≡ t → cond t None (with_value group name rest (colon_from Start rest)) ≡ Some f
        → (0 < length name) × (group ≡ f.group) × (name ≡ f.name) × AreParams f.params × (rest ≡ f.params ++ 58 ∷ f.value)
    empty true n h = cc
    empty false n h = colon (colon_from Start rest) refl n h

dot_is : (r : List ℕ) → eqb (get_or r 0 0) 46 ≡ true → r ≡ 46 ∷ drop 1 r
dot_is [] e = cc
dot_is (b ∷ r) e = ap (λ c. c ∷ r) (eqb_is b 46 e)

pub fields_sound : (line : List ℕ) (f : Fields) → fields_of line ≡ Some f → IsContentLine line f
fields_sound line f e = here (eqb (get_or (after_name line) 0 0) 46) refl e
  where
    plain : fields_with None (name_at line) (after_name line) ≡ Some f → IsContentLine line f
    plain h =
        let parts = with_sound None (name_at line) (after_name line) f h in
        record {
          group = subst (λ (g : Option (List ℕ)). IfSome g IsName) parts.1 tt;
          name = subst IsName parts.2 (parts.0, names_all line);
          params = parts.3;
          spelled = sym (take-append-drop (name_length line) line) ∙ ap (λ t. name_at line ++ t) parts.4 ∙ ap (λ t. t ++ (f.params ++ 58 ∷ f.value)) parts.2
              ∙ ap (λ (g : Option (List ℕ)). group_text g ++ (f.name ++ (f.params ++ 58 ∷ f.value))) parts.1;
        }

    grouped_is : eqb (get_or (after_name line) 0 0) 46 ≡ true → (t : Bool) → is_empty (name_at line) ≡ t
        → cond t None (fields_with (Some (name_at line)) (name_at (drop 1 (after_name line))) (after_name (drop 1 (after_name line)))) ≡ Some f → IsContentLine line f
    grouped_is dot true n h = cc
    grouped_is dot false n h =
        let more = drop 1 (after_name line) in
        let parts = with_sound (Some (name_at line)) (name_at more) (after_name more) f h in
        record {
          group = subst (λ (g : Option (List ℕ)). IfSome g IsName) parts.1 (not_empty (name_at line) n, names_all line);
          name = subst IsName parts.2 (parts.0, names_all more);
          params = parts.3;
          spelled = sym (take-append-drop (name_length line) line) ∙ ap (λ t. name_at line ++ t) (dot_is (after_name line) dot)
              ∙ sym (append_assoc (name_at line) (46 ∷ []) more)
              ∙ ap (λ t. (name_at line ++ 46 ∷ []) ++ t) (sym (take-append-drop (name_length more) more) ∙ ap (λ t. name_at more ++ t) parts.4 ∙ ap (λ t. t ++ (f.params ++ 58 ∷ f.value)) parts.2)
              ∙ ap (λ (g : Option (List ℕ)). group_text g ++ (f.name ++ (f.params ++ 58 ∷ f.value))) parts.1;
        }

    here : (t : Bool) → eqb (get_or (after_name line) 0 0) 46 ≡ t
        → cond t (grouped (name_at line) (drop 1 (after_name line))) (fields_with None (name_at line) (after_name line)) ≡ Some f → IsContentLine line f
    here true is h = grouped_is is (is_empty (name_at line)) refl h
    here false is h = plain h

-- the mark after a name
mark : (params value : List ℕ) → AreParams params → NoName (params ++ 58 ∷ value) × (eqb (get_or (params ++ 58 ∷ value) 0 0) 46 ≡ false)
mark [] value are = (refl, refl)
mark (b ∷ params) value are =
    let first = then_param b params are in (ap is_name_byte first.0, ap (λ (c : ℕ). eqb c 46) first.0)

with_complete : (group : Option (List ℕ)) (name params value : List ℕ) → IsName name → AreParams params
    → fields_with group name (params ++ 58 ∷ value) ≡ Some (record { group = group; name = name; params = params; value = value })
with_complete group name params value is are =
    let rest = params ++ 58 ∷ value in
    let after : drop (length params + 1) rest ≡ value =
    sym (drop-drop 1 (length params) rest) ∙ ap (λ t. drop 1 t) (drop_front params (58 ∷ value)) in
    ap (λ t. cond t None (with_value group name rest (colon_from Start rest))) (is_not_empty name is.0)
    ∙ ap (λ o. with_value group name rest o) (complete Start params value are)
    ∙ λ i. Some (record { group = group; name = name; params = take_front params (58 ∷ value) i; value = after i })

pub fields_complete : (line : List ℕ) (f : Fields) → IsContentLine line f → fields_of line ≡ Some f
fields_complete line f is = here f.group is.group is.spelled
  where
    rest : List ℕ
    rest = f.params ++ 58 ∷ f.value

    here : (g : Option (List ℕ)) → IfSome g IsName → line ≡ group_text g ++ (f.name ++ (f.params ++ 58 ∷ f.value))
        → fields_of line ≡ Some (record { group = g; name = f.name; params = f.params; value = f.value })
    here None ok spelled =
        let after = mark f.params f.value is.params in
        let name = name_is f.name (f.params ++ 58 ∷ f.value) is.name.1 after.0 in
        let rest = rest_is f.name (f.params ++ 58 ∷ f.value) is.name.1 after.0 in
        ap fields_of spelled
        ∙ ap (λ t. cond t (grouped (name_at (f.name ++ (f.params ++ 58 ∷ f.value))) (drop 1 (after_name (f.name ++ (f.params ++ 58 ∷ f.value))))) (fields_with None (name_at (f.name ++ (f.params ++ 58 ∷ f.value))) (after_name (f.name ++ (f.params ++ 58 ∷ f.value)))))
        (ap (λ t. eqb (get_or t 0 0) 46) rest ∙ after.1)
        ∙ ap (λ n. fields_with None n (after_name (f.name ++ (f.params ++ 58 ∷ f.value)))) name ∙ ap (λ r. fields_with None f.name r) rest
        ∙ with_complete None f.name f.params f.value is.name is.params
    here (Some g) ok spelled =
        let after = mark f.params f.value is.params in
        let more = f.name ++ (f.params ++ 58 ∷ f.value) in
        let group = name_is g (46 ∷ more) ok.1 refl in
        let dot = rest_is g (46 ∷ more) ok.1 refl in
        let name = name_is f.name (f.params ++ 58 ∷ f.value) is.name.1 after.0 in
        let rest = rest_is f.name (f.params ++ 58 ∷ f.value) is.name.1 after.0 in
        ap fields_of (spelled ∙ append_assoc g (46 ∷ []) more)
        ∙ ap (λ r. cond (eqb (get_or r 0 0) 46) (grouped (name_at (g ++ (46 ∷ more))) (drop 1 r)) (fields_with None (name_at (g ++ (46 ∷ more))) r)) dot
        ∙ ap (λ n. grouped n more) group
        ∙ ap (λ t. cond t None (fields_with (Some g) (name_at more) (after_name more))) (is_not_empty g ok.0)
        ∙ ap (λ n. fields_with (Some g) n (after_name more)) name ∙ ap (λ r. fields_with (Some g) f.name r) rest
        ∙ with_complete (Some g) f.name f.params f.value is.name is.params
