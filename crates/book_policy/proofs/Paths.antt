-- The paths of a text: each text that is there spells a path of a known kind, and each text that spells the path of a place is there.
use Rattle.std.proofs.Common.{◌≡◌, ◌≢◌, ◌⊎◌, ℕ, ◌+◌, ◌<◌, List, [], ◌∷◌, ◌++◌, Bool, true, if◌then◌else◌, is_some, map, codes, Option, None, Some, option_map, ◌==◌, inl, inr, refl, sym, ap, ◌∙◌, subst, arith}
use Rattle.std.specs.List.{AllByRecursion}
use Rattle.std.specs.FinMap.{empty, get, insert, get-empty}
use Rattle.std.proofs.lemmas.Bool.{eq-eqb, eqb-true, false≢true}
use Rattle.book_lists.specs.Names.{IsName, name_cmp}
use Rattle.book_lists.proofs.Decided.{OrNot, both_or_not, either_or_not, text_or_not}
use Rattle.book_office_values.specs.Names.{NamesTo}
use Rattle.book_office_values.specs.Paths.{IsPath, IsShort, SpellsPath, path_text}
use Rattle.book_office_values.specs.declared.paths.Path.{Path}
use Rattle.book_office_values.specs.declared.paths.Path.TheVariants as path
use Rattle.book_office_values.proofs.OneName.{by_option, by_put, put_elsewhere, put_here, some_apart, where_some}
use Rattle.book_office_values.proofs.Spelling.{one_path}
use Rattle.book_policy_faults.specs.declared.places.TableKind.{TableKind}
use Rattle.book_policy_faults.specs.declared.places.TableKind.TheVariants.{Top, Person, Group, Book, Entry}
use Rattle.book_policy_values.specs.Policies.{IsPlaceOf, added}
use Rattle.book_policy_values.specs.Reading.{CanAdd}
use Rattle.book_policy_values.specs.declared.parts.PolicyBook.{PolicyBook}
use Rattle.book_policy_faults.specs.Known.{Paths, homes, prefix_of, with_both, with_name, with_path}
use Rattle.book_policy_faults.specs.Problems.{first_named}
use Rattle.book_policy_faults.specs.declared.known.Known.{Known}
use Rattle.book_policy.proofs.Free.{Rows}
use Rattle.book_policy.proofs.Read.{one_some, with_parts}
use Rattle.book_policy_faults.proofs.Tests.{is_named}

-- ---- one text more
module _ (m : Paths) (kind : TableKind) (n : ℕ) (s path : List ℕ) where
  by_path : (P : Paths → Type 0) → ((k : Known) → get m s ≡ Some k → P m) → (get m s ≡ None → P (insert m s (record { kind = kind; number = n; path = path })))
      → P (with_path m kind n s path)
  by_path P old new =
      elim (get m s) as (λ o. get m s ≡ o → P (if is_some o then m else insert m s (record { kind = kind; number = n; path = path }))) [
        | None ↦ λ e. new e
        | Some k ↦ λ e. old k e
      ] refl

  path_kept : (t : List ℕ) (k : Known) → get m t ≡ Some k → get (with_path m kind n s path) t ≡ Some k
  path_kept t k e =
      by_path (λ x. get x t ≡ Some k) (λ _ _. e)
      (λ none. put_elsewhere m s (record { kind = kind; number = n; path = path }) t (λ same. some_apart (sym e ∙ ap (get m) same ∙ none)) ∙ e)

  path_there : get (with_path m kind n s path) s ≢ None
  path_there =
      by_path (λ x. get x s ≢ None) (λ k e gone. some_apart (sym e ∙ gone))
      (λ _ gone. some_apart (sym (put_here m s (record { kind = kind; number = n; path = path })) ∙ gone))

  path_fresh : get m s ≡ None → get (with_path m kind n s path) s ≡ Some (record { kind = kind; number = n; path = path })
  path_fresh none =
      by_path (λ x. get x s ≡ Some (record { kind = kind; number = n; path = path })) (λ k e. some_apart (sym e ∙ none))
      (λ _. put_here m s (record { kind = kind; number = n; path = path }))

  path_else : (t : List ℕ) → t ≢ s → get (with_path m kind n s path) t ≡ get m t
  path_else t apart =
      by_path (λ x. get x t ≡ get m t) (λ _ _. refl) (λ _. put_elsewhere m s (record { kind = kind; number = n; path = path }) t apart)

-- ---- what is known of each text
abbrev pub kind_at : Path → TableKind
kind_at path.Root = Top
kind_at path.People = Top
kind_at path.Groups = Top
kind_at path.Books = Top
kind_at (path.Person name) = Person
kind_at (path.Group name) = Group
kind_at (path.Book name) = Book
kind_at (path.Card book name) = Entry

abbrev pub IsOf : List ℕ → Known → Path → Type 0
IsOf t k p = IsPath p × SpellsPath t p × (k.kind ≡ kind_at p) × (k.path ≡ path_text p)

abbrev pub Sound : Paths → Type 0
Sound m = (t : List ℕ) (k : Known) → get m t ≡ Some k → (p : Path) × IsOf t k p

abbrev pub Knows : Paths → (Path → Type 0) → Type 0
Knows m T = (p : Path) (t : List ℕ) → IsPath p → SpellsPath t p → (get m t ≢ None → T p) × (T p → get m t ≢ None)

pub knows_like : (m : Paths) (T U : Path → Type 0) → ((p : Path) → (T p → U p) × (U p → T p)) → Knows m T → Knows m U
knows_like m T U same knows p t is spells = (λ there. (same p).0 ((knows p t is spells).0 there), λ u. (knows p t is spells).1 ((same p).1 u))

sound_path : (m : Paths) (kind : TableKind) (n : ℕ) (s : List ℕ) (p : Path) → Sound m → IsPath p → SpellsPath s p → kind ≡ kind_at p
    → Sound (with_path m kind n s (path_text p))
sound_path m kind n s p sound is spells same =
    let known : Known = record { kind = kind; number = n; path = path_text p } in
    by_path m kind n s (path_text p) Sound (λ _ _. sound) (λ _ t k e.
    by_put m s known t (λ r. r ≡ Some k → (q : Path) × IsOf t k q)
    (λ here it. (p, (is, subst (λ x. SpellsPath x p) (sym here) spells, ap (λ (x : Known). x.kind) (sym (one_some it)) ∙ same, ap (λ (x : Known). x.path) (sym (one_some it)))))
    (λ _ it. sound t k it) e)

module _ (m : Paths) (kind : TableKind) (n : ℕ) (q : Path) (short : IsShort q) where
  abbrev first : Paths
  first = with_path m kind n (path_text q) (path_text q)

  abbrev after : Paths
  after = with_both m kind n (path_text q)

  both_kept : (t : List ℕ) (k : Known) → get m t ≡ Some k → get after t ≡ Some k
  both_kept t k e = path_kept first kind n (path_text q ++ codes "/") (path_text q) t k (path_kept m kind n (path_text q) (path_text q) t k e)

  both_there : (t : List ℕ) → SpellsPath t q → get after t ≢ None
  both_there t (inl e) gone =
      where_some (get first (path_text q)) (path_there m kind n (path_text q) (path_text q)) (λ k is.
      some_apart (sym (path_kept first kind n (path_text q ++ codes "/") (path_text q) (path_text q) k is) ∙ ap (get after) (sym e) ∙ gone))
  both_there t (inr it) gone = path_there first kind n (path_text q ++ codes "/") (path_text q) (ap (get after) (sym it.1) ∙ gone)

  both_fresh : get m (path_text q) ≡ None → get after (path_text q) ≡ Some (record { kind = kind; number = n; path = path_text q })
  both_fresh none =
      path_kept first kind n (path_text q ++ codes "/") (path_text q) (path_text q) (record { kind = kind; number = n; path = path_text q })
      (path_fresh m kind n (path_text q) (path_text q) none)

  both_else : (t : List ℕ) → (SpellsPath t q → ⊥) → get after t ≡ get m t
  both_else t never =
      path_else first kind n (path_text q ++ codes "/") (path_text q) t (λ e. never (inr (short, e)))
      ∙ path_else m kind n (path_text q) (path_text q) t (λ e. never (inl e))

  sound_both : Sound m → IsPath q → kind ≡ kind_at q → Sound after
  sound_both sound is same =
      sound_path first kind n (path_text q ++ codes "/") q (sound_path m kind n (path_text q) q sound is (inl refl) same) is (inr (short, refl)) same

  spells_or_not : (t : List ℕ) → OrNot (SpellsPath t q)
  spells_or_not t = either_or_not (text_or_not t (path_text q)) (both_or_not (inl short) (text_or_not t (path_text q ++ codes "/")))

  knows_both : (T U : Path → Type 0) → Knows m T → IsPath q → U q → ((p : Path) → p ≢ q → (T p → U p) × (U p → T p)) → Knows after U
  knows_both T U knows is here others p t is_p spells = elim (spells_or_not t) [
    | inl s ↦ (λ _. subst U (sym (one_path t p q is_p is spells s)) here, λ _. both_there t s)
    | inr never ↦
        let apart : p ≢ q = λ e. never (subst (SpellsPath t) e spells) in (
          λ there. (others p apart).0 ((knows p t is_p spells).0 (λ gone. there (both_else t never ∙ gone))),
          λ u gone. (knows p t is_p spells).1 ((others p apart).1 u) (sym (both_else t never) ∙ gone),
        )
  ]

-- ---- the root and the homes
abbrev root : Paths
root = with_path empty Top 0 (codes "/") (codes "/")

knows_root : Knows root (λ p. p ≡ path.Root)
knows_root p t is spells = (
  λ there. elim (text_or_not t (codes "/")) [
    | inl e ↦ one_path t p path.Root is tt spells (inl e)
    | inr apart ↦ absurd (there (path_else empty Top 0 (codes "/") (codes "/") t apart ∙ get-empty name_cmp t))
  ],
  λ here gone. at (subst (SpellsPath t) here spells) gone,
)
  where
    at : SpellsPath t path.Root → get root t ≡ None → ⊥
    at (inl e) gone = path_there empty Top 0 (codes "/") (codes "/") (ap (get root) (sym e) ∙ gone)
    at (inr it) gone = false≢true it.0

sound_root : Sound root
sound_root = sound_path empty Top 0 (codes "/") path.Root (λ t k e. some_apart (sym e ∙ get-empty name_cmp t)) tt (inl refl) refl

one_more : (m : Paths) (q : Path) → IsShort q → (T : Path → Type 0) → Knows m T → IsPath q → Knows (with_both m Top 0 (path_text q)) (λ p. (p ≡ q) ⊎ T p)
one_more m q short T knows is =
    knows_both m Top 0 q short T (λ p. (p ≡ q) ⊎ T p) knows is (inl refl) (λ p apart. (λ it. inr it, λ it. elim it [ inl e ↦ absurd (apart e) | inr it ↦ it ]))

abbrev people : Paths
people = with_both root Top 0 (codes "/people")

abbrev groups_home : Paths
groups_home = with_both people Top 0 (codes "/groups")

abbrev AtHome : Path → Type 0
AtHome p = (p ≡ path.Books) ⊎ ((p ≡ path.Groups) ⊎ ((p ≡ path.People) ⊎ (p ≡ path.Root)))

knows_homes : Knows homes AtHome
knows_homes =
    one_more groups_home path.Books refl (λ p. (p ≡ path.Groups) ⊎ ((p ≡ path.People) ⊎ (p ≡ path.Root)))
    (one_more people path.Groups refl (λ p. (p ≡ path.People) ⊎ (p ≡ path.Root)) (one_more root path.People refl (λ p. p ≡ path.Root) knows_root tt) tt) tt

pub sound_homes : Sound homes
sound_homes =
    sound_both groups_home Top 0 path.Books refl
    (sound_both people Top 0 path.Groups refl (sound_both root Top 0 path.People refl sound_root tt refl) tt refl) tt refl

abbrev pub no_labels : NamesTo (List ℕ)
no_labels = empty

abbrev pub no_books : NamesTo PolicyBook
no_books = empty

pub knows_places : Knows homes (IsPlaceOf no_labels no_labels no_books)
knows_places = knows_like homes AtHome (IsPlaceOf no_labels no_labels no_books) (λ p. (to p, from p)) knows_homes
  where
    to : (p : Path) → AtHome p → IsPlaceOf no_labels no_labels no_books p
    to p (inl e) = subst (IsPlaceOf no_labels no_labels no_books) (sym e) tt
    to p (inr (inl e)) = subst (IsPlaceOf no_labels no_labels no_books) (sym e) tt
    to p (inr (inr (inl e))) = subst (IsPlaceOf no_labels no_labels no_books) (sym e) tt
    to p (inr (inr (inr e))) = subst (IsPlaceOf no_labels no_labels no_books) (sym e) tt

    from : (p : Path) → IsPlaceOf no_labels no_labels no_books p → AtHome p
    from path.Root h = inr (inr (inr refl))
    from path.People h = inr (inr (inl refl))
    from path.Groups h = inr (inl refl)
    from path.Books h = inl refl
    from (path.Person name) h = absurd (h (get-empty name_cmp name))
    from (path.Group name) h = absurd (h (get-empty name_cmp name))
    from (path.Book name) h = absurd (h (get-empty name_cmp name))
    from (path.Card book name) h = absurd h

-- ---- the parts of a kind
pub record KindFacts {V : Type 0} (kind : TableKind) (at : List ℕ → Path) (T : NamesTo V → Path → Type 0) : Type 0 where
  pub is : (x : List ℕ) → IsName x → IsPath (at x)
  pub short : (x : List ℕ) → IsShort (at x)
  pub text : (x : List ℕ) → prefix_of kind ++ x ≡ path_text (at x)
  pub same : (x : List ℕ) → kind ≡ kind_at (at x)
  pub one : (x y : List ℕ) → at x ≡ at y → x ≡ y
  pub here : (l : NamesTo V) (x : List ℕ) → get l x ≢ None → T l (at x)
  pub back : (l : NamesTo V) (x : List ℕ) → T l (at x) → get l x ≢ None
  pub step : (l : NamesTo V) (x : List ℕ) (v : V) (p : Path) → p ≢ at x → (T l p → T (insert l x v) p) × (T (insert l x v) p → T l p)

abbrev pub Keeps : Paths → Paths → Type 0
Keeps m n = (t : List ℕ) (k : Known) → get m t ≡ Some k → get n t ≡ Some k

abbrev pub twice_ok : ℕ → Option ℕ → Bool
twice_ok n None = true
twice_ok n (Some first) = first == n

module _ {A V : Type 0} (entry : A → List ℕ × V) (kind : TableKind) (at : List ℕ → Path) (T : NamesTo V → Path → Type 0) (f : KindFacts kind at T) where
  abbrev name : A → List ℕ
  name x = (entry x).0

  abbrev Named : List A → Type 0
  Named xs = AllByRecursion (λ (x : A). IsName (entry x).0) xs

  module _ (m : Paths) (n : ℕ) (x : List ℕ) (is : IsName x) where
    with_is : with_name m kind n (Some x) ≡ with_both m kind n (path_text (at x))
    with_is = ap (λ b. if b then with_both m kind n (prefix_of kind ++ x) else m) (is_named x is) ∙ ap (with_both m kind n) (f.text x)

    name_kept : Keeps m (with_name m kind n (Some x))
    name_kept t k e = ap (λ (y : Paths). get y t) with_is ∙ both_kept m kind n (at x) (f.short x) t k e

    name_fresh : get m (path_text (at x)) ≡ None → get (with_name m kind n (Some x)) (path_text (at x)) ≡ Some (record { kind = kind; number = n; path = path_text (at x) })
    name_fresh none = ap (λ (y : Paths). get y (path_text (at x))) with_is ∙ both_fresh m kind n (at x) (f.short x) none

    name_else : (t : List ℕ) → (SpellsPath t (at x) → ⊥) → get (with_name m kind n (Some x)) t ≡ get m t
    name_else t never = ap (λ (y : Paths). get y t) with_is ∙ both_else m kind n (at x) (f.short x) t never

    knows_name : (l : NamesTo V) (v : V) → Knows m (T l) → Knows (with_name m kind n (Some x)) (T (insert l x v))
    knows_name l v knows =
        subst (λ (y : Paths). Knows y (T (insert l x v))) (sym with_is)
        (knows_both m kind n (at x) (f.short x) (T l) (T (insert l x v)) knows (f.is x is)
        (f.here (insert l x v) x (λ gone. some_apart (sym (put_here l x v) ∙ gone))) (f.step l x v))

    sound_name : Sound m → Sound (with_name m kind n (Some x))
    sound_name sound = subst Sound (sym with_is) (sound_both m kind n (at x) (f.short x) sound (f.is x is) (f.same x))

  pub knows_all : (m : Paths) (n : ℕ) (l : NamesTo V) (xs : List A) → Named xs → Knows m (T l) → Knows (with_parts name m kind n xs) (T (added l (map entry xs)))
  knows_all m n l [] named knows = knows
  knows_all m n l (x ∷ xs) named knows =
      knows_all (with_name m kind n (Some (name x))) (n + 1) (insert l (entry x).0 (entry x).1) xs named.1 (knows_name m n (name x) named.0 l (entry x).1 knows)

  pub sound_all : (m : Paths) (n : ℕ) (xs : List A) → Named xs → Sound m → Sound (with_parts name m kind n xs)
  sound_all m n [] named sound = sound
  sound_all m n (x ∷ xs) named sound = sound_all (with_name m kind n (Some (name x))) (n + 1) xs named.1 (sound_name m n (name x) named.0 sound)

  pub kept_all : (m : Paths) (n : ℕ) (xs : List A) → Named xs → Keeps m (with_parts name m kind n xs)
  kept_all m n [] named t k e = e
  kept_all m n (x ∷ xs) named t k e =
      kept_all (with_name m kind n (Some (name x))) (n + 1) xs named.1 t k (name_kept m n (name x) named.0 t k e)

  -- ---- names once
  abbrev pub Twice : Paths → ℕ → A → Type 0
  Twice whole n x = twice_ok n (first_named whole kind (name x)) ≡ true

  module _ (whole : Paths) where
    first_is : (x : List ℕ) (k : Known) → get whole (path_text (at x)) ≡ Some k → first_named whole kind x ≡ Some k.number
    first_is x k e = ap (λ t. option_map (λ (y : Known). y.number) (get whole t)) (f.text x) ∙ ap (option_map (λ (y : Known). y.number)) e

    not_there : (m : Paths) (l : NamesTo V) (x : List ℕ) → IsName x → Knows m (T l) → get l x ≡ None → get m (path_text (at x)) ≡ None
    not_there m l x is knows none =
        by_option (get m (path_text (at x))) (λ e. e) (λ k e.
        absurd (f.back l x ((knows (at x) (path_text (at x)) (f.is x is) (inl refl)).0 (λ gone. some_apart (sym e ∙ gone))) none))

    pub once_rows : (m : Paths) (n : ℕ) (l : NamesTo V) (xs : List A) → Named xs → Knows m (T l) → Keeps (with_parts name m kind n xs) whole
        → CanAdd (λ _. Unit {0}) entry l xs → Rows (Twice whole) n xs
    once_rows m n l [] named knows keeps can = tt
    once_rows m n l (x ∷ xs) named knows keeps can =
        let more = with_name m kind n (Some (name x)) in
        let fresh = name_fresh m n (name x) named.0 (not_there m l (name x) named.0 knows can.2) in
        let known : Known = record { kind = kind; number = n; path = path_text (at (name x)) } in
        let there = keeps (path_text (at (name x))) known (kept_all more (n + 1) xs named.1 (path_text (at (name x))) known fresh) in (
          ap (twice_ok n) (first_is (name x) known there) ∙ eq-eqb n n refl,
          once_rows more (n + 1) (insert l (entry x).0 (entry x).1) xs named.1 (knows_name m n (name x) named.0 l (entry x).1 knows) keeps can.3,
        )

    abbrev Early : Paths → ℕ → Type 0
    Early m n = (y : List ℕ) (k : Known) → IsName y → get m (path_text (at y)) ≡ Some k → k.number < n

    early_name : (m : Paths) (n : ℕ) (x : List ℕ) → IsName x → Early m n → Early (with_name m kind n (Some x)) (n + 1)
    early_name m n x is early y k is_y e =
        by_option (get m (path_text (at y)))
        (λ none. elim (text_or_not y x) [
          | inl same ↦
              let at_x : get (with_name m kind n (Some x)) (path_text (at x)) ≡ Some k = ap (λ z. get (with_name m kind n (Some x)) (path_text (at z))) (sym same) ∙ e in
              let fresh = name_fresh m n x is (ap (λ z. get m (path_text (at z))) (sym same) ∙ none) in
              let number : n ≡ k.number = ap (λ (z : Known). z.number) (one_some (sym fresh ∙ at_x)) in
              omega (arith, number)
          | inr apart ↦
              absurd (some_apart (sym e ∙ name_else m n x is (path_text (at y))
              (λ spells. apart (f.one y x (one_path (path_text (at y)) (at y) (at x) (f.is y is_y) (f.is x is) (inl refl) spells))) ∙ none))
        ])
        (λ old there.
        let before = early y old is_y there in
        let number : old.number ≡ k.number = ap (λ (z : Known). z.number) (one_some (sym (name_kept m n x is (path_text (at y)) old there) ∙ e)) in
        omega (arith, before, number))

    rows_can : (m : Paths) (n : ℕ) (l : NamesTo V) (xs : List A) → Named xs → Knows m (T l) → Early m n → Keeps (with_parts name m kind n xs) whole
        → Rows (Twice whole) n xs → CanAdd (λ _. Unit {0}) entry l xs
    rows_can m n l [] named knows early keeps rows = tt
    rows_can m n l (x ∷ xs) named knows early keeps rows =
        let more = with_name m kind n (Some (name x)) in
        let absent : get l (entry x).0 ≡ None = by_option (get l (name x)) (λ e. e) (λ v e.
        let there = (knows (at (name x)) (path_text (at (name x))) (f.is (name x) named.0) (inl refl)).1 (f.here l (name x) (λ gone. some_apart (sym e ∙ gone))) in
        where_some (get m (path_text (at (name x)))) there (λ k is.
        let before = early (name x) k named.0 is in
        let late = keeps (path_text (at (name x))) k (kept_all m n (x ∷ xs) named (path_text (at (name x))) k is) in
        let same : k.number ≡ n = eqb-true k.number n (sym (ap (twice_ok n) (first_is (name x) k late)) ∙ rows.0) in
        absurd (omega (arith, before, same)))) in (
          tt,
          named.0,
          absent,
          rows_can more (n + 1) (insert l (entry x).0 (entry x).1) xs named.1 (knows_name m n (name x) named.0 l (entry x).1 knows)
              (early_name m n (name x) named.0 early) keeps rows.1,
        )

    pub rows_once : (m : Paths) (n : ℕ) (xs : List A) → Named xs → Knows m (T empty) → Keeps (with_parts name m kind n xs) whole
        → Rows (Twice whole) n xs → CanAdd (λ _. Unit {0}) entry empty xs
    rows_once m n xs named knows keeps rows =
        rows_can m n empty xs named knows (λ y k is e.
        absurd (f.back empty y ((knows (at y) (path_text (at y)) (f.is y is) (inl refl)).0 (λ gone. some_apart (sym e ∙ gone))) (get-empty name_cmp y)))
        keeps rows
