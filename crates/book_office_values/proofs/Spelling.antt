-- Which texts spell which paths.
use Rattle.book_office_values.proofs.Common.{◌≡◌, ◌≢◌, ℕ, ◌+◌, ◌<◌, ◌≤◌, ◌⊎◌, inl, inr, false, List, [], ◌∷◌, ◌++◌, length, drop, refl, ap, sym, ◌∙◌, subst, arith, codes, Result, Ok, Err, IsName}
use Rattle.std.proofs.Common.{get_or, length-append, nat_eq, IfOk, IfErr, IsErrAnd}
use Rattle.std.proofs.lemmas.Bool.{eqb-false, false≢true}
use Rattle.std.proofs.lemmas.List.{append_assoc, length-drop}
use Rattle.book_lists.specs.Principals.{Spells, EndsPlain}
use Rattle.book_office_values.specs.declared.paths.Path.{Path}
use Rattle.book_office_values.specs.declared.paths.Path.TheVariants as path
use Rattle.book_office_values.specs.Paths.{IsPath, SpellsPath, SpellsNone, path_text, parent_of, levels, levels_of}
use Rattle.book_office_values.specs.declared.paths.PathFault.{PathFault}
use Rattle.book_office_values.specs.declared.paths.PathFault.TheVariants.{BadPath}
use Rattle.book_office_values.proofs.Slashes.{name_ends_plain, same_name, below, two_below, not_one_name, same_book, same_card}

abbrev pub IsBare : List ℕ → Type 0
IsBare rest = (rest ≡ []) ⊎ (rest ≡ codes "/")

-- this text after a home spells the home, or a member of it
abbrev pub InHome : Path → (List ℕ → Path) → List ℕ → Path → Type 0
InHome home member rest p = ((p ≡ home) × IsBare rest) ⊎ ((name : List ℕ) × (p ≡ member name) × IsName name × Spells rest (codes "/" ++ name))

-- this text after the books' home spells a card
abbrev pub IsCardBelow : List ℕ → Path → Type 0
IsCardBelow rest p = (book : List ℕ) × (card : List ℕ) × (p ≡ path.Card book card) × IsName book × IsName card × (rest ≡ codes "/" ++ book ++ codes "/" ++ card)

abbrev pub InBooks : List ℕ → Path → Type 0
InBooks rest p = InHome path.Books path.Book rest p ⊎ IsCardBelow rest p

abbrev pub Below : List ℕ → List ℕ → (List ℕ → Type 0) → Type 0
Below text home P = (rest : List ℕ) × (text ≡ home ++ rest) × P rest

-- a text that spells a path is a slash, or begins with a home
abbrev pub Sort : List ℕ → Path → Type 0
Sort text p = ((p ≡ path.Root) × (text ≡ codes "/"))
    ⊎ (Below text (codes "/people") (λ rest. InHome path.People path.Person rest p)
    ⊎ (Below text (codes "/groups") (λ rest. InHome path.Groups path.Group rest p)
    ⊎ Below text (codes "/books") (λ rest. InBooks rest p)))

sort_of : (text : List ℕ) (p : Path) → IsPath p → SpellsPath text p → Sort text p
sort_of text path.Root is (inl e) = inl (refl, e)
sort_of text path.Root is (inr short) = absurd (false≢true short.0)
sort_of text path.People is (inl e) = inr (inl ([], e, inl (refl, inl refl)))
sort_of text path.People is (inr short) = inr (inl (codes "/", short.1, inl (refl, inr refl)))
sort_of text path.Groups is (inl e) = inr (inr (inl ([], e, inl (refl, inl refl))))
sort_of text path.Groups is (inr short) = inr (inr (inl (codes "/", short.1, inl (refl, inr refl))))
sort_of text path.Books is (inl e) = inr (inr (inr ([], e, inl (inl (refl, inl refl)))))
sort_of text path.Books is (inr short) = inr (inr (inr (codes "/", short.1, inl (inl (refl, inr refl)))))
sort_of text (path.Person name) is (inl e) = inr (inl (codes "/" ++ name, e, inr (name, refl, is, inl refl)))
sort_of text (path.Person name) is (inr short) = inr (inl (codes "/" ++ name ++ codes "/", short.1, inr (name, refl, is, inr refl)))
sort_of text (path.Group name) is (inl e) = inr (inr (inl (codes "/" ++ name, e, inr (name, refl, is, inl refl))))
sort_of text (path.Group name) is (inr short) = inr (inr (inl (codes "/" ++ name ++ codes "/", short.1, inr (name, refl, is, inr refl))))
sort_of text (path.Book name) is (inl e) = inr (inr (inr (codes "/" ++ name, e, inl (inr (name, refl, is, inl refl)))))
sort_of text (path.Book name) is (inr short) = inr (inr (inr (codes "/" ++ name ++ codes "/", short.1, inl (inr (name, refl, is, inr refl)))))
sort_of text (path.Card book card) is (inl e) = inr (inr (inr (codes "/" ++ book ++ codes "/" ++ card, e, inr (book, card, refl, is.0, is.1, refl))))
sort_of text (path.Card book card) is (inr short) = absurd (false≢true short.0)

-- texts whose second bytes differ are not equal
apart : (text other : List ℕ) → text ≡ other → nat_eq (get_or text 1 0) (get_or other 1 0) ≡ false → ⊥
apart text other e differ = eqb-false (get_or text 1 0) (get_or other 1 0) differ (ap (λ t. get_or t 1 0) e)

in_people : (rest : List ℕ) (p : Path) → IsPath p → SpellsPath (codes "/people" ++ rest) p → InHome path.People path.Person rest p
in_people rest p is spells = at (sort_of (codes "/people" ++ rest) p is spells)
  where
    at : Sort (codes "/people" ++ rest) p → InHome path.People path.Person rest p
    at (inl root) = absurd (apart _ _ root.1 refl)
    at (inr (inl it)) = subst (λ r. InHome path.People path.Person r p) (ap (drop 7) (sym it.1)) it.2
    at (inr (inr (inl it))) = absurd (apart _ _ it.1 refl)
    at (inr (inr (inr it))) = absurd (apart _ _ it.1 refl)

in_groups : (rest : List ℕ) (p : Path) → IsPath p → SpellsPath (codes "/groups" ++ rest) p → InHome path.Groups path.Group rest p
in_groups rest p is spells = at (sort_of (codes "/groups" ++ rest) p is spells)
  where
    at : Sort (codes "/groups" ++ rest) p → InHome path.Groups path.Group rest p
    at (inl root) = absurd (apart _ _ root.1 refl)
    at (inr (inl it)) = absurd (apart _ _ it.1 refl)
    at (inr (inr (inl it))) = subst (λ r. InHome path.Groups path.Group r p) (ap (drop 7) (sym it.1)) it.2
    at (inr (inr (inr it))) = absurd (apart _ _ it.1 refl)

in_books : (rest : List ℕ) (p : Path) → IsPath p → SpellsPath (codes "/books" ++ rest) p → InBooks rest p
in_books rest p is spells = at (sort_of (codes "/books" ++ rest) p is spells)
  where
    at : Sort (codes "/books" ++ rest) p → InBooks rest p
    at (inl root) = absurd (apart _ _ root.1 refl)
    at (inr (inl it)) = absurd (apart _ _ it.1 refl)
    at (inr (inr (inl it))) = absurd (apart _ _ it.1 refl)
    at (inr (inr (inr it))) = subst (λ r. InBooks r p) (ap (drop 6) (sym it.1)) it.2

-- what is bare has no name in it
bare_length : (rest : List ℕ) → IsBare rest → length rest ≤ 1
bare_length rest (inl e) = omega (arith, ap length e)
bare_length rest (inr e) = omega (arith, ap length e)

name_length : (rest name : List ℕ) → Spells rest (codes "/" ++ name) → length name + 1 ≤ length rest
name_length rest name (inl e) = omega (arith, ap length e)
name_length rest name (inr e) = omega (arith, ap length e, length-append (codes "/" ++ name) (codes "/"))

no_name : (rest name : List ℕ) → IsBare rest → IsName name → Spells rest (codes "/" ++ name) → ⊥
no_name rest name bare is spells = omega (arith, is.some, bare_length rest bare, name_length rest name spells)

no_card : (rest book card : List ℕ) → IsBare rest → IsName book → rest ≡ codes "/" ++ book ++ codes "/" ++ card → ⊥
no_card rest book card bare is e =
    omega (arith, is.some, bare_length rest bare, ap length (two_below rest book card e), length-append book (47 ∷ card), length-drop 1 rest)

one_in_home : (home : Path) (member : List ℕ → Path) (rest : List ℕ) (p q : Path) → InHome home member rest p → InHome home member rest q → p ≡ q
one_in_home home member rest p q (inl a) (inl b) = a.0 ∙ sym b.0
one_in_home home member rest p q (inl a) (inr b) = absurd (no_name rest b.0 a.1 b.2 b.3)
one_in_home home member rest p q (inr a) (inl b) = absurd (no_name rest a.0 b.1 a.2 a.3)
one_in_home home member rest p q (inr a) (inr b) =
    a.1 ∙ ap member (same_name (drop 1 rest) a.0 b.0 a.2 b.2 (below rest a.0 a.3) (below rest b.0 b.3)) ∙ sym b.1

no_other : (home : Path) (member : List ℕ → Path) (rest : List ℕ) (p q : Path) → InHome home member rest p → IsCardBelow rest q → ⊥
no_other home member rest p q (inl a) b = no_card rest b.0 b.1 a.1 b.3 b.5
no_other home member rest p q (inr a) b = not_one_name (drop 1 rest) a.0 b.0 b.1 a.2 b.4.some (below rest a.0 a.3) (two_below rest b.0 b.1 b.5)

one_card : (rest : List ℕ) (p q : Path) → IsCardBelow rest p → IsCardBelow rest q → p ≡ q
one_card rest p q a b =
    let e = sym (two_below rest a.0 a.1 a.5) ∙ two_below rest b.0 b.1 b.5 in
    let book = same_book a.0 a.1 b.0 b.1 a.3 b.3 e in
    a.2 ∙ ap (λ x. path.Card x a.1) book ∙ ap (path.Card b.0) (same_card a.0 a.1 b.0 b.1 book e) ∙ sym b.2

one_in_books : (rest : List ℕ) (p q : Path) → InBooks rest p → InBooks rest q → p ≡ q
one_in_books rest p q (inl a) (inl b) = one_in_home path.Books path.Book rest p q a b
one_in_books rest p q (inl a) (inr b) = absurd (no_other path.Books path.Book rest p q a b)
one_in_books rest p q (inr a) (inl b) = absurd (no_other path.Books path.Book rest q p b a)
one_in_books rest p q (inr a) (inr b) = one_card rest p q a b

only_root : (p : Path) → IsPath p → SpellsPath (codes "/") p → p ≡ path.Root
only_root p is spells = at (sort_of (codes "/") p is spells)
  where
    at : Sort (codes "/") p → p ≡ path.Root
    at (inl root) = root.0
    at (inr (inl it)) = absurd (apart _ _ it.1 refl)
    at (inr (inr (inl it))) = absurd (apart _ _ it.1 refl)
    at (inr (inr (inr it))) = absurd (apart _ _ it.1 refl)

-- a text spells at most one path
pub one_path : (text : List ℕ) (p q : Path) → IsPath p → IsPath q → SpellsPath text p → SpellsPath text q → p ≡ q
one_path text p q is_p is_q spells_p spells_q = at (sort_of text p is_p spells_p)
  where
    told : (other : List ℕ) → text ≡ other → SpellsPath other q
    told other e = subst (λ t. SpellsPath t q) e spells_q

    at : Sort text p → p ≡ q
    at (inl root) = root.0 ∙ sym (only_root q is_q (told (codes "/") root.1))
    at (inr (inl it)) = one_in_home path.People path.Person it.0 p q it.2 (in_people it.0 q is_q (told (codes "/people" ++ it.0) it.1))
    at (inr (inr (inl it))) = one_in_home path.Groups path.Group it.0 p q it.2 (in_groups it.0 q is_q (told (codes "/groups" ++ it.0) it.1))
    at (inr (inr (inr it))) = one_in_books it.0 p q it.2 (in_books it.0 q is_q (told (codes "/books" ++ it.0) it.1))

-- different paths have different texts
pub one_text : (p q : Path) → IsPath p → IsPath q → path_text p ≡ path_text q → p ≡ q
one_text p q is_p is_q e = one_path (path_text p) p q is_p is_q (inl refl) (inl e)

pub go_up : (p : Path) → levels p ≡ p ∷ levels_of (parent_of p)
go_up path.Root = refl
go_up path.People = refl
go_up path.Groups = refl
go_up path.Books = refl
go_up (path.Person name) = refl
go_up (path.Group name) = refl
go_up (path.Book name) = refl
go_up (path.Card book name) = refl

-- texts that spell no path
no_member : (home : Path) (member : List ℕ → Path) (rest : List ℕ) (p : Path)
    → (IsBare rest → ⊥) → ((name : List ℕ) → IsName name → Spells rest (codes "/" ++ name) → ⊥) → InHome home member rest p → ⊥
no_member home member rest p bare bad (inl it) = bare it.1
no_member home member rest p bare bad (inr it) = bad it.0 it.2 it.3

-- what is neither a home, nor a member of it, nor a card
pub none_in_books : (rest : List ℕ) → (IsBare rest → ⊥) → ((name : List ℕ) → IsName name → Spells rest (codes "/" ++ name) → ⊥)
    → ((book card : List ℕ) → IsName book → IsName card → rest ≡ codes "/" ++ book ++ codes "/" ++ card → ⊥) → SpellsNone (codes "/books" ++ rest)
none_in_books rest bare bad no_cards p is spells = at (in_books rest p is spells)
  where
    at : InBooks rest p → ⊥
    at (inl it) = no_member path.Books path.Book rest p bare bad it
    at (inr it) = no_cards it.0 it.1 it.3 it.4 it.5

-- a text with two parts that are not two names
pub none_at_card : (rest book card : List ℕ) → rest ≢ [] → rest ≢ codes "/" → (rest ≡ codes "/" ++ book ++ codes "/" ++ card) × (0 < length card)
    → ((b c : List ℕ) → IsName b → IsName c → rest ≡ codes "/" ++ b ++ codes "/" ++ c → ⊥) → SpellsNone (codes "/books" ++ rest)
none_at_card rest book card filled longer parts bad =
    none_in_books rest bare (λ name is spells. not_one_name (drop 1 rest) name book card is parts.1 (below rest name spells) (two_below rest book card parts.0)) bad
  where
    bare : IsBare rest → ⊥
    bare (inl e) = filled e
    bare (inr e) = longer e

pub passed_on : (r : Result Path PathFault) (fault : PathFault) (none : List ℕ) → IsErrAnd r (λ e. e ≡ fault) → (fault ≡ BadPath → SpellsNone none)
    → IfErr r (λ e. e ≡ BadPath → SpellsNone none)
passed_on (Ok p) fault none same bad = tt
passed_on (Err e) fault none same bad = λ f. bad (sym same ∙ f)

-- the name after a slash
pub member_found : (text rest plain : List ℕ) (r : Result (List ℕ) PathFault) → text ≡ codes "/" ++ rest → Spells rest plain → IfOk r (λ name. IsName name × (name ≡ plain))
    → IfOk r (λ name. IsName name × Spells text (codes "/" ++ name))
member_found text rest plain (Err fault) e spells found = tt
member_found text rest plain (Ok name) e spells found = (found.0, at (subst (Spells rest) (sym found.1) spells))
  where
    at : Spells rest name → Spells text (codes "/" ++ name)
    at (inl f) = inl (e ∙ ap (λ t. codes "/" ++ t) f)
    at (inr f) = inr (e ∙ ap (λ t. codes "/" ++ t) f)

pub member_bad : (text rest plain : List ℕ) (r : Result (List ℕ) PathFault) → text ≡ codes "/" ++ rest → ((name : List ℕ) → EndsPlain name → Spells rest name → name ≡ plain)
    → IfErr r (λ fault. fault ≡ BadPath → IsName plain → ⊥)
    → IfErr r (λ fault. fault ≡ BadPath → (name : List ℕ) → IsName name → Spells text (codes "/" ++ name) → ⊥)
member_bad text rest plain (Ok name) e only bad = tt
member_bad text rest plain (Err fault) e only bad = λ f name is spells.
    let here = subst (λ t. Spells t name) (ap (drop 1) e) (below text name spells) in
    bad f (subst IsName (only name (name_ends_plain name is) here) is)

pub no_member_there : (text : List ℕ) → ((rest : List ℕ) → text ≢ codes "/" ++ rest) → (name : List ℕ) → Spells text (codes "/" ++ name) → ⊥
no_member_there text none name (inl e) = none name e
no_member_there text none name (inr e) = none (name ++ codes "/") e

-- the text of a card is written from its parts
pub card_written : {A E : Type 0} (bytes : A → List ℕ) (r : Result A E) (book name : List ℕ) (p : Path) → p ≡ path.Card book name
    → IfOk r (λ text. bytes text ≡ codes "/books/" ++ (book ++ (codes "/" ++ name))) → IfOk r (λ text. bytes text ≡ path_text p)
card_written bytes (Err error) book name p is written = tt
card_written bytes (Ok text) book name p is written =
    written ∙ sym (append_assoc (codes "/books/") book (codes "/" ++ name)) ∙ sym (append_assoc (codes "/books/" ++ book) (codes "/") name) ∙ ap path_text (sym is)
