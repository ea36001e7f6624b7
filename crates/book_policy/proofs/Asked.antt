-- What it asks of parts that their faults are free of the fault of a number.
use Rattle.std.proofs.Common.{◌≡◌, ◌↔◌, ℕ, List, [], ◌∷◌, ◌++◌, Bool, true, false, if◌then◌else◌, not, ◌||◌, ◌==◌, nat_le, is_some, length, Option, None, Some, refl, subst}
use Rattle.std.specs.List.{AllByRecursion, list_any}
use Rattle.std.proofs.lemmas.Bool.{false≢true}
use Rattle.book_limits.specs.declared.TheConstants.{MAX_MEMBERS, MAX_NAMED}
use Rattle.book_policy_faults.specs.Values.{is_word}
use Rattle.book_policy.specs.declared.parts.EntryText.{EntryText}
use Rattle.book_policy.specs.declared.parts.Parts.{Parts}
use Rattle.book_policy_faults.specs.declared.places.TableKind.{TableKind}
use Rattle.book_policy_faults.specs.declared.places.TableKind.TheVariants.{Top, Person, Group, Book, Entry}
use Rattle.book_policy_values.specs.declared.parts.BookPart.{BookPart}
use Rattle.book_policy_values.specs.declared.parts.GroupPart.{GroupPart}
use Rattle.book_policy_values.specs.declared.parts.PersonPart.{PersonPart}
use Rattle.book_policy_faults.specs.Known.{Paths, is_name, is_some_principal, known_at}
use Rattle.book_policy_faults.specs.Placing.{next, placed}
use Rattle.book_policy_faults.specs.Problems.{at_with, first_named, is_privilege_name, item_with, name_with, principal_problem, twice_problem, unless, who_with}
use Rattle.book_policy_faults.specs.Tables.{list_problem, spot_at}
use Rattle.book_policy_faults.specs.declared.places.Key.TheVariants as key
use Rattle.book_policy_faults.specs.declared.places.Problem.TheVariants.{BadName, LongList, NameTwice, OtherVersion, TooMany, UnknownPrincipal, UnknownPrivilege, UnknownResource}
use Rattle.book_policy_faults.specs.declared.places.Spot.{Spot}
use Rattle.book_policy_faults.specs.declared.problems.ItemRule.{ItemRule}
use Rattle.book_policy_faults.specs.declared.problems.ItemRule.TheVariants.{Principals, Privileges}
use Rattle.book_policy_faults.specs.declared.tables.Named.{Named}
use Rattle.book_policy.proofs.Free.{Asks, Free, Off, Rows, asked, asks, asks_off, free_both, free_parts, free_placed, means_both, means_none, means_rows, means_unless, off_asks, placed_free, rows}
use Rattle.book_policy.proofs.Paths.{twice_ok}
use Rattle.book_policy.proofs.Read.{action_row, owner_part, texts_faults}
use Rattle.book_policy.proofs.Rows.{book_row, distinct_texts, entry_row, group_row, members_row, name_row, person_row}
use Rattle.book_policy.proofs.Tabled.{count_row, counts_rows, parts_named, tables_rows, whole_faults}

module _ (g : ℕ) where
  module _ (m : Paths) where
    -- ---- names
    abbrev pub AskName : TableKind → ℕ → List ℕ → Type 0
    AskName kind n t = (Asks 4 g (is_name t ≡ true) × Asks 5 g (is_name t ≡ true → twice_ok n (first_named m kind t) ≡ true)) × Unit {0}

    twice_to : (n : ℕ) (o : Option ℕ) → Off g (twice_problem n o) → 5 ≡ g → twice_ok n o ≡ true
    twice_to n None off e = refl
    twice_to n (Some k) off e = asks 5 g (off_asks g (k == n) (NameTwice k) off) e

    twice_from : (n : ℕ) (o : Option ℕ) → (5 ≡ g → twice_ok n o ≡ true) → Off g (twice_problem n o)
    twice_from n None f = tt
    twice_from n (Some k) f = asks_off g (k == n) (NameTwice k) (asked 5 g f)

    name_to : (n : ℕ) (o : Option ℕ) (b : Bool) → Off g (if b then twice_problem n o else Some BadName)
        → Asks 4 g (b ≡ true) × Asks 5 g (b ≡ true → twice_ok n o ≡ true)
    name_to n o true off = (asked 4 g (λ _. refl), asked 5 g (λ e _. twice_to n o off e))
    name_to n o false off = (asked 4 g (λ e. absurd (off e)), asked 5 g (λ _ e. absurd (false≢true e)))

    name_from : (n : ℕ) (o : Option ℕ) (b : Bool) → Asks 4 g (b ≡ true) × Asks 5 g (b ≡ true → twice_ok n o ≡ true)
        → Off g (if b then twice_problem n o else Some BadName)
    name_from n o true a = twice_from n o (λ e. asks 5 g a.1 e refl)
    name_from n o false a = λ e. false≢true (asks 4 g a.0 e)

    means_name : (kind : TableKind) (n : ℕ) (t : List ℕ) → Free g (name_row m kind n t) ↔ AskName kind n t
    means_name kind n t =
        means_both g (placed (spot_at kind n key.Name) (name_with m kind n (Some t))) [] (
          (λ h. name_to n (first_named m kind t) (is_name t) (placed_free g (spot_at kind n key.Name) (name_with m kind n (Some t)) h)),
          (λ a. free_placed g (spot_at kind n key.Name) (name_with m kind n (Some t)) (name_from n (first_named m kind t) (is_name t) a)),
        ) (means_none g)

    -- ---- items
    abbrev pub AskItem : ItemRule → List ℕ → Type 0
    AskItem Principals t = Asks 6 g (is_some_principal (known_at m t) ≡ true)
    AskItem Privileges t = Asks 8 g (is_privilege_name t ≡ true)

    means_item : (rule : ItemRule) (spot : Spot) (t : List ℕ) → Free g (placed spot (item_with m rule (Some t))) ↔ AskItem rule t
    means_item Principals spot t = means_unless g spot (is_some_principal (known_at m t)) UnknownPrincipal
    means_item Privileges spot t = means_unless g spot (is_privilege_name t) UnknownPrivilege

    means_texts : (rule : ItemRule) (spot : Spot) (i : ℕ) (ts : List (List ℕ)) → Free g (texts_faults m rule spot i ts) ↔ AllByRecursion (AskItem rule) ts
    means_texts rule spot i [] = means_none g
    means_texts rule spot i (t ∷ ts) =
        let here : Spot = record { kind = spot.kind; number = spot.number; key = spot.key; item = i } in
        means_both g (placed here (item_with m rule (Some t))) (texts_faults m rule spot (next i) ts) (means_item rule here t) (means_texts rule spot (next i) ts)

    abbrev pub AskMembers : List (List ℕ) → Type 0
    AskMembers ts = AllByRecursion (AskItem Principals) ts × Asks 9 g (nat_le (distinct_texts m ts) MAX_MEMBERS ≡ true)

    means_members : (n : ℕ) (ts : List (List ℕ)) → Free g (members_row m n ts) ↔ AskMembers ts
    means_members n ts =
        let spot = spot_at Group n key.Members in
        means_both g (texts_faults m Principals spot 1 ts) (placed spot (unless (nat_le (distinct_texts m ts) MAX_MEMBERS) TooMany))
        (means_texts Principals spot 1 ts) (means_unless g spot (nat_le (distinct_texts m ts) MAX_MEMBERS) TooMany)

    -- ---- owners and principals
    abbrev pub owner_ok : Option (List ℕ) → Bool
    owner_ok None = true
    owner_ok (Some t) = is_some_principal (known_at m t)

    means_owner : (spot : Spot) (o : Option (List ℕ)) → Free g (placed spot (owner_part m o)) ↔ Asks 6 g (owner_ok o ≡ true)
    means_owner spot None = (λ _. asked 6 g (λ _. refl), λ _. tt)
    means_owner spot (Some t) = means_unless g spot (is_some_principal (known_at m t)) UnknownPrincipal

    abbrev pub who_ok : List ℕ → Bool
    who_ok t = is_word t || is_some_principal (known_at m t)

    who_is : (t : List ℕ) → unless (who_ok t) UnknownPrincipal ≡ who_with m (Some t)
    who_is t = elim (is_word t) as (λ b. unless (b || is_some_principal (known_at m t)) UnknownPrincipal ≡ (if b then None else principal_problem m t)) [ true ↦ refl | false ↦ refl ]

    means_who : (spot : Spot) (t : List ℕ) → Free g (placed spot (who_with m (Some t))) ↔ Asks 6 g (who_ok t ≡ true)
    means_who spot t = subst (λ o. Free g (placed spot o) ↔ Asks 6 g (who_ok t ≡ true)) (who_is t) (means_unless g spot (who_ok t) UnknownPrincipal)

    means_action : (n : ℕ) (deny : Bool) (names : List (List ℕ)) → Free g (action_row m n deny names) ↔ AllByRecursion (AskItem Privileges) names
    means_action n false names =
        let spot = spot_at Entry n key.Grant in (
          λ h. (means_texts Privileges spot 1 names).0 (free_parts g (texts_faults m Privileges spot 1 names) [] h).0,
          λ a. free_both g (texts_faults m Privileges spot 1 names) [] ((means_texts Privileges spot 1 names).1 a) tt,
        )
    means_action n true names = means_texts Privileges (spot_at Entry n key.Deny) 1 names

  -- ---- tables
  module _ (named : Named) where
    abbrev pub AskPerson : ℕ → PersonPart → Type 0
    AskPerson n p = AskName named.paths Person n p.name

    abbrev pub AskGroup : ℕ → GroupPart → Type 0
    AskGroup n x = AskName named.paths Group n x.name × AskMembers named.paths x.members

    abbrev pub AskBook : ℕ → BookPart → Type 0
    AskBook n b = AskName named.paths Book n b.name × Asks 6 g (owner_ok named.paths b.owner ≡ true)

    abbrev pub AskEntry : ℕ → EntryText → Type 0
    AskEntry n e =
        Asks 7 g (is_some (known_at named.paths e.at) ≡ true)
        × (Asks 9 g (not (list_any (λ k. k == n) named.full) ≡ true)
        × (Asks 6 g (who_ok named.paths e.who ≡ true) × (AllByRecursion (AskItem named.paths Privileges) e.names × Unit {0})))

    means_entry : (n : ℕ) (e : EntryText) → Free g (entry_row named n e) ↔ AskEntry n e
    means_entry n e =
        let m = named.paths in
        let from_action = action_row m n e.deny e.names ++ [] in
        let from_who = placed (spot_at Entry n key.Who) (who_with m (Some e.who)) ++ from_action in
        let from_list = placed (spot_at Entry n key.Itself) (list_problem named.full n) ++ from_who in
        means_both g (placed (spot_at Entry n key.At) (at_with m (Some e.at))) from_list
        (means_unless g (spot_at Entry n key.At) (is_some (known_at m e.at)) UnknownResource)
        (means_both g (placed (spot_at Entry n key.Itself) (list_problem named.full n)) from_who
        (means_unless g (spot_at Entry n key.Itself) (not (list_any (λ k. k == n) named.full)) LongList)
        (means_both g (placed (spot_at Entry n key.Who) (who_with m (Some e.who))) from_action (means_who m (spot_at Entry n key.Who) e.who)
        (means_both g (action_row m n e.deny e.names) [] (means_action m n e.deny e.names) (means_none g))))

    abbrev pub AskRows : Parts → Type 0
    AskRows parts = Rows AskPerson 1 parts.persons × (Rows AskGroup 1 parts.groups × (Rows AskBook 1 parts.books × Rows AskEntry 1 parts.entries))

    means_tables : (parts : Parts) → Free g (tables_rows named parts) ↔ AskRows parts
    means_tables parts =
        means_both g (rows (person_row named) 1 parts.persons)
        (rows (group_row named) 1 parts.groups ++ (rows (book_row named) 1 parts.books ++ rows (entry_row named) 1 parts.entries))
        (means_rows g (person_row named) AskPerson (λ n p. means_name named.paths Person n p.name) 1 parts.persons)
        (means_both g (rows (group_row named) 1 parts.groups) (rows (book_row named) 1 parts.books ++ rows (entry_row named) 1 parts.entries)
        (means_rows g (group_row named) AskGroup (λ n x.
        means_both g (name_row named.paths Group n x.name) (members_row named.paths n x.members) (means_name named.paths Group n x.name)
        (means_members named.paths n x.members)) 1 parts.groups)
        (means_both g (rows (book_row named) 1 parts.books) (rows (entry_row named) 1 parts.entries)
        (means_rows g (book_row named) AskBook (λ n b.
        means_both g (name_row named.paths Book n b.name) (placed (spot_at Book n key.Owner) (owner_part named.paths b.owner)) (means_name named.paths Book n b.name)
        (means_owner named.paths (spot_at Book n key.Owner) b.owner)) 1 parts.books)
        (means_rows g (entry_row named) AskEntry means_entry 1 parts.entries)))

  abbrev pub AskCount : {A : Type 0} → List A → Type 0
  AskCount xs = Asks 9 g (nat_le (length xs) MAX_NAMED ≡ true)

  abbrev pub AskCounts : Parts → Type 0
  AskCounts parts = AskCount parts.persons × (AskCount parts.groups × (AskCount parts.books × Unit {0}))

  abbrev pub Ask : Bool → Parts → Type 0
  Ask one parts = (Asks 2 g (one ≡ true) × AskCounts parts) × AskRows (parts_named parts) parts

  pub means_whole : (one : Bool) (parts : Parts) → Free g (whole_faults one parts) ↔ Ask one parts
  means_whole one parts =
      let version = placed (spot_at Top 0 key.Version) (unless one OtherVersion) in
      let from_books = count_row key.Books parts.books ++ [] in
      let from_groups = count_row key.Groups parts.groups ++ from_books in
      means_both g (version ++ counts_rows parts) (tables_rows (parts_named parts) parts)
      (means_both g version (counts_rows parts) (means_unless g (spot_at Top 0 key.Version) one OtherVersion)
      (means_both g (count_row key.Persons parts.persons) from_groups (means_unless g (spot_at Top 0 key.Persons) (nat_le (length parts.persons) MAX_NAMED) TooMany)
      (means_both g (count_row key.Groups parts.groups) from_books (means_unless g (spot_at Top 0 key.Groups) (nat_le (length parts.groups) MAX_NAMED) TooMany)
      (means_both g (count_row key.Books parts.books) [] (means_unless g (spot_at Top 0 key.Books) (nat_le (length parts.books) MAX_NAMED) TooMany) (means_none g)))))
      (means_tables (parts_named parts) parts)
