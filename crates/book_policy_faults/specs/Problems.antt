-- What is wrong with one value of a policy's text.
use Rattle.std.specs.Prelude.{ℕ, ◌+◌, List, ◌++◌, map, nat_le, ◌==◌, ◌&&◌, if◌then◌else◌, is_some, Bool, Option, Some, None, option_and_then, option_map}
use Rattle.toml.specs.Data.{Data, Items, no_items, item, as_array, as_integer, as_str}
use Rattle.book_limits.specs.declared.TheConstants.{MAX_PRIVILEGE_NAMES}
use Rattle.book_rights.specs.Privileges.{name_of}
use Rattle.book_policy_faults.specs.Values.{all_privileges, is_among, is_some_one, is_word, mark_of, short_label}
use Rattle.book_policy_faults.specs.Known.{Paths, is_name, is_some_principal, known_at, prefix_of}
use Rattle.book_policy_faults.specs.declared.known.Known.{Known}
use Rattle.book_policy_faults.specs.declared.places.Problem.{Problem}
use Rattle.book_policy_faults.specs.declared.places.Problem.TheVariants.{Missing, OtherKind, OtherVersion, LongLabel, NamesCount, BadName, NameTwice, UnknownPrincipal, UnknownResource, UnknownPrivilege, TooMany}
use Rattle.book_policy_faults.specs.declared.problems.ItemRule.{ItemRule}
use Rattle.book_policy_faults.specs.declared.problems.ItemRule.TheVariants.{Principals, Privileges}
use Rattle.book_policy_faults.specs.declared.places.TableKind.{TableKind}

-- none where the fact holds, else the problem
abbrev pub unless : Bool → Problem → Option Problem
unless holds problem = if holds then None else Some problem

-- the version is the whole number 1
abbrev pub version_problem : Option Data → Option Problem
version_problem o = unless (is_some_one (option_and_then as_integer o)) OtherVersion

abbrev pub count : Items → ℕ
count no_items = 0
count (item d ds) = count ds + 1

-- an array, with a bound or without one
abbrev pub many : Option ℕ → ℕ → Option Problem
many None n = None
many (Some most) n = unless (nat_le n most) TooMany

abbrev pub array_with : Option ℕ → Option Items → Option Problem
array_with most None = Some OtherKind
array_with most (Some ds) = many most (count ds)

abbrev pub array_problem : Option Data → Option ℕ → Option Problem
array_problem None most = None
array_problem (Some d) most = array_with most (as_array d)

-- ---- names

-- a table before this one has the name too
abbrev pub twice_problem : ℕ → Option ℕ → Option Problem
twice_problem n None = None
twice_problem n (Some first) = unless (first == n) (NameTwice first)

abbrev pub first_named : Paths → TableKind → List ℕ → Option ℕ
first_named m kind name = option_map (λ (k : Known). k.number) (known_at m (prefix_of kind ++ name))

abbrev pub name_with : Paths → TableKind → ℕ → Option (List ℕ) → Option Problem
name_with m kind n None = Some OtherKind
name_with m kind n (Some name) = if is_name name then twice_problem n (first_named m kind name) else Some BadName

abbrev pub name_problem : Paths → TableKind → ℕ → Option Data → Option Problem
name_problem m kind n None = Some Missing
name_problem m kind n (Some d) = name_with m kind n (as_str d)

-- ---- labels and marks
abbrev pub label_with : Option (List ℕ) → Option Problem
label_with None = Some OtherKind
label_with (Some text) = unless (is_some (short_label text)) LongLabel

abbrev pub label_problem : Option Data → Option Problem
label_problem None = None
label_problem (Some d) = label_with (as_str d)

abbrev pub mark_problem : Option Data → Option Problem
mark_problem o = unless (is_some (mark_of o)) OtherKind

-- ---- principals and places
abbrev pub principal_problem : Paths → List ℕ → Option Problem
principal_problem m text = unless (is_some_principal (known_at m text)) UnknownPrincipal

abbrev pub owner_with : Paths → Option (List ℕ) → Option Problem
owner_with m None = Some OtherKind
owner_with m (Some text) = principal_problem m text

abbrev pub owner_problem : Paths → Option Data → Option Problem
owner_problem m None = None
owner_problem m (Some d) = owner_with m (as_str d)

abbrev pub who_with : Paths → Option (List ℕ) → Option Problem
who_with m None = Some OtherKind
who_with m (Some text) = if is_word text then None else principal_problem m text

abbrev pub who_problem : Paths → Option Data → Option Problem
who_problem m None = Some Missing
who_problem m (Some d) = who_with m (as_str d)

abbrev pub at_with : Paths → Option (List ℕ) → Option Problem
at_with m None = Some OtherKind
at_with m (Some text) = unless (is_some (known_at m text)) UnknownResource

abbrev pub at_problem : Paths → Option Data → Option Problem
at_problem m None = Some Missing
at_problem m (Some d) = at_with m (as_str d)

-- ---- items

-- the names of all privileges
abbrev pub is_privilege_name : List ℕ → Bool
is_privilege_name text = is_among text (map name_of all_privileges)

abbrev pub privilege_problem : List ℕ → Option Problem
privilege_problem text = unless (is_privilege_name text) UnknownPrivilege

abbrev pub item_with : Paths → ItemRule → Option (List ℕ) → Option Problem
item_with m rule None = Some OtherKind
item_with m Principals (Some text) = principal_problem m text
item_with m Privileges (Some text) = privilege_problem text

abbrev pub item_problem : Paths → ItemRule → Data → Option Problem
item_problem m rule d = item_with m rule (as_str d)

-- 1 to 16 names
abbrev pub names_with : Option Items → Option Problem
names_with None = Some OtherKind
names_with (Some ds) = unless (nat_le 1 (count ds) && nat_le (count ds) MAX_PRIVILEGE_NAMES) NamesCount

abbrev pub names_problem : Data → Option Problem
names_problem d = names_with (as_array d)
