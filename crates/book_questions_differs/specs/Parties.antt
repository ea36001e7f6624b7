-- Those who are asked about: nobody, and each person of either Office, with the principals to which it belongs in each.
use Rattle.std.specs.Prelude.{◌≡◌, ℕ, Bool, true, false, is_some, List, [], ◌∷◌, map, Option, Some, None}
use Rattle.std.specs.FinMap.{empty, insert, keys}
use Rattle.std.specs.List.{AllZip}
use Rattle.book_lists.specs.Callers.{IsCircle}
use Rattle.book_lists.specs.Circles.{CircleOf}
use Rattle.book_lists.specs.Principals.{person_path}
use Rattle.book_lists.specs.declared.circles.Caller.{Caller}
use Rattle.book_lists.specs.declared.circles.Caller.TheVariants.{Nobody, Known}
use Rattle.book_office.specs.Resources.{children_at, node_at}
use Rattle.book_office.specs.declared.nodes.Listed.{Listed}
use Rattle.book_office_values.specs.Names.{NamesTo}
use Rattle.book_office_values.specs.declared.offices.Office.{Office}
use Rattle.book_office_values.specs.declared.paths.Path.TheVariants as path
use Rattle.book_questions_differs.specs.declared.parties.Party.{Party}

-- the persons of an Office
abbrev pub persons_at : Office → List Listed
persons_at o = children_at o path.People

-- a set of names with the names of more persons
abbrev pub with_names : NamesTo (Unit {0}) → List Listed → NamesTo (Unit {0})
with_names names [] = names
with_names names (person ∷ persons) = with_names (insert names person.name tt) persons

-- the names of the persons in two lists, in byte order, each once
abbrev pub names_in_order : List Listed → List Listed → List (List ℕ)
names_in_order before after = keys (with_names (with_names empty before) after)

-- nobody, and each person of either Office in byte order of the names
abbrev pub everybody : Office → Office → List (Option (List ℕ))
everybody o p = None ∷ map Some (names_in_order (persons_at o) (persons_at p))

-- nobody, or the person of a name
abbrev pub caller_named : Option (List ℕ) → Caller
caller_named None = Nobody
caller_named (Some name) = Known (person_path name)

-- nobody is always there
abbrev pub is_there : Office → Option (List ℕ) → Bool
is_there o None = true
is_there o (Some name) = is_some (node_at o (path.Person name))

-- the principals to which a caller belongs in an Office, if it is there
abbrev pub IsCircleIn : Office → Option (List ℕ) → Option CircleOf → Type 0
IsCircleIn o name None = is_there o name ≡ false
IsCircleIn o name (Some circle) = (is_there o name ≡ true) × IsCircle o.pairs (caller_named name) circle

-- a caller with its circles in the Office before and in the one after
pub record IsParty (o p : Office) (name : Option (List ℕ)) (party : Party) : Type 0 where
  pub caller_is : party.caller ≡ caller_named name
  pub before : IsCircleIn o name party.before
  pub after : IsCircleIn p name party.after

abbrev pub AreParties : Office → Office → List (Option (List ℕ)) → List Party → Type 0
AreParties o p names parties = AllZip (IsParty o p) names parties
