-- Who asks, and what is told of them all.
use Rattle.std.proofs.Common.{◌≡◌, ℕ, ◌++◌, ◌∷◌, [], List, Bool, map, sym, ap, ap₂, ◌∙◌, subst, arith}
use Rattle.std.specs.Prelude.{All, slice_index_or}
use Rattle.std.specs.FinMap.{keys}
use Rattle.std.proofs.lemmas.List.{append-nil, append_assoc, map_push}
use Rattle.std.proofs.lemmas.List.Elements.{All-push}
use Rattle.book_lists.specs.Circles.{CircleOf}
use Rattle.book_lists.specs.Memberships.{IsReachOf, Memberships}
use Rattle.book_lists.specs.Principals.{person_path}
use Rattle.book_lists.specs.declared.circles.Caller.{Caller}
use Rattle.book_lists.specs.declared.circles.Caller.TheVariants.{Nobody, Known}
use Rattle.book_lists.specs.declared.entries.Here.{Here}
use Rattle.book_office_values.specs.declared.paths.Path.{Path}
use Rattle.book_policy_values.specs.declared.parts.PolicyTables.{PolicyTables}
use Rattle.book_policy_idle.specs.Idle.{AreIdleMarks, placed_in_force, places_of}
use Rattle.book_policy_idle.specs.Marks.{AddsAskers, AreAskers, AreMarksOf, IsAsker, IsAskerBy, Spares}
use Rattle.book_policy_idle.specs.declared.askers.Asker.{Asker}
use Rattle.book_policy_idle.proofs.Asking.{asked_everywhere, everywhere_asked}
use Rattle.book_policy_idle.proofs.Model.{spares_same}

abbrev caller_in : Asker → Caller
caller_in a = a.caller

abbrev known : List ℕ → Caller
known name = Known (person_path name)

pub adds_none : (reach : Memberships) (old : List Asker) → AddsAskers reach old [] old
adds_none reach old = record { callers = sym (append-nil (map caller_in old)); right = λ was. was }

pub adds_more : (reach : Memberships) (old mid : List Asker) (names : List (List ℕ)) (name : List ℕ) (a : Asker) → a.caller ≡ Known (person_path name) → IsAskerBy reach a
    → AddsAskers reach old names mid → AddsAskers reach old (names ++ name ∷ []) (mid ++ a ∷ [])
adds_more reach old mid names name a is by h = record {
  callers =
      map_push caller_in mid a
      ∙ ap₂ (λ (xs : List Caller) (y : Caller). xs ++ y ∷ []) h.callers is
      ∙ append_assoc (map caller_in old) (map known names) (known name ∷ [])
      ∙ ap (λ (l : List Caller). map caller_in old ++ l) (sym (map_push known names name));
  right = λ was. All-push (IsAskerBy reach) mid a (h.right was) by;
}

pub are_askers : (t : PolicyTables) (reach : Memberships) (first all : List Asker) (a : Asker) (names : List (List ℕ)) → IsReachOf t.members reach
    → first ≡ a ∷ [] → a.caller ≡ Nobody → IsAskerBy reach a → names ≡ keys t.persons → AddsAskers reach first names all → AreAskers t all
are_askers t reach first all a names closed one nobody by same adds = record {
  callers =
      adds.callers ∙ ap₂ (λ (xs : List Asker) (ns : List (List ℕ)). map caller_in xs ++ map known ns) one same
      ∙ ap (λ (c : Caller). c ∷ map known (keys t.persons)) nobody;
  right = λ k d below. stand (slice_index_or all k d) (adds.right first_right k d below);
}
  where
    stand : (x : Asker) → IsAskerBy reach x → IsAsker t.members x
    stand x is = record { circle = is.circle t.members closed; own = is.own }

    first_right : All (IsAskerBy reach) first
    first_right = subst (All (IsAskerBy reach)) (sym one) (All-push (IsAskerBy reach) [] a (λ k d below. absurd (omega (arith, below))) by)

-- the marks of those who ask are those of the model
pub idle_marks : (t : PolicyTables) (marks : List Bool) (askers : List Asker) (places : List Path) → AreAskers t askers → places ≡ places_of t
    → AreMarksOf t.entries askers places marks → AreIdleMarks t marks
idle_marks t marks askers places are same of i = (
  (λ marked. let m = (of i).0 marked in (
    m.0,
    λ p caller circle here leaf is_place is_caller is_circle is_here.
        asked_everywhere t askers places are same spares (λ p c h k owner principal s. spares_same c h k owner principal i (placed_in_force t.entries p) s) m.1 p caller circle here is_place is_caller is_circle is_here leaf,
  )),
  (λ m. (of i).1 (m.0, everywhere_asked t askers places are same spares (λ p caller circle here is_place is_caller is_circle is_here leaf. m.1 p caller circle here leaf is_place is_caller is_circle is_here))),
)
  where
    spares : Path → CircleOf → Here → Type 0
    spares p c h = Spares c h (placed_in_force t.entries p) i

pub joined : (h a b d : List Path) → ((h ++ a) ++ b) ++ d ≡ h ++ (a ++ (b ++ d))
joined h a b d = append_assoc (h ++ a) b d ∙ append_assoc h a (b ++ d)
