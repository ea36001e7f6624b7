-- What `why` tells of a request is its verdict.
use Rattle.book_machine.proofs.Common.{◌≡◌, List, [], ◌∷◌, Option, Some, None, inl, inr, refl, sym, ap, subst, Need, CircleOf, Office, Path, Ready, Denial}
use Rattle.book_machine.specs.declared.asked.Destination.{Destination}
use Rattle.std.proofs.Common.{◌↔◌, map}
use Rattle.book_office.specs.Levels.{effective_at}
use Rattle.book_office_listings.specs.Scanning.{IsVerdict}
use Rattle.book_office_listings.specs.Verdicts.{here_of}
use Rattle.book_machine.specs.Asked.{destination_in}
use Rattle.book_machine.specs.Needing.{placed, needed_of}
use Rattle.book_machine.specs.Verdicts.{AreGranted, IsFirstDenial, IsGranted, IsDenied, needs_at, place_path}
use Rattle.book_machine.proofs.OnePlan.{verdicts_exclude, one_denial}
use Rattle.book_machine.proofs.StepLaws.{denials_are_told}
use Rattle.book_questions.specs.RulingVerdicts.{denial_of}
use Rattle.book_questions.specs.Whys.{denial_at, first_denial, or_else, AreWhys, IsWhyNeed, IsWhy, WhyTellsTheVerdict, WhyTellsTheReply}
use Rattle.book_questions.specs.declared.whys.Why.{Why}
use Rattle.book_questions.specs.declared.whys.WhyNeed.{WhyNeed}
use Rattle.book_questions.proofs.RuledVerdicts.{rulings_tell}

module _ (o : Office) (circle : CircleOf) (to : Option Destination) (target : Path) where
  -- the verdict on needs in turn
  abbrev Verdict : List Need → Option Denial → Type 0
  Verdict needs None = AreGranted o circle to target needs
  Verdict needs (Some denial) = IsFirstDenial o circle to target needs denial

  need_told : (need : Need) (why : WhyNeed) → IsWhyNeed o circle (placed to target need) why → IsVerdict (effective_at o (place_path to target need.place)) circle (here_of o (place_path to target need.place)) (place_path to target need.place) need.set (denial_at why)
  need_told need why is =
      let p = place_path to target need.place in
      subst (λ q. IsVerdict (effective_at o p) circle (here_of o p) p need.set (denial_of q why.set why.rulings)) (sym is.resource)
      (subst (λ set. IsVerdict (effective_at o p) circle (here_of o p) p need.set (denial_of p set why.rulings)) (sym is.set)
      (rulings_tell (effective_at o p) circle (here_of o p) p need.set why.rulings is.rulings))

  next_told : (need : Need) (needs : List Need) (first rest : Option Denial)
      → IsVerdict (effective_at o (place_path to target need.place)) circle (here_of o (place_path to target need.place)) (place_path to target need.place) need.set first
      → Verdict needs rest → Verdict (need ∷ needs) (or_else first rest)
  next_told need needs None None granted others = (granted, others)
  next_told need needs None (Some denial) granted others = inr (granted, others)
  next_told need needs (Some denial) rest denied others = inl denied

  all_told : (needs : List Need) (whys : List WhyNeed) → AreWhys o circle (map (placed to target) needs) whys → Verdict needs (first_denial whys)
  all_told [] [] all = tt
  all_told [] (why ∷ whys) all = absurd all
  all_told (need ∷ needs) [] all = absurd all
  all_told (need ∷ needs) (why ∷ whys) all = next_told need needs (denial_at why) (first_denial whys) (need_told need why all.0) (all_told needs whys all.1)

abbrev Told : Office → Ready → Option Denial → Type 0
Told o ready None = IsGranted o ready
Told o ready (Some denial) = IsDenied o ready denial

told : (o : Office) (ready : Ready) (why : Why) → IsWhy o (needed_of ready) why → Told o ready (first_denial why.needs)
told o ready why w = go (first_denial why.needs) (all_told o w.circle (destination_in ready.asked) ready.target.path (needs_at ready) why.needs w.needs)
  where
    go : (found : Option Denial) → Verdict o w.circle (destination_in ready.asked) ready.target.path (needs_at ready) found → Told o ready found
    go None granted = record { circle = w.circle; is_circle = w.is_circle; granted = granted }
    go (Some denial) denied = record { circle = w.circle; is_circle = w.is_circle; denied = denied }

granted_tells : (o : Office) (ready : Ready) (found : Option Denial) → Told o ready found → (found ≡ None) ↔ IsGranted o ready
granted_tells o ready None granted = (λ e. granted, λ g. refl)
granted_tells o ready (Some denial) denied = (λ e. absurd cc, λ g. absurd (verdicts_exclude o ready denial g denied))

denied_tells : (o : Office) (ready : Ready) (found : Option Denial) → Told o ready found → (denial : Denial) → (found ≡ Some denial) ↔ IsDenied o ready denial
denied_tells o ready None granted denial = (λ e. absurd cc, λ d. absurd (verdicts_exclude o ready denial granted d))
denied_tells o ready (Some it) denied denial = (
  λ e. let same : it ≡ denial = cc in subst (IsDenied o ready) same denied,
  λ d. ap (λ x. Some x) (one_denial o ready it denial denied d),
)

pub why_verdict : WhyTellsTheVerdict
why_verdict o ready why w = (granted_tells o ready (first_denial why.needs) (told o ready why w), denied_tells o ready (first_denial why.needs) (told o ready why w))

pub why_reply : WhyTellsTheReply
why_reply o after name request reply ready why denial is w steps =
    let here = denials_are_told o name request ready reply after denial is steps in
    let there = (why_verdict o ready why w).1 denial in
    (λ e. there.1 (here.1 e), λ e. here.0 (there.0 e))
