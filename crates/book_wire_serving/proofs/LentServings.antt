-- A service that is had by references more does what it does.
use Rattle.std.proofs.Common.{◌≡◌, ℕ, Bool, true, List, ◌∷◌, ◌++◌, Option, ap}
use Rattle.std.specs.Borrow.{GName}
use Rattle.book_office.specs.Keeping.{Fallback, FallsBack, Standing}
use Rattle.book_machine.specs.declared.messages.Reply.{Reply}
use Rattle.book_machine.specs.declared.messages.Request.{Request}
use Rattle.book_wire_serving.specs.Rounds.{by_names, lent_by, with_log}
use Rattle.book_wire_serving.specs.Serving.{Answered, IsTextOf, NotesOwed, NotesRefusal, Owes, Runs, Serving, StandsStill, Stays}

-- ---- references
pub heads : (a b : GName) (xs ys : List GName) → a ∷ xs ≡ b ∷ ys → a ≡ b
heads a b xs ys e = cc

pub tails : (a b : GName) (xs ys : List GName) → a ∷ xs ≡ b ∷ ys → xs ≡ ys
tails a b xs ys e = cc

pub falls_by : (ns : List GName) (s t : Standing) → FallsBack s.fallback t.fallback → FallsBack (lent_by ns s).fallback (lent_by ns t).fallback
falls_by ns s t f = record { names = ap (λ (names : List GName). ns ++ names) f.names; stands = f.stands; left = f.left }

pub still_by : (ns : List GName) (s t : Standing) → StandsStill s t → StandsStill (lent_by ns s) (lent_by ns t)
still_by ns s t still = record {
  was_honest = still.was_honest;
  falls = falls_by ns s t still.falls;
  kept = still.kept;
  left = still.left;
  counted = still.counted;
}

-- what else there is without its transaction has no part in what it does
abbrev pub over : Fallback → Standing → Standing
over f s = record { honest = s.honest; stands = s.stands; sound = s.sound; left = s.left; failures = s.failures; fallback = f }

text_over : (f g : Fallback) (s t : Standing) (name : Option (List ℕ)) (request : Request) (reply : Reply) (text : List ℕ)
    → IsTextOf s t name request reply text → IsTextOf (over f s) (over g t) name request reply text
text_over f g s t name request reply text told = record {
  l = told.l;
  text_is = told.text_is;
  is_line = told.is_line;
  by_force = told.by_force;
  of_edit = λ h o stands empty.
      let edited = told.of_edit h o stands empty in
      record { after = edited.after; stands = edited.stands; served = edited.served; l = edited.l; text_is = edited.text_is; is_line = edited.is_line };
}

pub owes_over : (f g : Fallback) (old new : Serving) (owed : Bool → List ℕ) (name : Option (List ℕ)) (request : Request) (reply : Reply)
    → FallsBack f g → Owes old new owed name request reply
    → Owes (with_log old.log (over f old.standing)) (with_log new.log (over g new.standing)) owed name request reply
owes_over f g old new owed name request reply falls o = record {
  served = record { was_honest = o.served.was_honest; falls = falls; served = o.served.served; left = o.served.left; counted = o.served.counted };
  well_formed = o.well_formed;
  was_sound = o.was_sound;
  held = o.held;
  text = λ sound bytes held. text_over f g old.standing new.standing name request reply (owed true) (o.text sound bytes held);
  other = o.other;
}

-- ---- calls
pub stays_by : (ns : List GName) (old new : Serving) → Stays old new → Stays (by_names ns old) (by_names ns new)
stays_by ns old new s = record { still = still_by ns old.standing new.standing s.still; log = s.log }

pub owes_by : (ns : List GName) (old new : Serving) (owed : Bool → List ℕ) (name : Option (List ℕ)) (request : Request) (reply : Reply)
    → Owes old new owed name request reply → Owes (by_names ns old) (by_names ns new) owed name request reply
owes_by ns old new owed name request reply o =
    owes_over (lent_by ns old.standing).fallback (lent_by ns new.standing).fallback old new owed name request reply
    (falls_by ns old.standing new.standing o.served.falls) o

pub notes_by : (ns : List GName) (old new : Serving) (text : List ℕ) → NotesOwed old new text → NotesOwed (by_names ns old) (by_names ns new) text
notes_by ns old new text n = record { still = still_by ns old.standing new.standing n.still; noted = n.noted }

pub refusal_by : (ns : List GName) (old new : Serving) (status : ℕ) (error : List ℕ) → NotesRefusal old new status error
    → NotesRefusal (by_names ns old) (by_names ns new) status error
refusal_by ns old new status error n = record { still = still_by ns old.standing new.standing n.still; noted = n.noted }

pub runs_by : (ns : List GName) (old new : Serving) (answered : List Answered) → Runs old new answered → Runs (by_names ns old) (by_names ns new) answered
runs_by ns old new answered r = record {
  well_formed = r.well_formed;
  was_honest = r.was_honest;
  falls = falls_by ns old.standing new.standing r.falls;
  run = r.run;
  noted = r.noted;
}
