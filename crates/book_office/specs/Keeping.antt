-- What a keeper stands for, and what a call does with it.
use Rattle.std.specs.Prelude.{◌≡◌, ◌⊎◌, ℕ, ◌+◌, nat_lt, if◌then◌else◌, List, [], ◌∷◌, Result, Ok, Err, IfOk, OnOk, OnErr}
use Rattle.std.specs.Borrow.{GName}
use Rattle.book_office.specs.declared.edits.Edit.{Edit}
use Rattle.book_office.specs.declared.keepers.StoreFault.{StoreFault}
use Rattle.book_office.specs.declared.keepers.StoreFault.TheVariants.{Store, Memory}
use Rattle.book_office_values.specs.declared.offices.Office.{Office}
use Rattle.book_office.specs.Edits.{apply}
use Rattle.book_office.specs.Sound.{IsSound, Fits}

-- what a stop may leave: an Office, or rows that stand for none
pub data Leftover : Type 0 where
  whole : Office → Leftover
  broken : Leftover

-- what is left of a keeper where the transaction in which it is open is not kept
pub record Fallback : Type 1 where
  -- the references by which it has its store, the outermost first
  pub names : List GName
  -- each Office for which the store then stands
  pub stands : Office → Type 0
  -- what a stop may leave before the transaction is kept
  pub left : Leftover → Type 0

-- nothing of it was lost: the store is had by the same references and stands for what it stood for, and a stop leaves nothing new
pub record FallsBack (old new : Fallback) : Type 0 where
  pub names : new.names ≡ old.names
  pub stands : (o : Office) → old.stands o → new.stands o
  pub left : (x : Leftover) → new.left x → old.left x

-- a keeper that is open in no transaction of another: nothing is said
abbrev pub no_fallback : Fallback
no_fallback = record { names = []; stands = λ o. ⊥; left = λ x. Unit {0} }

-- A keeper, as its contract sees it. One that is open in a transaction stands for what it would be if the transaction were kept now, and
-- what it may leave is what a stop could leave then; what there is without that is its fallback.
pub record Standing : Type 1 where
  -- nobody else has written its store, and the disk has returned what was written
  pub honest : Type 0
  -- each Office for which it stands, while its store can be read
  pub stands : Office → Type 0
  -- each is sound
  pub sound : (o : Office) → stands o → IsSound o
  -- what a stop now may leave
  pub left : Leftover → Type 0
  -- how often the store has failed
  pub failures : ℕ
  -- what is left where its transaction is not kept
  pub fallback : Fallback

-- the count of failures stays at its last value
abbrev pub one_more : ℕ → ℕ
one_more n = if nat_lt n 18446744073709551615 then n + 1 else n

abbrev pub failures_after_fault : StoreFault → ℕ → ℕ
failures_after_fault Memory n = n
failures_after_fault Store n = one_more n

-- the count rises with each answer that the store failed, and never else
abbrev pub failures_after : {A : Type 0} → Result A StoreFault → ℕ → ℕ
failures_after (Ok x) n = n
failures_after (Err fault) n = failures_after_fault fault n

-- a read tells what the Office has, and leaves it as it was
pub record Reads {A : Type 0} (old new : Standing) (result : Result A StoreFault) (Tells : Office → A → Type 0) : Type 0 where
  pub was_honest : new.honest → old.honest
  pub falls : FallsBack old.fallback new.fallback
  pub value : new.honest → IfOk result (λ x. (o : Office) → old.stands o → Tells o x)
  pub kept : new.honest → (o : Office) → old.stands o → new.stands o
  pub left : new.honest → (x : Leftover) → new.left x → old.left x
  pub counted : new.failures ≡ failures_after result old.failures

-- an edit that fits is made, or on an error the Office is as it was; a stop leaves no third
pub record Edits (old new : Standing) (result : Result (Unit {0}) StoreFault) (edit : Edit) : Type 0 where
  pub was_honest : new.honest → old.honest
  pub falls : FallsBack old.fallback new.fallback
  pub made : new.honest → OnOk result ((o : Office) → old.stands o → Fits o edit → new.stands (apply o edit))
  pub kept : new.honest → OnErr result ((o : Office) → old.stands o → new.stands o)
  pub left_made : new.honest → OnOk result ((o : Office) → old.stands o → Fits o edit → (x : Leftover) → new.left x → x ≡ whole (apply o edit))
  pub left_kept : new.honest → OnErr result ((o : Office) → old.stands o → Fits o edit → (x : Leftover) → new.left x → old.left x ⊎ (x ≡ whole (apply o edit)))
  pub counted : new.failures ≡ failures_after result old.failures

-- a keeper in memory stands for what it has, where that is sound; a stop leaves nothing
abbrev pub in_memory : Office → Standing
in_memory k = record { honest = Unit {0}; stands = λ o. (o ≡ k) × IsSound o; sound = λ o stands. stands.1; left = λ x. ⊥; failures = 0; fallback = no_fallback }

-- a keeper that is lent stands for what it stands for, and is had by one reference more
abbrev pub lent : GName → Standing → Standing
lent name kept = record {
  honest = kept.honest;
  stands = kept.stands;
  sound = kept.sound;
  left = kept.left;
  failures = kept.failures;
  fallback = record { names = name ∷ kept.fallback.names; stands = kept.fallback.stands; left = kept.fallback.left };
}
