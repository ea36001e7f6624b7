-- A policy that is put in force.
use Rattle.std.proofs.Common.{◌≡◌, ℕ, List, [], ◌∷◌, Result, Ok, Err, subst, inl, inr}
use Rattle.book_log_lines.specs.declared.lines.Adoption.{Adoption}
use Rattle.book_log_lines.specs.declared.lines.Line.{Line}
use Rattle.book_log_lines.specs.declared.lines.Line.TheVariants as line
use Rattle.book_log_service.specs.Texts.{IsAdoption}
use Rattle.book_machine.specs.Promises.{AdoptPromise}
use Rattle.book_machine.specs.declared.machine.Machine.{Machine}
use Rattle.book_machine.specs.declared.adoptions.AdoptFault.{AdoptFault}
use Rattle.book_machine.specs.declared.adoptions.Adopted.{Adopted}
use Rattle.book_office.specs.Keeping.{Standing}
use Rattle.book_policy_values.specs.declared.parts.PolicyTables.{PolicyTables}
use Rattle.book_wire_serving.specs.Logs.{Gains, Log, no_log}
use Rattle.book_wire_serving.specs.Serving.{Serving, StandsStill}
use Rattle.book_wire_steps.specs.Steps.{AdoptsNow, IsEpochTold, IsLineOfAdoption, KeepsOffice, told_as}
use Rattle.book_office.proofs.Fallbacks.{still_falls, then_falls}

pub keeps_same : (s : Standing) → KeepsOffice s s
keeps_same s = record { was_honest = λ h. h; falls = still_falls; kept = λ h o stands. stands; left = λ h x left. left }

pub keeps_still : (old mid new : Standing) → KeepsOffice old mid → StandsStill mid new → KeepsOffice old new
keeps_still old mid new k s = record {
  was_honest = λ h. k.was_honest (s.was_honest h);
  falls = then_falls k.falls s.falls;
  kept = λ h o stands. s.kept h o (k.kept (s.was_honest h) o stands);
  left = λ h x left. k.left (s.was_honest h) x (s.left h x left);
}

-- no log gains nothing
pub no_log_gains : (AreSo : List Line → Type 0) → Gains no_log no_log AreSo
no_log_gains AreSo = record { was_sound = λ sound. sound; lines = λ sound bytes held. absurd cc }

-- the epoch is the one that was told, after nothing was done
epoch_still : (between mid new : Standing) (outcome : Result Adopted AdoptFault) (epoch : ℕ)
    → (new.honest → mid.honest) → IsEpochTold between mid outcome epoch → IsEpochTold between new outcome epoch
epoch_still between mid new (Ok adopted) epoch was told = told
epoch_still between mid new (Err fault) epoch was (inl none) = inl none
epoch_still between mid new (Err fault) epoch was (inr known) = inr (λ h o stands. known (was h) o stands)

-- what was noted is the line of the adoption
pub line_noted : (between mid new : Standing) (outcome : Result Adopted AdoptFault) (adopted : Adoption) (epoch : ℕ) (before after : Log)
    → adopted ≡ told_as outcome → IsEpochTold between mid outcome epoch → StandsStill mid new
    → Gains before after (λ lines. (l : Line) × (lines ≡ l ∷ []) × IsAdoption adopted epoch l)
    → Gains before after (λ lines. (l : Line) × (lines ≡ l ∷ []) × IsLineOfAdoption between new outcome l)
line_noted between mid new outcome adopted epoch before after is told s gains = record {
  was_sound = gains.was_sound;
  lines = λ sound bytes held.
      let g = gains.lines sound bytes held in
      let l = g.2 in
      let so = l.2 in
      let P : Adoption → Type 0 = λ a. l.0 ≡ line.Adoption (record { time = so.0; epoch = epoch; adopted = a }) in
      (g.0, g.1, (l.0, l.1, (so.0, epoch, epoch_still between mid new outcome epoch s.was_honest told, subst P is so.1)));
}

-- what a machine without a log stands for
abbrev pub bare_serving : {K : Type 0} → (K → Standing) → Machine K → Serving
bare_serving standing m = record { standing = standing m.keeper; log = no_log }

pub adopts_bare : {K : Type 0} (standing : K → Standing) (old new : Machine K) (tables : PolicyTables) (outcome : Result Adopted AdoptFault)
    → AdoptPromise (standing old.keeper) (standing new.keeper) tables outcome → AdoptsNow (bare_serving standing) old new tables outcome
adopts_bare standing old new tables outcome promise = record {
  between = new;
  promise = promise;
  keeps = keeps_same (standing new.keeper);
  noted = no_log_gains _;
}
