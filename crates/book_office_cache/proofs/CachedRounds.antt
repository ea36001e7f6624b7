-- A round behind what is remembered is the keeper's, and what was learned in it stays where it was kept.
use Rattle.std.proofs.Common.{◌≡◌, inl, inr, ap, sym, subst, Result, Ok, Err, OnErr, OnOk}
use Rattle.std.proofs.lemmas.Bool.{false≢true}
use Rattle.book_office.specs.Keeping.{Standing}
use Rattle.book_office.specs.Rounds.{IsRound}
use Rattle.book_office.specs.declared.keepers.StoreFault.{StoreFault}
use Rattle.book_office_values.specs.declared.offices.Office.{Office}
use Rattle.book_office_cache.specs.Remembering.{Remembers, lent_memory, own_memory, remembering}
use Rattle.book_office_cache.specs.Rounds.{IsWorkBehind, remembering_in}
use Rattle.book_office_cache.specs.declared.remembered.Remembered.{Remembered}
use Rattle.book_office_cache.specs.declared.rounds.CachedWork.{CachedWork}

module _ {I W : Type 0} (inside : I → Standing) (does : Standing → Standing → W → W → Type 0) (old new : Standing) (before after : CachedWork W) (was is : Remembered) where
  abbrev pub RoundBehind : Result (Unit {0}) StoreFault → Type 0
  RoundBehind r = IsRound (remembering_in inside) does (remembering old (own_memory was)) (remembering new (own_memory is)) before.work.now after.work.now r

  pub round_behind : (r : Result (Unit {0}) StoreFault) → before.remembered.now ≡ was → OnOk r (is ≡ after.remembered.now) → OnErr r ((o : Office) → Remembers is o)
      → IsRound inside (IsWorkBehind does) old new before after r → RoundBehind r
  round_behind (Ok u) begun kept nothing round = record {
    was_honest = round.was_honest;
    falls = round.falls;
    kept = λ h. tt;
    done = elim round.done [
      | inl d ↦ inl (record {
        first = (d.first, d.done.name, lent_memory d.done.memory before.remembered.now);
        last = (d.last, d.done.name, lent_memory d.done.memory after.remembered.now);
        done = d.done.done;
        begins = λ h o stands. (d.begins h o stands.0, subst (λ r. Remembers r o) (sym begun) stands.1);
        begins_left = d.begins_left;
        begins_counted = d.begins_counted;
        honest = d.honest;
        made = λ h o stands. (d.made h o stands.0, subst (λ r. Remembers r o) (sym kept) stands.1);
        left_made = d.left_made;
        left_kept = λ h. tt;
        counted = d.counted;
        counted_once = tt;
      })
      | inr n ↦ absurd (false≢true n.refused)
    ];
  }
  round_behind (Err fault) begun kept nothing round = record {
    was_honest = round.was_honest;
    falls = round.falls;
    kept = λ h o stands. (round.kept h o stands.0, nothing o);
    done = elim round.done [
      | inl d ↦ inl (record {
        first = (d.first, d.done.name, lent_memory d.done.memory before.remembered.now);
        last = (d.last, d.done.name, lent_memory d.done.memory after.remembered.now);
        done = d.done.done;
        begins = λ h o stands. (d.begins h o stands.0, subst (λ r. Remembers r o) (sym begun) stands.1);
        begins_left = d.begins_left;
        begins_counted = d.begins_counted;
        honest = λ h. tt;
        made = λ h. tt;
        left_made = λ h. tt;
        left_kept = d.left_kept;
        counted = tt;
        counted_once = d.counted_once;
      })
      | inr n ↦ inr (record {
        refused = n.refused;
        same = ap (λ (w : CachedWork W). w.work.now) n.same;
        left = n.left;
        counted = n.counted;
      })
    ];
  }
