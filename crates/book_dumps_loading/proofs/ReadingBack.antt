-- What is read of a keeper by its dump.
use Rattle.book_dumps_loading.proofs.Common.{◌≡◌, ◌≢◌, ◌∙◌, ◌++◌, List, ℕ, [], Bool, true, false, IsTrue, Some, Ok, refl, subst, sym, ap, Standing, Reads, Office}
use Rattle.std.proofs.Common.{◌↔◌, true≢false}
use Rattle.sqlite.specs.Held.{Held}
use Rattle.sqlite.specs.State.{State, HasCleanDisk}
use Rattle.book_dumps.specs.Dumps.{dump_text}
use Rattle.book_dumps.specs.Laws.{DumpsAreExact}
use Rattle.book_dumps.specs.Writing.{Dumps}
use Rattle.book_dumps_loading.specs.Loading.{Compares, IsCopy, StandsForOther, StandsForText}
use Rattle.book_dumps_reading.specs.Dumped.{dumped_text}
use Rattle.book_dumps_reading.specs.declared.dumped.Dumped.{Dumped}
use Rattle.book_tables.specs.Keeps.{standing_of}
use Rattle.book_tables.specs.Opened.{StandsAlone}
use Rattle.book_tables_schema.specs.Reopening.{IsConnectionAnd}
use Rattle.book_tables_schema.specs.declared.reopening.Unopened.{Unopened}
use Rattle.book_tables_schema.specs.declared.reopening.Unopened.TheVariants.{Connection, Store}

-- ---- a dump that was written is read

module _ (old new : Standing) (held given : List ℕ) (none : held ≡ []) where
  -- what was given is the dump
  given_whole : (o : Office) → given ≡ held ++ dump_text o → given ≡ dump_text o
  given_whole o e = e ∙ ap (λ (l : List ℕ). l ++ dump_text o) none

  -- whether it is a text
  pub told_whole : (text : List ℕ) (is : Bool) → (IsTrue is ↔ (given ≡ text)) → Dumps old new (Some held) (Some given) (Ok tt)
      → Reads old new (Ok is) (λ o is. IsTrue is ↔ (dump_text o ≡ text))
  told_whole text is tells d = record {
    was_honest = d.was_honest;
    falls = d.falls;
    value = λ honest o stands. (let whole : given ≡ dump_text o = given_whole o (d.whole honest o stands) in
        ((λ yes. sym whole ∙ tells.0 yes), (λ same. tells.1 (whole ∙ same))));
    kept = d.kept;
    left = d.left;
    counted = d.counted;
  }

-- ---- what a read of a connection leaves
module _ (old new : State) (before after : ℕ) (text : List ℕ) where
  -- a connection that was read, and the text that its Office has, or has not
  abbrev pub Told : Bool → Type 0
  Told is = Reads (standing_of old before) (standing_of new after) (Ok is) (λ o is. IsTrue is ↔ (dump_text o ≡ text))

  alone_still : (is : Bool) → Told is → HasCleanDisk new → (o : Office) → StandsAlone old o → StandsAlone new o
  alone_still is r clean o alone = record { stands = r.kept clean o alone.stands; left = λ x may. alone.left x (r.left clean x may) }

  pub same_told : Told true → HasCleanDisk new → Compares old new (λ o. dump_text o ≡ text)
  same_told r clean = record {
    was_clean = r.was_honest clean;
    stands = alone_still true r clean;
    such = λ o alone. (r.value clean o alone.stands).0 refl;
  }

  pub other_told : Told false → HasCleanDisk new → Compares old new (λ o. dump_text o ≢ text)
  other_told r clean = record {
    was_clean = r.was_honest clean;
    stands = alone_still false r clean;
    such = λ o alone same. true≢false (sym ((r.value clean o alone.stands).1 same));
  }

-- a connection that stood for an Office, and was read so
pub stands_for : (old new : State) (text : List ℕ) (o : Office) → StandsAlone old o → Compares old new (λ o. dump_text o ≡ text) → StandsForText new text
stands_for old new text o alone c = record { office = o; told = c.such o alone; stands = c.stands o alone }

pub stands_for_other : (old new : State) (text : List ℕ) (o : Office) → StandsAlone old o → Compares old new (λ o. dump_text o ≢ text) → StandsForOther new text
stands_for_other old new text o alone c = record { office = o; told = c.such o alone; stands = c.stands o alone }

-- a connection that came back
pub and_weaker : {S : Type 0} (P Q : Held S → Type 0) (left : Unopened S) → ((c : Held S) → P c → Q c) → IsConnectionAnd left P → IsConnectionAnd left Q
and_weaker P Q (Connection c) f h = f c h
and_weaker P Q (Store s) f h = h

-- what a dump of a keeper tells is loaded: it is a copy
pub copied : (source : Standing) (s : State) (d : Dumped) → DumpsAreExact → ((o : Office) → source.stands o → dumped_text d ≡ dump_text o)
    → StandsForText s (dumped_text d) → IsCopy source s
copied source s d exact told loaded o stands =
    subst (λ (p : Office). StandsAlone s p) (exact loaded.office o loaded.stands.stands.1 (source.sound o stands) (loaded.told ∙ told o stands)) loaded.stands
