-- Reads behind what is remembered.
use Rattle.book_office_cache.proofs.Common.{◌≡◌, Ok, ap, ◌∙◌, Remembers, Reads, Standing, Office}
use Rattle.std.proofs.Common.{◌++◌, Result, Err, refl}
use Rattle.std.proofs.lemmas.Result.{IfOk-weaker}
use Rattle.book_office_cache.specs.Remembering.{Follows, Forgets, Held, Learns, remembering}
use Rattle.book_office.specs.Keeping.{Edits, FallsBack, failures_after}
use Rattle.book_office.specs.declared.edits.Edit.{Edit}
use Rattle.book_office.specs.declared.keepers.StoreFault.{StoreFault}
use Rattle.book_office.specs.declared.keepers.StoreFault.TheVariants.{Memory}
use Rattle.book_office.proofs.Fallbacks.{still_falls, then_falls}

-- the references of both stay the same
pub behind_falls : (old new : Standing) (r more : Held) → more.names ≡ r.names → FallsBack old.fallback new.fallback → FallsBack (remembering old r).fallback (remembering new more).fallback
behind_falls old new r more names falls = record { names = λ i. names i ++ falls.names i; stands = falls.stands; left = falls.left }

-- what is told, said otherwise
pub learns_weaker : {old new : Held} {T U : Office → Type 0} → ((o : Office) → U o → T o) → Learns old new T → Learns old new U
learns_weaker so learns = record { names = learns.names; remembers = λ o remembers is. learns.remembers o remembers (so o is) }

-- what is remembered was true before, and is what is told
pub read_remembered : {A : Type 0} (kept : Standing) (r : Held) (x : A) (T : Office → A → Type 0) → ((o : Office) → Remembers r.remembered o → T o x)
    → Reads (remembering kept r) (remembering kept r) (Ok x) T
read_remembered kept r x T tells = record {
  was_honest = λ h. h;
  falls = still_falls;
  value = λ h o stands. tells o stands.1;
  kept = λ h o stands. stands;
  left = λ h x left. left;
  counted = refl;
}

-- memory was refused before the keeper was asked
pub refused : {A : Type 0} (kept : Standing) (T : Office → A → Type 0) → Reads kept kept (Err Memory) T
refused kept T = record {
  was_honest = λ h. h;
  falls = still_falls;
  value = λ h. tt;
  kept = λ h o stands. stands;
  left = λ h x left. left;
  counted = refl;
}

-- the keeper was asked, and nothing more is remembered
pub read_behind : {A : Type 0} (old new : Standing) (r : Held) (result : Result A StoreFault) (T : Office → A → Type 0)
    → Reads old new result T → Reads (remembering old r) (remembering new r) result T
read_behind old new r result T read = record {
  was_honest = read.was_honest;
  falls = behind_falls old new r r refl read.falls;
  value = λ h. IfOk-weaker result (λ x. (o : Office) → old.stands o → T o x) (λ x. (o : Office) → old.stands o × Remembers r.remembered o → T o x) (λ x tells o stands. tells o stands.0) (read.value h);
  kept = λ h o stands. (read.kept h o stands.0, stands.1);
  left = read.left;
  counted = read.counted;
}

-- the keeper answered, and more is remembered
pub read_kept : {A : Type 0} (old new : Standing) (r more : Held) (x : A) (T : Office → A → Type 0)
    → Reads old new (Ok x) T → Learns r more (λ o. T o x) → Reads (remembering old r) (remembering new more) (Ok x) T
read_kept old new r more x T read learns = record {
  was_honest = read.was_honest;
  falls = behind_falls old new r more learns.names read.falls;
  value = λ h o stands. read.value h o stands.0;
  kept = λ h o stands. (read.kept h o stands.0, learns.remembers o stands.1 (read.value h o stands.0));
  left = read.left;
  counted = read.counted;
}

-- a read after one that answered
pub reads_then : {A B : Type 0} (old mid new : Standing) (x : A) (r : Result B StoreFault) (T : Office → A → Type 0) (U V : Office → B → Type 0)
    → Reads old mid (Ok x) T → Reads mid new r U
    → ((o : Office) → T o x → (y : B) → U o y → V o y) → Reads old new r V
reads_then old mid new x r T U V first second both = record {
  was_honest = λ h. first.was_honest (second.was_honest h);
  falls = then_falls first.falls second.falls;
  value = λ h. let was = second.was_honest h in
      IfOk-weaker r (λ y. (o : Office) → mid.stands o → U o y) (λ y. (o : Office) → old.stands o → V o y)
      (λ y tells o stands. both o (first.value was o stands) y (tells o (first.kept was o stands))) (second.value h);
  kept = λ h o stands. let was = second.was_honest h in second.kept h o (first.kept was o stands);
  left = λ h x left. first.left (second.was_honest h) x (second.left h x left);
  counted = second.counted ∙ ap (failures_after r) first.counted;
}

-- what is told, said otherwise
pub reads_weaker : {A B : Type 0} (old new : Standing) (x : A) (y : B) (T : Office → A → Type 0) (V : Office → B → Type 0)
    → Reads old new (Ok x) T → ((o : Office) → T o x → V o y) → Reads old new (Ok y) V
reads_weaker old new x y T V first both = record {
  was_honest = first.was_honest;
  falls = first.falls;
  value = λ h o stands. both o (first.value h o stands);
  kept = first.kept;
  left = first.left;
  counted = first.counted;
}

-- want of memory after a read
pub reads_refused : {A B : Type 0} (old new : Standing) (x : A) (T : Office → A → Type 0) (V : Office → B → Type 0)
    → Reads old new (Ok x) T → Reads old new (Err Memory) V
reads_refused old new x T V first = record {
  was_honest = first.was_honest;
  falls = first.falls;
  value = λ h. tt;
  kept = first.kept;
  left = first.left;
  counted = first.counted;
}

-- a read that failed
pub reads_failed : {A B : Type 0} (old new : Standing) (f : StoreFault) (T : Office → A → Type 0) (V : Office → B → Type 0)
    → Reads {A = A} old new (Err f) T → Reads {A = B} old new (Err f) V
reads_failed old new f T V read = record {
  was_honest = read.was_honest;
  falls = read.falls;
  value = λ h. tt;
  kept = read.kept;
  left = read.left;
  counted = read.counted;
}

-- an edit that was made behind what is remembered, of which what is true after it stays
pub edit_made : (old new : Standing) (before r : Held) (edit : Edit) → Follows before r edit
    → Edits old new (Ok tt) edit → Edits (remembering old before) (remembering new r) (Ok tt) edit
edit_made old new before r edit follows made = record {
  was_honest = made.was_honest;
  falls = behind_falls old new before r follows.names made.falls;
  made = λ h o stands fits. (made.made h o stands.0 fits, follows.remembers o stands.1);
  kept = λ h. tt;
  left_made = λ h o stands. made.left_made h o stands.0;
  left_kept = λ h. tt;
  counted = made.counted;
}

-- an edit that failed, after which nothing is remembered
pub edit_failed : (old new : Standing) (before r : Held) (e : StoreFault) (edit : Edit) → Forgets before r
    → Edits old new (Err e) edit → Edits (remembering old before) (remembering new r) (Err e) edit
edit_failed old new before r e edit forgets made = record {
  was_honest = made.was_honest;
  falls = behind_falls old new before r forgets.names made.falls;
  made = λ h. tt;
  kept = λ h o stands. (made.kept h o stands.0, forgets.nothing o);
  left_made = λ h. tt;
  left_kept = λ h o stands. made.left_kept h o stands.0;
  counted = made.counted;
}
