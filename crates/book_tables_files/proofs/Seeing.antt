-- What is found in files that were read before.
use Rattle.std.proofs.Common.{ℕ, true, ◌≤◌, sym, subst, inl, inr, arith}
use Rattle.sqlite_disk.specs.declared.Disk.{Ghosts}
use Rattle.sqlite_disk.specs.declared.Files.{Files}
use Rattle.sqlite_wal.specs.Recovery.{Image}
use Rattle.sqlite_wal.specs.Files.{outcomes}
use Rattle.sqlite_wal.specs.Reads.{AreClean, OnlyReads}
use Rattle.sqlite_wal.proofs.CleanLemmas.{both_clean}
use Rattle.sqlite_pool.specs.Stored.{reserved, stored_size, IsUnreadable, StandsAs}
use Rattle.sqlite_pool.proofs.ProbeLemmas.{not_blank}
use Rattle.sqlite_trees.specs.Tree.{Trees}
use Rattle.sqlite_store.specs.declared.store.FileStore.{FileStore}
use Rattle.sqlite_store.specs.Unopened.{state_of}
use Rattle.sqlite.specs.Held.{Held}
use Rattle.sqlite.specs.declared.file.Leftover.{Leftover}
use Rattle.sqlite.specs.declared.file.Leftover.TheVariants as left
use Rattle.sqlite.specs.Files.{AreFoundIn, BeginsWell, Finds, HoldsDatabase, IsEmpty, IsKept, IsNothing, LeavesFiles, NamesSize, SaysSums, file_state, image_of}
use Rattle.sqlite.proofs.FileLemmas.{same_image}
use Rattle.book_tables_files.specs.Finding.{FindsStore, IsUnmade, LeavesFirstOpen, TellsNew}

-- files that hold a database are none in which it has still to be made
pub holds_none : (image : Image) (db : Trees) → HoldsDatabase image db → ¬ IsUnmade image
holds_none image db held =
    let few : reserved held.0 ≤ 8 = grind arith in
    not_blank held.0 image held.2.pages held.2.found (omega (arith, held.1.0)) held.2.ours.file.sound 512 (omega arith)

module _ {D : Type 0} {g : Ghosts D} (old new : Files D) (log : OnlyReads g old.log new.log) (db : OnlyReads g old.db new.db) where
  pub clean_before : AreClean g new.log new.db → AreClean g old.log old.db
  clean_before = both_clean _ _ _ _ log.clean db.clean

  pub found_before : (c : Held (FileStore D g)) → Finds new c → Finds old c
  found_before c found =
      let same = same_image log db in
      record {
        honest = clean_before found.honest;
        holds = λ trees held. found.holds trees (subst (λ image. HoldsDatabase image trees) (sym same) held);
        reads = subst (λ image. AreFoundIn image (file_state c).committed.trees) same found.reads;
      }

  pub made_there : (c : Held (FileStore D g)) → TellsNew (image_of g old) true → AreClean g new.log new.db → IsEmpty (file_state c).committed.trees → FindsStore old c
  made_there c (blank, none) clean empty = record {
    honest = clean_before clean;
    holds = λ trees held. absurd (holds_none (image_of g old) trees held blank);
    unmade = λ _. (empty, none);
  }

  pub found_there : (c : Held (FileStore D g)) → (AreClean g new.log new.db → ¬ IsUnmade (image_of g old)) → Finds new c → FindsStore old c
  found_there c there found =
      let same = same_image log db in
      record {
        honest = clean_before found.honest;
        holds = λ trees held. found.holds trees (subst (λ image. HoldsDatabase image trees) (sym same) held);
        unmade = λ blank. absurd (there found.honest blank);
      }

  could_before : (image : Image) → outcomes g new.log new.db image → outcomes g old.log old.db image
  could_before image may = (log.crash _ may.0, db.crash _ may.1)

  kept_before : (size : ℕ) (image : Image) → IsKept g new size image → IsKept g old size image
  kept_before size image kept =
      let same = same_image log db in
      record {
        same = elim kept.same [ inl was ↦ inl (could_before image was) | inr stands ↦ inr (subst (λ start. StandsAs size start image) same stands) ];
        unread = λ unreadable. could_before image (kept.unread (subst (IsUnreadable size) (sym same) unreadable));
        something = λ never. kept.something (λ may. never (could_before image may));
      }

  pub left_before : (rest : Leftover D g) → LeavesFiles new rest → LeavesFiles old rest
  left_before (left.Files now) leaves = λ image may. could_before image (leaves image may)
  left_before (left.Unopened now) leaves =
      let same = same_image log db in
      let size = stored_size (state_of now).page_size in
      elim leaves [
        | inl made ↦ inl (
          subst IsNothing same made.0,
          λ image may. elim (made.1 image may) [ inl was ↦ inl (could_before image was) | inr way ↦ inr way ],
        )
        | inr there ↦ inr (
          λ nothing. there.0 (subst IsNothing (sym same) nothing),
          subst (λ start. NamesSize start size) same there.1,
          subst (BeginsWell size) same there.2,
          λ summed. subst (SaysSums size) same (there.3 summed),
          λ image may. kept_before _ image (there.4 image may),
        )
      ]
  left_before (left.Store now) leaves = λ found may.
      let same = same_image log db in
      let there = leaves found may in
      (subst (λ start. AreFoundIn start found) same there.0, λ trees held. there.1 trees (subst (λ start. HoldsDatabase start trees) (sym same) held))

  pub first_before : (rest : Leftover D g) → LeavesFirstOpen new rest → LeavesFirstOpen old rest
  first_before (left.Files now) leaves = λ image may. could_before image (leaves image may)
  first_before (left.Unopened now) leaves = λ image may. elim (leaves image may) [ inl was ↦ inl (could_before image was) | inr way ↦ inr way ]
  first_before (left.Store now) leaves = leaves
