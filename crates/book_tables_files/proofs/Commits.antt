-- Whether a log holds a commit.
use Rattle.std.proofs.Common.{◌≡◌, ◌≤◌, ◌<◌, ◌==◌, ℕ, suc, Bool, true, false, not, List, [], ◌∷◌, length, None, IsTrue, inl, inr, refl, sym, subst, ◌∙◌, ◌↔◌, true≢false, zero-add, slice_index, arith}
use Rattle.std.proofs.lemmas.Bool.{eqb-true}
use Rattle.std.proofs.lemmas.Grind.{same_number_lists}
use Rattle.sqlite_disk.specs.Disk.{Holds, Torn}
use Rattle.sqlite_wal.specs.Format.{be32}
use Rattle.sqlite_wal.specs.PageSize.{IsPageSize, Names}
use Rattle.sqlite_wal.specs.Recovery.{IsCommitted, IsIgnored, Replays}
use Rattle.sqlite_wal.proofs.FormatLemmas.{be32-part}
use Rattle.book_tables_files.specs.Finding.{HoldsCommit, TellsFrame}

-- a log that holds one is not passed over
pub not_ignored : (log : List ℕ) (page_size last : ℕ) → IsCommitted page_size log (suc last) → ¬ (IsIgnored log)
not_ignored log page_size last committed (inl short) = let valid = committed.valid 0 (omega arith) in omega (arith, valid.within)
not_ignored log page_size last committed (inr unsigned) = unsigned committed.head.signed

-- where recovery takes no frame there is none
no_frame : (page_size : ℕ) (log : List ℕ) → Replays page_size log 0 → (last : ℕ) → ¬ (IsCommitted page_size log (suc last))
no_frame page_size log (inl (ignored, none)) last committed = not_ignored log page_size last committed ignored
no_frame page_size log (inr (none, quiet)) last committed =
    committed.commits last (omega arith) (quiet.quiet last (omega arith) (λ i within. committed.valid i (omega arith)))

no_commit : (page_size : ℕ) (log : List ℕ) → Replays page_size log 0 → ¬ (HoldsCommit log)
no_commit page_size log (inl (ignored, none)) (other, valid, last, committed) = not_ignored log other last committed ignored
no_commit page_size log (inr (none, quiet)) (other, valid, last, committed) =
    let same : other ≡ page_size = sym committed.head.size ∙ none.head.size in
    no_frame page_size log (inr (none, quiet)) last (subst (λ n. IsCommitted n log (suc last)) same committed)

pub commit_told : (page_size : ℕ) (log : List ℕ) (b : Bool) → IsPageSize page_size → TellsFrame page_size log b → IsTrue b ↔ HoldsCommit log
commit_told page_size log true valid (last, committed) = (λ _. (page_size, valid, last, committed), λ _. refl)
commit_told page_size log false valid none = (λ yes. absurd (true≢false (sym yes)), λ held. absurd (no_commit page_size log none held))

-- one whose header names no size of pages holds none
pub no_size : (log : List ℕ) → (¬ IsIgnored log → Names None (be32 log 8)) → ¬ (HoldsCommit log)
no_size log named (page_size, valid, last, committed) =
    let at : be32 log 8 ≡ page_size = sym (be32-part log 0 32 8 (omega arith)) ∙ committed.head.size in
    absurd (true≢false (sym ((named (not_ignored log page_size last committed)).0.1 (subst IsPageSize (sym at) valid))))

pub frame_told : (page_size : ℕ) (log numbers : List ℕ) → Replays page_size log (length numbers) → (none : Bool) → none ≡ (length numbers == 0) → TellsFrame page_size log (not none)
frame_told page_size log [] replays none is = subst (λ b. TellsFrame page_size log (not b)) (sym is) replays
frame_told page_size log (n ∷ numbers) (inl (ignored, none)) b is = absurd (omega (arith, none))
frame_told page_size log (n ∷ numbers) (inr (committed, quiet)) false is = (length numbers, committed)
frame_told page_size log (n ∷ numbers) (inr (committed, quiet)) true is = let zero : length (n ∷ numbers) ≡ 0 = eqb-true (length (n ∷ numbers)) 0 (sym is) in absurd (omega (arith, zero))

-- bytes that were written at the beginning of an empty file
pub written_is : (bytes new : List ℕ) → (0 < length bytes → Holds new 0 bytes) → Torn 0 (length bytes) [] new → new ≡ bytes
written_is [] new holds torn = same_number_lists new [] (omega (arith, torn.no_longer)) (λ k low. absurd (omega (arith, torn.no_longer, low)))
written_is (b ∷ bytes) new holds torn =
    let held = holds (omega arith) in
    same_number_lists new (b ∷ bytes) (omega (arith, torn.no_longer, held.within))
    (λ k low. subst (λ i. slice_index new i ≡ slice_index (b ∷ bytes) k) (zero-add k) (held.each k (omega (arith, low, torn.no_longer))))
