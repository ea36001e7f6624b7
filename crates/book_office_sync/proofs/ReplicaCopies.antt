-- A copy of a replica is the replica.
use Rattle.book_office_sync.proofs.Common.{◌≡◌, NamesTo, Seen}
use Rattle.std.specs.List.{AllZip}
use Rattle.std.specs.FinMap.{entries, same_entries_map}
use Rattle.std.proofs.lemmas.Map.Entries.{entries_from_clone}

pub same_copy : (D : Seen → Seen → Type 0) → ((v w : Seen) → D v w → w ≡ v) → (m n : NamesTo Seen) → AllZip (λ p q. (q.0 ≡ p.0) × D p.1 q.1) (entries m) (entries n) → n ≡ m
same_copy D same m n zip = same_entries_map n m (entries_from_clone (λ x y. y ≡ x) D (λ x y e. e) same (entries m) (entries n) zip)
