-- A read of rows that give an Office tells what the Office has, and leaves them.
use Rattle.book_tables.proofs.Common.{◌≡◌, ℕ, Option, option_map, Ok, Err, refl, sym, ap, ◌∙◌, State, HasCleanDisk, Survives, Office, Path, IsPath, path_text, StoreFault, Node, failures_after_fault, node_at, rows_of, Keeps, Looks, inside_of, ReadsInside, row_at, resource_of, StandsFor}
use Rattle.book_office.specs.Resources.{node_of}
use Rattle.book_tables_rows.specs.Nodes.{ShowsEpoch}
use Rattle.book_tables.specs.Reading.{ShowsNode}
use Rattle.book_tables.proofs.LabelledNodes.{map_twice}

module _ (old new : State) (survives : Survives old new (λ _. ⊥)) (kept : Keeps old new) where
  pub read_made : {A : Type 0} (failures : ℕ) (x : A) (Tells : Office → A → Type 0) → (HasCleanDisk new → Looks old new) → (HasCleanDisk new → (o : Office) → StandsFor old o → Tells o x)
      → ReadsInside (inside_of old failures) (inside_of new failures) (Ok x) Tells
  read_made failures x Tells stays tells = record { survives = survives; kept = kept; stays = stays; value = λ h _. tells h; counted = refl; named = refl }

  pub read_failed : {A : Type 0} (before failures : ℕ) (fault : StoreFault) → failures ≡ failures_after_fault fault before → (Tells : Office → A → Type 0)
      → ReadsInside (inside_of old before) (inside_of new failures) (Err fault) Tells
  read_failed before failures fault counted Tells = record { survives = survives; kept = kept; stays = λ h. tt; value = λ h _. tt; counted = counted; named = refl }

pub epoch_told : (s : State) (epoch : ℕ) → ShowsEpoch s epoch → (o : Office) → StandsFor s o → epoch ≡ o.epoch
epoch_told s epoch shows o stands = let st = stands.0 shows.0 in shows.1 st.book o.epoch st.gives.meta

pub node_is : (s : State) (p : Path) → IsPath p → (found : Option Node) → ShowsNode s (path_text p) found → (o : Office) → StandsFor s o → found ≡ node_at o p
node_is s p is_path found shows o stands =
    let st = stands.0 shows.0 in
    let rows = rows_of s.now.trees in
    shows.1 st.book ∙ sym (map_twice (resource_of rows.entries) node_of (row_at rows (path_text p))) ∙ ap (option_map node_of) (st.gives.resources p is_path)
