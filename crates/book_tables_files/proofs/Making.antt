-- What a stop leaves of a store that is being made.
use Rattle.std.proofs.Common.{◌⊎◌, true, [], refl, subst, inl, inr, ◌∙◌}
use Rattle.std.proofs.Math.Logic.{∥∥₁_map}
use Rattle.sqlite_pages.specs.PageMap.{PageMap}
use Rattle.sqlite_wal.specs.PageSize.{IsPageSize}
use Rattle.sqlite_wal.specs.Recovery.{Image, AreWhole}
use Rattle.sqlite_pool.specs.File.{version_in, in_use}
use Rattle.sqlite_pool.specs.Opening.{IsBlankFile, IsNew}
use Rattle.sqlite_pool.specs.Stored.{Recovers}
use Rattle.sqlite_pool.specs.StoredLaws.{trimmed_whole}
use Rattle.sqlite_pool.proofs.ResealLemmas.{adopts_of}
use Rattle.sqlite_store.specs.Db.{trees_in}
use Rattle.sqlite_store.specs.Opening as store
use Rattle.sqlite_store.specs.Listed.{catalog_rows}
use Rattle.sqlite_store.specs.Listing.{all_trees, file_trees, IsOurs}
use Rattle.sqlite_store.proofs.BuildLemmas.{new_is_empty}
use Rattle.sqlite_store.proofs.ListingLemmas.{past_version, named_tree}
use Rattle.sqlite_trees.specs.Tree.{Trees}
use Rattle.sqlite.specs.Files.{HoldsDatabase, IsEmpty}
use Rattle.sqlite.proofs.ListingLemmas.{empty_is_sound}
use Rattle.book_tables_files.specs.Finding.{HasNoRow, IsUnmade}

-- pages of a store without a table
no_table : (image : Image) (pages : PageMap) → IsPageSize 512 → Recovers 512 image pages → IsOurs 512 true [] pages → (db : Trees) × HoldsDatabase image db × IsEmpty db
unfolding trees_in
no_table image pages valid found ours =
    let db = file_trees 512 [] pages in
    let unlisted = catalog_rows 512 [] (in_use 512 pages) in
    let held : HoldsDatabase image db =
    (512, valid, record { pages = pages; wanted = []; schema = _; found = adopts_of 512 image pages found; ours = ours; reads = refl; sound = empty_is_sound db unlisted }) in
    (db, held, (λ tree low. past_version tree low (all_trees 512 [] (in_use 512 pages)) (version_in pages) ∙ named_tree tree low 512 [] (in_use 512 pages), unlisted))

-- what is left on the way is a store still to be made, or one without a row
pub still_begun : (image : Image) → IsPageSize 512
    → IsBlankFile 512 image ⊎ ((pages : PageMap) × Recovers 512 image pages × (IsNew 512 pages ⊎ ∥ store.IsFresh 512 [] pages ∥₁))
    → IsUnmade image ⊎ HasNoRow image
still_begun image valid (inl blank) = inl blank
still_begun image valid (inr made) = inr (elim made.2 [
  | inl new ↦
      let whole : AreWhole 512 made.0 = subst (AreWhole 512) made.1.shows (trimmed_whole 512 made.1.stored made.1.whole) in
      let empty = new_is_empty 512 made.0 whole new in
      ∣ no_table image made.0 valid made.1 (record { file = empty.0; numbered = λ _. record { listed = empty.1; spaced = refl; ordered = refl } }) ∣₁
  | inr fresh ↦ ∥∥₁_map fresh (λ it. no_table image made.0 valid made.1 it.0)
])
