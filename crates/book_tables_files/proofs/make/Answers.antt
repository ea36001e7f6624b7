use Rattle.std.proofs.Common.{◌≡◌, ap, sym, subst, subst₂, inl, inr, ◌∙◌}
use Rattle.sqlite_wal.specs.Files.{outcomes, seen_image}
use Rattle.sqlite_wal.specs.PageSize.{IsPageSize}
use Rattle.sqlite_wal.specs.Reads.{AreClean, are_clean}
use Rattle.sqlite_pool.specs.Opening.{IsBlankFile}
use Rattle.sqlite_trees.proofs.Doubt.{no_doubt}
use Rattle.sqlite_store.specs.Listed.{catalog_rows}
use Rattle.sqlite_store.specs.Listing.{listed_from}
use Rattle.sqlite_store.specs.Unopened.{image, state_of}
use Rattle.sqlite.specs.Files.{image_of}
use Rattle.sqlite.proofs.OpenLemmas.{pool_files}
use Rattle.book_tables_files.proofs.Making.{still_begun}
use Rattle.book_tables_files.proofs.make.Goals as goal

pub returns-in-Ok-create-clause-made : goal.returns-in-Ok-create-clause-made
returns-in-Ok-create-clause-made g c clean =
    let before = c.in-Ok.ensures in
    let made = c.in-Ok-create.ensures in
    let sure = no_doubt _ clean in
    record {
      honest = sym ((pool_files c.in-Ok.unopened.pool).1 ∙ ap (λ pair. are_clean g.D.Disk pair.0 pair.1) before.files) ∙ made.honest clean;
      fresh = record { sound = made.ready.sound sure; numbered = made.numbered; clean = made.ready.clean; unmarked = made.ready.unmarked };
      is_open = made.ready.is_open sure;
      empty = (
        λ tree low. ap (λ trees. trees tree) made.ready.clean ∙ made.empty clean tree low,
        rw clean (catalog_rows _ _ _ ∙ ap (listed_from 0) (made.schema ∙ before.none)),
      );
    }

pub returns-in-Err-create-clause-begun : goal.returns-in-Err-create-clause-begun
returns-in-Err-create-clause-begun g c clean =
    let files = c.args.files in
    let given = c.args.size in
    let fresh = c.in-Ok.unopened in
    let made = c.in-Ok.ensures in
    let before : AreClean g.D.Disk files.log files.db =
    sym ((pool_files fresh.pool).1 ∙ ap (λ pair. are_clean g.D.Disk pair.0 pair.1) made.files) ∙ c.in-Err-create.ensures.falls clean in
    let size : (state_of fresh).page_size ≡ 512 = made.size ∙ c.requires.size in
    let seen : image fresh ≡ image_of g.D.Disk files = ap (λ pair. seen_image g.D.Disk pair.0 pair.1) made.files in
    let blank : IsBlankFile (state_of fresh).page_size (image fresh) = subst₂ IsBlankFile (sym size) (sym seen) (c.requires.unmade before) in
    let valid : IsPageSize 512 = subst IsPageSize c.requires.size (given.smallest, given.largest, given.power, given.aligned) in (
      before,
      λ left may. elim ((c.in-Err-create.ensures.unharmed clean).blank blank left may) [
        | inl was ↦ inl (subst (λ pair. outcomes g.D.Disk pair.0 pair.1 left) made.files ((pool_files fresh.pool).2 left was))
        | inr way ↦ inr (still_begun left valid (rw (size, made.none) at way))
      ],
    )
