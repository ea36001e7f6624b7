use Rattle.std.proofs.Common.{true≢false, ◌∙◌, sym, subst}
use Rattle.book_tables_files.specs.Finding.{HoldsCommit}
use Rattle.book_tables_files.proofs.Seeing.{clean_before}
use Rattle.book_tables_files.proofs.is_new.Goals as goal

pub returns-clause-ok : goal.returns-clause-ok
returns-clause-ok g c clean =
    let before = clean_before c.is_unmade.new.files c.holds_commit.new.files c.holds_commit.ensures.log c.holds_commit.ensures.db clean in (
      (c.in_ok-is_unmade.ensures.ok before).0 c.if-not-branch.false,
      λ held.
          let yes = (c.in_ok-holds_commit.ensures.ok clean).1 (subst HoldsCommit (sym c.is_unmade.ensures.log.seen) held) in
          true≢false (sym yes ∙ c.if-branch.false),
    )
