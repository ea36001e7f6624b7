-- What is known of the bytes of an input of which a bounded front is kept.
use Rattle.std.specs.Prelude.{◌≡◌, ℕ, ◌+◌, ◌<◌, List, ◌++◌, take, Option}
use Rattle.std.specs.Io.KnownBytes.{Consumes}
use Rattle.simdutf8.specs.Tracks.{HasRead}
use Rattle.book_desk_app.specs.declared.short_texts.TextTest.{TextTest}

-- the test has these bytes: whole blocks are with the checker, and the block at hand begins with those after them
pub record HasTaken (test : TextTest) (taken : List ℕ) : Type 0 where
  pub blocks : List ℕ
  pub checked : HasRead test.checker blocks
  pub room : test.filled < 64
  pub all : taken ≡ blocks ++ take test.filled test.block

-- the reader has lost these bytes, the test has them, and of them a front is kept that is at most one longer than the bound
pub record HasKept (most : ℕ) (before now : Option (List ℕ)) (test : TextTest) (kept : List ℕ) : Type 0 where
  pub taken : List ℕ
  pub consumed : Consumes before now taken
  pub tested : HasTaken test taken
  pub front : kept ≡ take (most + 1) taken
