-- What a client still sends after its last reply (RFC 9112, section 9.6).
use Rattle.std.specs.Prelude.{ℕ, List, Option}
use Rattle.std.specs.Io.KnownBytes.{Consumes}

-- some bytes were read
pub record DropsSome (old new : Option (List ℕ)) : Type 0 where
  pub bytes : List ℕ
  pub read : Consumes old new bytes
