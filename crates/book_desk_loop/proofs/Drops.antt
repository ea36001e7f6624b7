-- What is read to be dropped, a read at a time.
use Rattle.std.proofs.Common.{ℕ, List, [], ◌++◌, Option}
use Rattle.std.specs.Io.KnownBytes.{Consumes, Keeps}
use Rattle.std.proofs.KnownBytes.{Consumes-nil, Consumes-trans, Consumes-kept}
use Rattle.book_desk_loop.specs.Closing.{DropsSome}

pub drops_none : (a : Option (List ℕ)) → DropsSome a a
drops_none a = record { bytes = []; read = Consumes-nil a }

pub drops_kept : (a b : Option (List ℕ)) → Keeps a b → DropsSome a b
drops_kept a b kept = record { bytes = []; read = Consumes-kept a a b [] (Consumes-nil a) kept }

pub drops_these : (a b : Option (List ℕ)) (bytes : List ℕ) → Consumes a b bytes → DropsSome a b
drops_these a b bytes read = record { bytes = bytes; read = read }

pub drops_then : (a b c : Option (List ℕ)) → DropsSome a b → DropsSome b c → DropsSome a c
drops_then a b c x y = record { bytes = x.bytes ++ y.bytes; read = Consumes-trans a b c x.bytes y.bytes x.read y.read }
