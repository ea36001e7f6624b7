-- What is left where a transaction is not kept, over calls one after the other.
use Rattle.book_office.proofs.Common.{refl, ◌∙◌}
use Rattle.book_office.specs.Keeping.{Fallback, FallsBack}

pub still_falls : {a : Fallback} → FallsBack a a
still_falls = record { names = refl; stands = λ o stands. stands; left = λ x left. left }

pub then_falls : {a b c : Fallback} → FallsBack a b → FallsBack b c → FallsBack a c
then_falls first second = record {
  names = second.names ∙ first.names;
  stands = λ o stands. second.stands o (first.stands o stands);
  left = λ x left. first.left x (second.left x left);
}
