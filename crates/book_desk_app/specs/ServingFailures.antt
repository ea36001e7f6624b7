-- What is told on standard error where a policy was not adopted, a stream was not served to its end, or a line of the log could not be
-- written (own profile).
use Rattle.std.specs.Prelude.{ℕ, List, codes}
use Rattle.book_machine.specs.declared.adoptions.AdoptFault.{AdoptFault}
use Rattle.book_machine.specs.declared.adoptions.AdoptFault.TheVariants.{Full, Unavailable}
use Rattle.book_wire_serving.specs.declared.faults.StreamFault.{StreamFault}
use Rattle.book_wire_serving.specs.declared.faults.StreamFault.TheVariants.{Memory, Read, Write, Log}

abbrev pub adoption_text : AdoptFault → List ℕ
adoption_text Full = codes "adopt: full"
adoption_text Unavailable = codes "adopt: unavailable"

abbrev pub stream_text : StreamFault → List ℕ
stream_text Memory = codes "stream: memory"
stream_text Read = codes "stream: read"
stream_text Write = codes "stream: write"
stream_text Log = codes "log: write"
