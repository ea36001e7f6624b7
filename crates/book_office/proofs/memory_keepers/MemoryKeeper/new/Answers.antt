use Rattle.book_office.proofs.NewOffices.{empty_sound}
use Rattle.book_office.proofs.memory_keepers.MemoryKeeper.new.Goals as goal

pub returns-clause-sound : goal.returns-clause-sound
returns-clause-sound c =
    rw (c.empty.ensures, c.empty-2.ensures, c.empty-3.ensures, c.empty-4.ensures, c.new.ensures, c.new-2.ensures, c.new-3.ensures, c.new-4.ensures) empty_sound
