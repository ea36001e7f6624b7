use Rattle.book_desk_doctor.proofs.Common.{rules}
use Rattle.book_desk_doctor.proofs.doctoring.write_counts.Goals as goal

pub returns-clause-written : goal.returns-clause-written
returns-clause-written g c = record {
  dumped = c.in-Ok.dumped;
  its = c.in-Ok.ensures.read.told;
  written = search rules;
}
