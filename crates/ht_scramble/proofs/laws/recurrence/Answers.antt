use Rattle.ht_scramble.proofs.Shifts.{delayed-start, delayed-seven, sequence-next, sequence-later}
use Rattle.ht_scramble.proofs.laws.recurrence.Goals as goal

pub returns : goal.returns
returns c = record { start = delayed-start; delay = delayed-seven; next = sequence-next; later = sequence-later }
