use Rattle.std.proofs.Common.{rules, refl, arith}
use Rattle.ht_capture.proofs.reader.Reader.ready.Goals as goal

pub returns-in_default : goal.returns-in_default
returns-in_default g c = record {
  told = search rules;
  again = λ answer e. (refl, refl, refl);
  going = refl;
  stopped = tt;
  memory = tt;
  ready = search rules;
  counts = refl;
  placed = refl;
  never_more = omega arith;
  later = search rules;
}
