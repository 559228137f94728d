use Rattle.std.proofs.Common.{◌∙◌, sym}
use Rattle.ht_clean.proofs.Words.{unpacked-none}
use Rattle.ht_clean.proofs.input.unpacked_bits.Goals as goal

pub loop-at-init : goal.loop-at-init
loop-at-init c = record {
  items = c.in_ok-bits.ensures.items ∙ sym (unpacked-none c.args.pattern c.args.words.now);
  room = c.in_ok-bits.ensures.capacity;
}
