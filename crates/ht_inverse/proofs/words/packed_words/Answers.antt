use Rattle.std.proofs.Common.{◌∙◌, arith}
use Rattle.ht_inverse.proofs.Marked.{longer, marks-more}
use Rattle.ht_inverse.proofs.words.packed_words.Goals as goal

pub loop-at-preserved : goal.loop-at-preserved
loop-at-preserved c =
    let was = c.loop-at.invariant in
    record {
      count = longer c.loop-at.words.items c.push_reserved.new.self.items c.word_from.result c.loop-at.at was.count c.push_reserved.ensures.items;
      len = omega (arith, was.len, c.push_reserved.ensures.len);
      marks = marks-more c.args.octets.now c.loop-at.words.items c.push_reserved.new.self.items c.word_from.result c.loop-at.at was.count
          c.push_reserved.ensures.items c.word_from.ensures was.marks;
      capacity = c.push_reserved.ensures.capacity ∙ was.capacity;
    }
