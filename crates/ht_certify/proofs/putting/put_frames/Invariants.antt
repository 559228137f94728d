use Rattle.std.proofs.Common.{drop, flat_map}
use Rattle.ht_cert.specs.Files.{record_octets}
use Rattle.ht_certify.specs.Making.{records_of_frames}
use Rattle.ht_certify.specs.Writing.{PutsFrontThrough}
use Rattle.ht_certify.proofs.putting.put_frames.Given as goal

-- the records that were made, and those of the frames that are left, are all
abbrev pub invariant-loop-frame : goal.invariant-loop-frame
invariant-loop-frame g l = record {
  passes : PutsFrontThrough l.fn.block (g.K.Sink.shown l.fn.sink) (g.K.Sink.shown l.sink)
      (flat_map record_octets (records_of_frames (drop l.frame-index l.frames))) (flat_map record_octets (records_of_frames l.frames)) l.block;
}
