use Rattle.std.proofs.Common.{◌≡◌, ◌++◌, List, ℕ, drop, map}
use Rattle.ht_io.specs.Devices.{Grows, IsLater}
use Rattle.ht_many.specs.Bundles.{texts_from}
use Rattle.ht_many.proofs.Texts.{held_by}
use Rattle.ht_many.proofs.bundle.put_texts.Given as goal

-- the octets that were put, with the texts that are left, are all
abbrev pub invariant-loop-at : goal.invariant-loop-at
invariant-loop-at g l = record {
  put : (front : List ℕ) × (front ++ texts_from l.at (drop l.at (map held_by l.texts)) ≡ texts_from 0 (map held_by l.texts))
      × Grows (g.K.Sink.shown l.fn.sink) (g.K.Sink.shown l.sink) front;
  later : IsLater (g.K.Sink.shown l.fn.sink) (g.K.Sink.shown l.sink);
  steady : (g.K.Sink.shown l.sink).faults ≡ (g.K.Sink.shown l.fn.sink).faults;
}
