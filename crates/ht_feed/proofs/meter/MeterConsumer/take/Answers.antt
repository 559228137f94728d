use Rattle.std.proofs.Common.{List, ℕ, map, ap, refl, subst, ◌∙◌}
use Rattle.ht_io.specs.Devices.{Grows, GrowsByPart}
use Rattle.ht_metric.specs.declared.found.Found.{Found}
use Rattle.ht_feed.specs.Meters.{octet_of}
use Rattle.ht_feed.proofs.Measuring.{part, puts}
use Rattle.ht_feed.proofs.meter.MeterConsumer.take.Goals as goal

pub returns-in-Ok-clause-books : goal.returns-in-Ok-clause-books
returns-in-Ok-clause-books g c =
    let a = g.K.Sink.shown c.args.self.now.sink in
    let b = g.K.Sink.shown c.put.new.self in
    let made = c.in_ok-octets.ensures ∙ ap (λ (fs : List Found). map octet_of fs) c.as_slice.ensures.value in
    let e = c.in-Ok.ensures in
    record {
      put = puts c.args.arg2.now (g.R.Block.Jobs.jobs c.args.arg3.now) c.args.hits.now.found.items c.in_ok-octets.octets.items c.requires.right.are made a b
          (subst (λ (ns : List ℕ). Grows a b ns) c.as_slice-2.ensures.value e.grown);
      part = tt;
      faults = record { steady = e.steady; cause = tt; unfailed = tt; later = e.later; same = refl };
    }

pub returns-clause-books : goal.returns-clause-books
returns-clause-books g c =
    let a = g.K.Sink.shown c.args.self.now.sink in
    let b = g.K.Sink.shown c.put.new.self in
    let made = c.in_ok-octets.ensures ∙ ap (λ (fs : List Found). map octet_of fs) c.as_slice.ensures.value in
    let e = c.in-Err.ensures in
    record {
      put = tt;
      part = part c.args.arg2.now (g.R.Block.Jobs.jobs c.args.arg3.now) c.args.hits.now.found.items c.in_ok-octets.octets.items c.requires.right.are made a b
          (subst (λ (ns : List ℕ). GrowsByPart a b ns) c.as_slice-2.ensures.value e.part);
      faults = record { steady = tt; cause = λ failed. e.cause; unfailed = λ lack. cc; later = e.later; same = refl };
    }
