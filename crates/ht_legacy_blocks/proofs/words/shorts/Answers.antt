use Rattle.std.proofs.Common.{◌≡◌, ◌^◌, ◌<◌, ℕ, ◌+◌, ◌*◌}
use Rattle.ht_capture.specs.Numbers.{unsigned_at}
use Rattle.ht_legacy_blocks.proofs.InLanes.{lanes-more}
use Rattle.ht_legacy_blocks.proofs.words.shorts.Goals as goal

pub loop-k-preserved : goal.loop-k-preserved
loop-k-preserved c =
    let holds : ℕ → ℕ → Type 0 = λ j n. (n ≡ unsigned_at c.args.octets.now (c.args.at + 2 * j)) × (n < 2 ^ 16) in
    lanes-more holds c.loop-k.lanes c.loop-k.k c.short.result c.loop-k-test.true c.loop-k.invariant (c.short.ensures.value, c.short.ensures.below)
