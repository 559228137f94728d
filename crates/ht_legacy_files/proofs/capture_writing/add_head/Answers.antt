use Rattle.std.proofs.Common.{◌∷◌, ◌++◌, ℕ, List, take, flat_map, ap, ◌∙◌, append_assoc, arith}
use Rattle.std.proofs.lemmas.List.{take_all}
use Rattle.byteorder.specs.Endian.{big_bytes}
use Rattle.ht_clause18.specs.Rates.{index_of}
use Rattle.ht_legacy_files.specs.CaptureFiles.{head_octets}
use Rattle.ht_legacy_files.proofs.capture_writing.add_head.Goals as goal

pub returns : goal.returns
unfolding head_octets
returns c =
    let front : List ℕ = index_of c.args.rate ∷ big_bytes 2 c.args.octets in
    let ds : List ℕ = c.args.diagonals.now in
    let k = c.loop-diagonal.diagonal-index in
    c.loop-diagonal.invariant.put
    ∙ append_assoc c.args.chunk.now front (flat_map (big_bytes 2) (take k ds))
    ∙ ap (λ (ns : List ℕ). c.args.chunk.now ++ (front ++ flat_map (big_bytes 2) ns)) (take_all k ds (omega (arith, c.loop-diagonal-test.false)))
