use Rattle.std.proofs.Common.{◌≡◌, ◌<◌, ◌++◌, ◌^◌, ◌∙◌, List, ℕ, ap, append_assoc, replicate, rules}
use Rattle.byteorder.specs.Endian.{big_bytes}
use Rattle.ht_cert.proofs.Halves.{lower_half}
use Rattle.ht_cert.proofs.writing.add_distance.Goals as goal

pub returns-in-Ok-clause-put : goal.returns-in-Ok-clause-put
returns-in-Ok-clause-put c =
    let held = c.args.chunk.now in
    let n = c.args.distance in
    let same : c.in-Ok.low ≡ n = search rules in
    let small : n < 2 ^ 64 = search rules in
    let zeros : c.add.new.self ≡ held ++ replicate 8 0 = search rules in
    let low : c.add-in-Ok.new.self ≡ c.add.new.self ++ big_bytes 8 n = c.add-in-Ok.ensures
    ∙ ap (λ (z : List ℕ). c.add.new.self ++ z) (c.to_be_bytes.ensures ∙ ap (big_bytes 8) same) in
    low ∙ (ap (λ (z : List ℕ). z ++ big_bytes 8 n) zeros
    ∙ (append_assoc held (replicate 8 0) (big_bytes 8 n) ∙ ap (λ (z : List ℕ). held ++ z) (lower_half n small)))

pub returns-in-Err-clause-put : goal.returns-in-Err-clause-put
returns-in-Err-clause-put c =
    c.add-in-Err.ensures ∙ ap (λ (z : List ℕ). c.args.chunk.now ++ z) c.to_be_bytes-in-Err.ensures
