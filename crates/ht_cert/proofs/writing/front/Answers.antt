use Rattle.std.proofs.Common.{◌≡◌, List, Bool, [], ◌∷◌, ◌++◌, length, flat_map, ap, ◌∙◌}
use Rattle.byteorder.specs.Endian.{big_bytes}
use Rattle.ht_metric.specs.Arrays.{legs, samples}
use Rattle.ht_metric.specs.Rows.{Row}
use Rattle.ht_capture.specs.Files.{legs_octets, sample_octets}
use Rattle.ht_cert.specs.Records.{code_of}
use Rattle.ht_cert.proofs.Written.{front_made}
use Rattle.ht_cert.proofs.writing.front.Goals as goal

pub returns-clause-put : goal.returns-clause-put
returns-clause-put c =
    let r = c.args.recorded.now in
    let a = c.add.new.self in
    let t = c.add_triangle.new.chunk in
    let s = c.add_samples.new.chunk in
    let p = c.add_points.new.chunk in
    let d = c.add_distance.new.chunk in
    let system : c.system-system.result.now ≡ r.job.system = c.system-system.ensures.system in
    let streams : c.streams.result ≡ length r.job.system = c.streams.ensures.number ∙ ap (λ (rows : List Row). length rows) system in
    front_made r a t s p d c.add-2.new.self
    (c.add.ensures ∙ (ap (λ z. z ++ (c.code.result ∷ c.streams.result ∷ [])) c.clear.ensures
    ∙ (ap (λ n. n ∷ c.streams.result ∷ []) c.code.ensures ∙ ap (λ n. code_of r.modulation ∷ n ∷ []) streams)))
    (c.add_triangle.ensures.put ∙ ap (λ (rows : List Row). a ++ legs_octets (legs rows)) system)
    (c.add_samples.ensures.put ∙ ap (λ (rows : List Row). t ++ flat_map sample_octets (samples rows)) system)
    c.add_points.ensures.put
    c.add_distance.ensures.put
    (c.add-2.ensures ∙ (ap (λ z. d ++ z) c.to_be_bytes.ensures ∙ ap (λ (m : List Bool). d ++ big_bytes 4 (length m)) c.as_slice.ensures))
