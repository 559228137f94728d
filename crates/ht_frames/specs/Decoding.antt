-- Where the results of frames come from that are being decoded.
use Rattle.std.specs.Prelude.{◌≡◌, IfOk}
use Rattle.std.specs.Arc.{arc_value}
use Rattle.ht_frames.specs.declared.decoding.ResultSource.{ResultSource}
use Rattle.ht_frames.specs.declared.decoding.ResultSource.TheVariants.{Workers, Done}

-- the workers have this frame, or what came of it is its result, unless memory ran out
abbrev pub WorksOut : {W T : Type 0} → (W → T) → W → ResultSource W T → Type 0
WorksOut result f (Workers number frame) = arc_value frame ≡ f
WorksOut result f (Done outcome) = IfOk outcome (λ r. r ≡ result f)
