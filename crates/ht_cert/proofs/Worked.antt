-- Octets of files of certificates, by computation.
use Rattle.std.specs.Prelude.{◌≡◌, pos, negsuc, [], ◌∷◌, refl}
use Rattle.ht_heads.specs.Starts.{started_octets}
use Rattle.ht_cert.specs.Files.{point_octets}
use Rattle.ht_cert.specs.Records.{claim_width}
use Rattle.ht_cert.specs.Files.{records_start}

start : records_start 1 ≡ 72 ∷ 84 ∷ 67 ∷ 84 ∷ 1 ∷ 0 ∷ 0 ∷ 0 ∷ 0 ∷ 0 ∷ 0 ∷ 0 ∷ 1 ∷ []
unfolding started_octets
start = refl

point : point_octets (record { i = pos 1; q = negsuc 0 }) ≡ 1 ∷ 255 ∷ []
point = refl

widths : claim_width 1 ≡ 28
widths = refl

widest : claim_width 4 ≡ 88
widest = refl
