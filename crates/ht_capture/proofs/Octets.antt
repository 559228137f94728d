-- Octets that were taken one after another.
use Rattle.std.proofs.Common.{◌≡◌, ℕ, List, [], ◌∷◌, ◌++◌, Option, sym, ap, subst}
use Rattle.byteorder.specs.Endian.{big_bytes}
use Rattle.ht_io.specs.Pieces.{KnownTaken}
use Rattle.ht_io.proofs.Pieces.{taken-append}
use Rattle.ht_heads.specs.Heads.{start_octets}
use Rattle.ht_capture.specs.Fields.{capture_magic}
use Rattle.ht_capture.specs.Files.{capture_start}

pub takes_as : (old new : Option (List ℕ)) (xs ys : List ℕ) → xs ≡ ys → KnownTaken old new xs → KnownTaken old new ys
takes_as old new xs ys e t = subst (λ (z : List ℕ). KnownTaken old new z) e t

-- what stands in front of the frames
pub takes_start : (read version count : ℕ) (old a b new : Option (List ℕ)) → KnownTaken old a capture_magic → KnownTaken a b (read ∷ [])
    → KnownTaken b new (big_bytes 2 count) → version ≡ read → KnownTaken old new (capture_start version count)
unfolding start_octets
takes_start read version count old a b new x y z same =
    takes_as old new _ _ (ap (λ v. capture_magic ++ (v ∷ big_bytes 2 count)) (sym same))
    (taken-append old a new capture_magic (read ∷ big_bytes 2 count) x (taken-append a b new (read ∷ []) (big_bytes 2 count) y z))
