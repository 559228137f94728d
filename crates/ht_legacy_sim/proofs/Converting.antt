-- What is read and passes the channel is put.
use Rattle.std.proofs.Common.{◌≡◌, ◌≢◌, ◌⊎◌, ℕ, List, Result, Ok, Err, OnOk, OnErr, IfErr, refl, sym, ap, subst, inl, inr}
use Rattle.ht_io.specs.Devices.{Device, Grows, GrowsByPart, Rose}
use Rattle.ht_fields.specs.WholeFiles.{ReadsWhole}
use Rattle.ht_runs.specs.declared.faults.RunFault.{RunFault}
use Rattle.ht_runs.specs.declared.faults.RunFault.TheVariants.{NoMemory, Write}
use Rattle.ht_runs.specs.Converted.{ConversionFails, Converted, TakesWhole}
use Rattle.ht_runs.specs.Filters.{SaysNothing, WithinOutput}
use Rattle.ht_runs.proofs.Converting.{takes_whole}
use Rattle.ht_clause18.specs.Frames.{LegacyFrameView}
use Rattle.ht_legacy_files.specs.Files.{AreFrames, frames_file_of}
use Rattle.ht_legacy_files.specs.Formats.{frames as frames_format}
use Rattle.ht_legacy_files.proofs.Routes.{frames_written}
use Rattle.ht_legacy_files.specs.CaptureFiles.{captures_file_of}
use Rattle.ht_legacy_sim.specs.Drawing.{captures_of}
use Rattle.ht_legacy_sim.specs.Passing.{PassesTo, passing}

-- why a part was put: the sink failed, or memory ran out and the sink didn't fail
abbrev Cause : Device ℕ → Device ℕ → RunFault → Type 0
Cause c d fault = ((fault ≡ Write) × Rose c d) ⊎ ((fault ≡ NoMemory) × (d.faults ≡ c.faults))

-- the frames that were read, and those whose capture was put
module _ (seed noise : ℕ) (a b c d : Device ℕ) (frames held : List LegacyFrameView)
    (read : ReadsWhole AreFrames frames_file_of a b frames) (same : held ≡ frames) where
  takes : (Puts : List ℕ → Type 0) → Puts (captures_file_of (captures_of seed noise held)) → TakesWhole (passing seed noise) a b c d Puts
  takes Puts put =
      let comes : PassesTo seed noise (frames_file_of frames) (captures_file_of (captures_of seed noise held)) =
      (frames, read.0, refl, ap (λ (fs : List LegacyFrameView). captures_file_of (captures_of seed noise fs)) same) in
      takes_whole frames_format WithinOutput (PassesTo seed noise) a b c (frames_file_of frames) (captures_file_of (captures_of seed noise held)) frames
      read.1 (frames_written frames read.0) comes d Puts put

  why : (fault : RunFault) → GrowsByPart c d (captures_file_of (captures_of seed noise held)) → Cause c d fault
      → ConversionFails (passing seed noise) a b c d fault
  why fault part (inl (is, rose)) =
      subst (λ (f : RunFault). ConversionFails (passing seed noise) a b c d f) (sym is) (takes (λ xs. GrowsByPart c d xs) part, rose)
  why fault part (inr (is, steady)) =
      subst (λ (f : RunFault). ConversionFails (passing seed noise) a b c d f) (sym is) (inr (takes (λ xs. GrowsByPart c d xs) part))

  pub converts : (result : Result (Unit {0}) RunFault) → OnOk result (Grows c d (captures_file_of (captures_of seed noise held)))
      → OnErr result (GrowsByPart c d (captures_file_of (captures_of seed noise held))) → IfErr result (Cause c d)
      → Converted (passing seed noise) a b c d SaysNothing result
  converts (Ok done) grown part cause = (takes (λ xs. Grows c d xs) grown, tt)
  converts (Err fault) grown part cause = why fault part cause

-- the sink didn't fail but where the answer says so
pub steady_else : (result : Result (Unit {0}) RunFault) (c d : Device ℕ) → OnOk result (d.faults ≡ c.faults) → IfErr result (Cause c d)
    → result ≢ Err Write → d.faults ≡ c.faults
steady_else (Ok done) c d steady cause other = steady
steady_else (Err fault) c d steady (inl (is, rose)) other =
    absurd (other (ap (λ (f : RunFault). let r : Result (Unit {0}) RunFault = Err f in r) is))
steady_else (Err fault) c d steady (inr (is, same)) other = same
