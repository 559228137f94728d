-- What the command `many` writes for a bundle.
use Rattle.std.specs.Prelude.{◌≡◌, ◌⊎◌, ℕ, ◌+◌, List, [], ◌∷◌, ◌++◌, map, Result, IfErr, OnErr, OnOk}
use Rattle.ht_io.specs.Devices.{Device, Grows, GrowsByPart, IsLater, Rose}
use Rattle.ht_bundles.specs.Files.{AreCaptures, bundle_of}
use Rattle.ht_bundles.specs.Formats.{bundles}
use Rattle.ht_results.specs.Texts.{rx_text}
use Rattle.ht_runs.specs.Filters.{Conversion, WithinOutput}
use Rattle.ht_runs.specs.Formats.{conversion}
use Rattle.ht_runs.specs.declared.faults.RunFault.{RunFault}
use Rattle.ht_runs.specs.declared.faults.RunFault.TheVariants.{NoMemory, Write}
use Rattle.ht_text.specs.Lines.{capture_text}

-- the line `capture K` and behind it a text, for each text, numbered from a number on
abbrev pub texts_from : ℕ → List (List ℕ) → List ℕ
texts_from number [] = []
texts_from number (text ∷ texts) = (capture_text number ++ text) ++ texts_from (number + 1) texts

-- the text of the captures of a bundle
unfoldable pub many_text : List (List ℕ) → List ℕ
many_text captures = texts_from 0 (map rx_text captures)

-- why a text was put in part: the sink failed, or memory ran out and the sink didn't fail
abbrev pub LeavesPart : Device ℕ → Device ℕ → RunFault → Type 0
LeavesPart before after fault = ((fault ≡ Write) × Rose before after) ⊎ ((fault ≡ NoMemory) × (after.faults ≡ before.faults))

-- what a call leaves that puts a text and takes memory for it: all of the text was put, or a part of it
pub record PutsOrLeavesPart {A : Type 0} (before after : Device ℕ) (text : List ℕ) (result : Result A RunFault) : Type 0 where
  pub grown : OnOk result (Grows before after text)
  pub steady : OnOk result (after.faults ≡ before.faults)
  pub part : OnErr result (GrowsByPart before after text)
  pub cause : IfErr result (LeavesPart before after)
  pub later : IsLater before after

-- a bundle of captures, and what is written of it
abbrev pub ReceivesTo : List ℕ → List ℕ → Type 0
ReceivesTo octets output =
    (captures : List (List ℕ)) × AreCaptures captures × (octets ≡ bundle_of captures) × (output ≡ many_text captures)

-- A bundle is read, and put is the text of its captures. Memory is also taken while it is put, for the lines between them:
-- where it runs out then, a part was put.
abbrev pub receiving : Conversion
receiving = conversion bundles WithinOutput ReceivesTo
