-- What is read of a bundle and received is put.
use Rattle.std.proofs.Common.{◌≡◌, ◌≢◌, ℕ, ◌≤◌, List, Result, Ok, Err, OnOk, IfErr, length, map, refl, sym, ap, subst, inl, inr, ◌∙◌, arith}
use Rattle.std.proofs.lemmas.List.{length-map}
use Rattle.ht_io.specs.Devices.{Device, Grows, GrowsByPart}
use Rattle.ht_io.specs.Writing.{Growing}
use Rattle.ht_fields.specs.WholeFiles.{ReadsWhole}
use Rattle.ht_runs.specs.declared.faults.RunFault.{RunFault}
use Rattle.ht_runs.specs.declared.faults.RunFault.TheVariants.{Write}
use Rattle.ht_runs.specs.Converted.{ConversionFails, Converted, TakesWhole}
use Rattle.ht_runs.specs.Filters.{SaysNothing, WithinOutput}
use Rattle.ht_runs.proofs.Converting.{takes_whole}
use Rattle.ht_results.specs.Texts.{rx_text}
use Rattle.ht_bundles.specs.Files.{AreCaptures, bundle_of}
use Rattle.ht_bundles.specs.Formats.{bundles}
use Rattle.ht_bundles.proofs.Routes.{bundle_written}
use Rattle.ht_many.specs.Bundles.{LeavesPart, PutsOrLeavesPart, ReceivesTo, many_text, receiving, texts_from}
use Rattle.ht_many.proofs.Texts.{held_by}

-- what is held is the text of the captures
pub text_is : (captures : List (List ℕ)) (held : List (List ℕ)) → held ≡ map rx_text captures → texts_from 0 held ≡ many_text captures
unfolding many_text
text_is captures held is = ap (λ (z : List (List ℕ)). texts_from 0 z) is

-- the captures that were read, and the texts that were put
module _ (a b c d : Device ℕ) (captures held : List (List ℕ)) (read : ReadsWhole AreCaptures bundle_of a b captures)
    (same : held ≡ map rx_text captures) where
  takes : (Puts : List ℕ → Type 0) → Puts (texts_from 0 held) → TakesWhole receiving a b c d Puts
  takes Puts put =
      let comes : ReceivesTo (bundle_of captures) (texts_from 0 held) = (captures, read.0, refl, text_is captures held same) in
      takes_whole bundles WithinOutput ReceivesTo a b c (bundle_of captures) (texts_from 0 held) captures
      read.1 (bundle_written captures read.0) comes d Puts put

  why : (fault : RunFault) → GrowsByPart c d (texts_from 0 held) → LeavesPart c d fault → ConversionFails receiving a b c d fault
  why fault part (inl (is, rose)) =
      subst (λ (f : RunFault). ConversionFails receiving a b c d f) (sym is) (takes (λ xs. GrowsByPart c d xs) part, rose)
  why fault part (inr (is, steady)) =
      subst (λ (f : RunFault). ConversionFails receiving a b c d f) (sym is) (inr (takes (λ xs. GrowsByPart c d xs) part))

  pub converts : (result : Result (Unit {0}) RunFault) → PutsOrLeavesPart c d (texts_from 0 held) result → Converted receiving a b c d SaysNothing result
  converts (Ok done) puts = (takes (λ xs. Grows c d xs) puts.grown, tt)
  converts (Err fault) puts = why fault puts.part puts.cause

-- there are few texts
pub few_texts : (captures : List (List ℕ)) (sinks : List Growing) → AreCaptures captures → map held_by sinks ≡ map rx_text captures → length sinks ≤ 255
few_texts captures sinks are same =
    let as_many : length sinks ≡ length captures =
    sym (length-map sinks held_by) ∙ (ap (λ (z : List (List ℕ)). length z) same ∙ length-map captures rx_text) in
    omega (arith, as_many, are.few)

-- the sink didn't fail but where the answer says so
pub steady_else : (result : Result (Unit {0}) RunFault) (c d : Device ℕ) → OnOk result (d.faults ≡ c.faults) → IfErr result (LeavesPart c d)
    → result ≢ Err Write → d.faults ≡ c.faults
steady_else (Ok done) c d steady cause other = steady
steady_else (Err fault) c d steady (inl (is, rose)) other =
    absurd (other (ap (λ (f : RunFault). let r : Result (Unit {0}) RunFault = Err f in r) is))
steady_else (Err fault) c d steady (inr (is, same)) other = same
