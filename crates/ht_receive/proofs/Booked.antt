-- A run that a receiver with workers took began with this device and this frame under way.
use Rattle.std.proofs.Common.{◌≡◌, ℕ, List, [], MatchResult, Result, ap, subst, ◌∙◌}
use Rattle.ht_io.specs.Devices.{Device}
use Rattle.ht_fields.specs.Meanings.{Meaning}
use Rattle.ht_runs.specs.declared.faults.RunFault.{RunFault}
use Rattle.ht_feed.specs.declared.ended.Ended.{Ended}
use Rattle.ht_feed.specs.Consumers.{Telling}
use Rattle.ht_feed.specs.Items.{Headed, Item}
use Rattle.ht_feed.specs.Outcomes.{Comes, StopsAs, EndsWhole, pieces_of}
use Rattle.ht_feed.specs.Reading.{view}
use Rattle.ht_frames.specs.Gathering.{booked_behind, booked_in}
use Rattle.ht_receive.specs.Receiving.{books}

-- what a receiver with workers puts in all, where these frames are whole; what waits is not spoken of
abbrev pub behind : {H W T P : Type 0} → (W → T) → (T → List P) → List W → (List (Headed H) → List T) → Device P → Telling H P
behind result_of booked whole results device =
    record { device = device; pieces = booked_behind result_of booked whole results; Waits = λ due. Unit {0} }

module _ {R H T P : Type 0} (means : R → List ℕ → Meaning (Item H)) (at : R → ℕ) (reader : R) (head : H) (source source' : Device ℕ)
    (booked : T → List P) where
  -- it keeps no whole frame yet
  pub gathered : {U W : Type 0} (results : U → List (Headed H) → List T) (result_of : W → T) (whole : List W) (d e : Device P) (v u : U)
      (after : Telling H P) (result : Result Ended RunFault) → whole ≡ [] → d ≡ e → v ≡ u
      → Comes means at reader head source source' (behind result_of booked whole (results v) d) after result
      → Comes means at reader head source source' (books booked (results u) e) after result
  gathered {U = U} {W = W} results result_of whole d e v u after result none devices frames comes =
      let kept : booked_behind result_of booked whole (results v) ≡ booked_in booked (results u) =
      ap (λ (fs : List W). booked_behind result_of booked fs (results v)) none ∙ ap (λ (x : U). booked_in booked (results x)) frames in
      let start = view means at reader source in
      subst (λ (k : Device P). Comes means at reader head source source' (books booked (results u) k) after result) devices
      (subst (λ (p : List (Headed H) → List P).
      MatchResult result (EndsWhole start (pieces_of p head start) source' d after.device)
      (StopsAs start (pieces_of p head start) source' d after.device)) kept comes)
