-- A job on a data subcarrier has a nearest vector with a point for each stream, and so a label for each stream.
use Rattle.std.proofs.Common.{◌≡◌, ℕ, suc, ◌+◌, ◌-◌, ◌<◌, List, [], ◌∷◌, length, map, slice_index_or, true, inl, inr, rules, refl, sym, ap, subst, ◌∙◌, arith}
use Rattle.std.specs.List.{range_with_len}
use Rattle.std.proofs.lemmas.List.{length-replicate}
use Rattle.std.proofs.lemmas.List.Elements.{All-replicate}
use Rattle.ht_rate.specs.declared.kinds.Carrier.TheVariants.{Data}
use Rattle.ht_rate.specs.declared.kinds.Modulation.{Modulation}
use Rattle.ht_rate.specs.declared.kinds.Modulation.TheVariants.{Bpsk, Qpsk, Qam16, Qam64}
use Rattle.ht_rate.specs.declared.rates.Rate.{Rate}
use Rattle.ht_rate.specs.Carriers.{carrier_of}
use Rattle.ht_rate.specs.Rates.{modulation_of, streams_of}
use Rattle.ht_rate.proofs.RateFacts.{streams_of-range}
use Rattle.ht_map.specs.Constellation.{axes_of, grid_of}
use Rattle.ht_pam.specs.declared.axes.Axes.{Axes}
use Rattle.ht_pam.specs.declared.point.Point.{Point}
use Rattle.ht_pam.specs.Grids.{AreLadders, IsGrid}
use Rattle.ht_metric.specs.Jobs.{JobView, near}
use Rattle.ht_metric.specs.Vectors.{is_in, no_point}
use Rattle.ht_metric.proofs.Finding.{is_near}
use Rattle.ht_metric.proofs.Allowed.{long_as_grid}
use Rattle.ht_capture.specs.Frames.{grid_at, grid_for}
use Rattle.ht_capture.specs.declared.items.FrameHead.{FrameHead}
use Rattle.ht_capture_laws.specs.Items.{IsJobOf}
use Rattle.ht_results.specs.Folding.{label_at}
use Rattle.ht_results.specs.Labels.{stream_label}

-- the grid of a rate
pub ladders : (m : Modulation) → AreLadders (axes_of m)
unfolding axes_of
ladders Bpsk = record {
  i = record { size = inr (inl refl); some = omega arith; within = omega arith };
  q = record { size = inl refl; some = omega arith; within = omega arith };
}
ladders Qpsk = record {
  i = record { size = inr (inl refl); some = omega arith; within = omega arith };
  q = record { size = inr (inl refl); some = omega arith; within = omega arith };
}
ladders Qam16 = record {
  i = record { size = inr (inr (inl refl)); some = omega arith; within = omega arith };
  q = record { size = inr (inr (inl refl)); some = omega arith; within = omega arith };
}
ladders Qam64 = record {
  i = record { size = inr (inr (inr refl)); some = omega arith; within = omega arith };
  q = record { size = inr (inr (inr refl)); some = omega arith; within = omega arith };
}

pub grid_length : (r : Rate) → length (grid_of r) ≡ streams_of r
unfolding grid_of
grid_length r = length-replicate (streams_of r) (axes_of (modulation_of r))

pub grid_good : (r : Rate) → IsGrid (grid_of r)
unfolding grid_of
grid_good r =
    let long = length-replicate (streams_of r) (axes_of (modulation_of r)) in
    let range = streams_of-range r in
    record {
      some = omega (arith, long, range);
      few = omega (arith, long, range);
      ladders = All-replicate AreLadders (streams_of r) (axes_of (modulation_of r)) (ladders (modulation_of r));
    }

near_long : (job : JobView) → IsGrid job.grid → length (near job).vector ≡ length job.grid
near_long job grid =
    let is = (is_near job grid).within in
    let yes : is_in job.grid (near job).vector ≡ true = search (rules, is) in
    long_as_grid job.grid (near job).vector yes

data_grid : (head : FrameHead) (job : JobView) (m : ℕ) → carrier_of head.rate job.place.carrier ≡ Data m → IsJobOf head job → job.grid ≡ grid_of head.rate
unfolding grid_at
data_grid head job m is of = of.grid ∙ ap (grid_for head.rate job.place.symbol) is

pub vector_long : (head : FrameHead) (job : JobView) (m : ℕ) → carrier_of head.rate job.place.carrier ≡ Data m → IsJobOf head job
    → length (near job).vector ≡ streams_of head.rate
vector_long head job m is of =
    let grid = data_grid head job m is of in
    near_long job (subst IsGrid (sym grid) (grid_good head.rate)) ∙ (ap (λ (g : List Axes). length g) grid ∙ grid_length head.rate)

-- the labels of a vector, stream by stream
by_number : (f : Point → ℕ) (g : ℕ → Point) (points : List Point) (a : ℕ)
    → ((i : ℕ) → i < length points → g (a + i) ≡ slice_index_or points i no_point)
    → map (λ s. f (g s)) (range_with_len a (length points)) ≡ map f points
by_number f g [] a same = refl
by_number f g (p ∷ points) a same =
    let here : a + 0 ≡ a = omega arith in
    ap (λ (z : List ℕ). f (g a) ∷ z)
    (by_number f g points (a + 1) (λ i lt.
    let next : a + 1 + i ≡ a + suc i = omega arith in
    ap g next ∙ same (suc i) (omega (arith, lt))))
    ∙ ap (λ (z : Point). f z ∷ map f points) (ap g (sym here) ∙ same 0 (omega arith))

pub stream_labels : (m : Modulation) (job : JobView) (streams : ℕ) → length (near job).vector ≡ streams
    → map (stream_label m job) (range_with_len 1 streams) ≡ map (label_at m) (near job).vector
stream_labels m job streams long =
    ap (λ (n : ℕ). map (stream_label m job) (range_with_len 1 n)) (sym long)
    ∙ by_number (label_at m) (λ s. slice_index_or (near job).vector (s - 1) no_point) (near job).vector 1
    (λ i lt.
    let place : 1 + i - 1 ≡ i = omega arith in
    ap (λ (k : ℕ). slice_index_or (near job).vector k no_point) place)
