-- The subcarriers of a frame that are present.
use Rattle.std.proofs.Common.{◌≡◌, ℕ, zero, suc, ◌+◌, ◌≤◌, List, [], ◌∷◌, ◌++◌, length, map, Bool, true, false, All, if◌then◌else◌, sym, subst, ◌∙◌, arith}
use Rattle.std.proofs.lemmas.List.{length-map}
use Rattle.std.specs.List.{AllByRecursion}
use Rattle.std.proofs.lemmas.List.Elements.{All-from_recursion, All-head, All-tail}
use Rattle.ht_rate.specs.declared.rates.Rate.{Rate}
use Rattle.ht_rate.specs.Rates.{carriers_of, streams_of}
use Rattle.ht_metric.specs.Rows.{Leg}
use Rattle.ht_capture.specs.declared.frames.CaptureFrame.{CaptureFrame}
use Rattle.ht_capture.specs.Contents.{presents, presents_of, seen}
use Rattle.ht_capture.specs.Files.{FitsFrame, is_erased, present_among, present_of, triangles_behind}
use Rattle.ht_capture.proofs.Filed.{length-presents}
use Rattle.ht_capture.proofs.Written.{present_most}
use Rattle.ht_certify.specs.declared.subcarriers.Subcarrier.{Subcarrier}
use Rattle.ht_certify.specs.Making.{subcarrier_of, subcarriers_of}

abbrev Has : ℕ → Subcarrier → Type 0
Has streams s = length s.triangle ≡ streams

-- where the triangles have these streams, the subcarriers have
seen_has : (rate : Rate) (streams : ℕ) (is : Bool) (n k e : ℕ) (ts : List (List Leg)) → All (λ (t : List Leg). length t ≡ streams) ts
    → length ts ≡ (if is then present_among n (k + 1) e else 1 + present_among n (k + 1) e)
    → (All (λ (t : List Leg). length t ≡ streams) (triangles_behind is ts)
    → AllByRecursion (Has streams) (map (subcarrier_of rate) (presents n (k + 1) e (triangles_behind is ts))))
    → AllByRecursion (Has streams) (map (subcarrier_of rate) (seen is k ts ++ presents n (k + 1) e (triangles_behind is ts)))
seen_has rate streams true n k e ts all len rest = rest all
seen_has rate streams false n k e [] all len rest = absurd (omega (arith, len))
seen_has rate streams false n k e (t ∷ ts) all len rest =
    (All-head (λ (x : List Leg). length x ≡ streams) t ts all, rest (All-tail (λ (x : List Leg). length x ≡ streams) t ts all))

behind_size : (is : Bool) (n k e : ℕ) (ts : List (List Leg)) → length ts ≡ (if is then present_among n (k + 1) e else 1 + present_among n (k + 1) e)
    → length (triangles_behind is ts) ≡ present_among n (k + 1) e
behind_size true n k e ts len = len
behind_size false n k e [] len = absurd (omega (arith, len))
behind_size false n k e (t ∷ ts) len = omega (arith, len)

all_have : (rate : Rate) (streams n k e : ℕ) (ts : List (List Leg)) → All (λ (t : List Leg). length t ≡ streams) ts → length ts ≡ present_among n k e
    → AllByRecursion (Has streams) (map (subcarrier_of rate) (presents n k e ts))
all_have rate streams zero k e ts all len = tt
all_have rate streams (suc n) k e ts all len =
    seen_has rate streams (is_erased e k) n k e ts all len
    (λ behind. all_have rate streams n (k + 1) e (triangles_behind (is_erased e k) ts) behind (behind_size (is_erased e k) n k e ts len))

pub have_streams : (f : CaptureFrame) → FitsFrame f → All (λ (s : Subcarrier). length s.triangle ≡ streams_of f.rate) (subcarriers_of f)
have_streams f fits =
    All-from_recursion (Has (streams_of f.rate)) (subcarriers_of f)
    (all_have f.rate (streams_of f.rate) (carriers_of f.rate) 0 f.erased f.triangles fits.streams fits.triangles)

pub are_present : (f : CaptureFrame) → length (subcarriers_of f) ≡ present_of f
are_present f = length-map (presents_of f) (subcarrier_of f.rate) ∙ length-presents (carriers_of f.rate) 0 f.erased f.triangles

pub are_few : (f : CaptureFrame) → length (subcarriers_of f) ≤ carriers_of f.rate
are_few f = subst (λ n. n ≤ carriers_of f.rate) (sym (are_present f)) (present_most (carriers_of f.rate) 0 f.erased)
