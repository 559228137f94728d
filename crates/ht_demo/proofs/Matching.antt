-- How many frames came back, frame by frame.
use Rattle.std.proofs.Common.{◌≡◌, ℕ, ◌+◌, ◌<◌, min, List, ◌∷◌, length, drop, get_or, Bool, cond, sym, ap, ◌∙◌, add-one, arith}
use Rattle.std.specs.List.{zip}
use Rattle.std.proofs.Math.Seq.{drop-cons}
use Rattle.std.proofs.lemmas.List.{length-drop}
use Rattle.std.proofs.lemmas.List.Sums.{count_by-le-length, sum_by-cons}
use Rattle.std.proofs.lemmas.Slice.Zip.{length-zip}
use Rattle.ht_tx.specs.Frames.{FrameView}
use Rattle.ht_results.specs.declared.frame_result.FrameResult.{FrameResult}
use Rattle.ht_demo.specs.Demos.{is_outcome, matched_in}

abbrev pub came_back : FrameView × FrameResult → Bool
came_back both = is_outcome both.0.octets both.1.outcome

pub matched-cons : (f : FrameView) (frames : List FrameView) (r : FrameResult) (results : List FrameResult)
    → matched_in (f ∷ frames) (r ∷ results) ≡ cond (is_outcome f.octets r.outcome) 1 0 + matched_in frames results
matched-cons f frames r results = sum_by-cons (λ (both : FrameView × FrameResult). cond (came_back both) 1 0) (f, r) (zip frames results)

split_at : {A : Type 0} (xs : List A) (k : ℕ) (x : A) → k < length xs → x ≡ get_or xs k x → drop k xs ≡ x ∷ drop (k + 1) xs
split_at {A} xs k x below is = rw add-one (drop-cons xs k x below) ∙ ap (λ (y : A). y ∷ drop (k + 1) xs) (sym is)

-- one more frame, and those behind it
pub matched-drop : (frames : List FrameView) (results : List FrameResult) (k : ℕ) (f : FrameView) (r : FrameResult)
    → k < length frames → k < length results → f ≡ get_or frames k f → r ≡ get_or results k r
    → matched_in (drop k frames) (drop k results) ≡ cond (is_outcome f.octets r.outcome) 1 0 + matched_in (drop (k + 1) frames) (drop (k + 1) results)
matched-drop frames results k f r lf lr pf pr =
    ap (λ (fs : List FrameView). matched_in fs (drop k results)) (split_at frames k f lf pf)
    ∙ ap (λ (rs : List FrameResult). matched_in (f ∷ drop (k + 1) frames) rs) (split_at results k r lr pr)
    ∙ matched-cons f (drop (k + 1) frames) r (drop (k + 1) results)

-- none is left
pub matched-end : (frames : List FrameView) (results : List FrameResult) (k : ℕ) → k ≡ min (length frames) (length results)
    → matched_in (drop k frames) (drop k results) ≡ 0
matched-end frames results k is =
    let most = count_by-le-length came_back (zip (drop k frames) (drop k results)) in
    let pairs = length-zip (drop k frames) (drop k results) in
    let fs = length-drop k frames in
    let rs = length-drop k results in
    omega (arith, most, pairs, fs, rs, is)
