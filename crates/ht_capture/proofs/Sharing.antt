-- The jobs of a part of a symbol.
use Rattle.std.proofs.Common.{◌≡◌, Bool, ◌&&◌, ℕ, zero, suc, ◌+◌, ◌-◌, ◌*◌, ◌^◌, ◌<◌, ◌≤◌, List, [], ◌∷◌, ◌++◌, length, map, take, drop, get_or, refl, sym}
use Rattle.std.proofs.Common.{ap, subst, ◌∙◌, arith}
use Rattle.std.specs.Prelude.{IfSome, Option, Some, slice_get, slice_index}
use Rattle.std.proofs.lemmas.List.{drop-drop, drop-take, get_or-drop, get_or-take, length-take-le, length-drop, map-append, take-append-drop}
use Rattle.std.specs.Bool.{Decides}
use Rattle.std.specs.Int.{cast_signed, w32}
use Rattle.std.proofs.lemmas.Bool.Decides.{Decides-and, Decides-like}
use Rattle.std.proofs.Math.Nat.{mul-le-mul_right}
use Rattle.byteorder.specs.Endian.{big_from, big_number}
use Rattle.ht_metric.specs.Jobs.{JobView}
use Rattle.ht_metric.specs.declared.place.Place.{Place}
use Rattle.ht_metric.specs.declared.sample.Sample.{Sample}
use Rattle.ht_metric.specs.Rows.{rows_of}
use Rattle.ht_rate.specs.Rates.{streams_of}
use Rattle.ht_capture.specs.declared.items.FrameHead.{FrameHead}
use Rattle.ht_capture.specs.declared.items.Item.{Item}
use Rattle.ht_capture.specs.declared.items.Item.TheVariants.{Job}
use Rattle.ht_capture.specs.declared.places.Present.{Present}
use Rattle.ht_capture.specs.Frames.{carrier_octets, grid_at, job_at, jobs_at}
use Rattle.ht_capture.specs.Numbers.{sample_at}
use Rattle.ht_capture.specs.Parts.{SymbolPart, job_in, jobs_of, part_of, views_at}
use Rattle.ht_capture.specs.Systems.{samples_at}

-- a number looks at its own octets alone
big_from-take : (i n m : ℕ) (xs : List ℕ) → i + n ≤ m → big_from i n (take m xs) ≡ big_from i n xs
big_from-take i zero m xs le = refl
big_from-take i (suc n) m xs le =
    ap (λ x. x * 256 ^ n + big_from (suc i) n (take m xs)) (get_or-take m xs i 0 (omega (arith, le)))
    ∙ ap (λ y. slice_index xs i * 256 ^ n + y) (big_from-take (suc i) n m xs (omega (arith, le)))

number_window : (n a m x : ℕ) (octets : List ℕ) → x + n ≤ m → big_number n (drop x (take m (drop a octets))) ≡ big_number n (drop (a + x) octets)
number_window n a m x octets le =
    let split : x + (m - x) ≡ m = omega (arith, le) in
    ap (λ k. big_number n (drop x (take k (drop a octets)))) (sym split)
    ∙ (ap (λ ys. big_number n ys) (drop-take x (m - x) (drop a octets))
    ∙ (big_from-take 0 n (m - x) (drop x (drop a octets)) (omega (arith, le))
    ∙ ap (λ ys. big_number n ys) (drop-drop x a octets)))

sample_window : (a m x : ℕ) (octets : List ℕ) → x + 8 ≤ m → sample_at (take m (drop a octets)) x ≡ sample_at octets (a + x)
unfolding sample_at
sample_window a m x octets le =
    let half : x + 4 + 4 ≤ m = omega (arith, le) in
    let place : a + (x + 4) ≡ a + x + 4 = omega arith in
    let made : ℕ → ℕ → Sample = λ re im. record { re = cast_signed w32 re; im = cast_signed w32 im } in
    ap (λ re. made re (big_number 4 (drop (x + 4) (take m (drop a octets))))) (number_window 4 a m x octets (omega (arith, le)))
    ∙ ap (λ im. made (big_number 4 (drop (a + x) octets)) im) (number_window 4 a m (x + 4) octets half ∙ ap (λ k. big_number 4 (drop k octets)) place)

samples_window : (n a m x : ℕ) (octets : List ℕ) → x + 8 * n ≤ m → samples_at n (take m (drop a octets)) x ≡ samples_at n octets (a + x)
samples_window zero a m x octets le = refl
samples_window (suc n) a m x octets le =
    let rest : x + 8 + 8 * n ≤ m = omega (arith, le) in
    let place : a + (x + 8) ≡ a + x + 8 = omega arith in
    ap (λ y. y ∷ samples_at n (take m (drop a octets)) (x + 8)) (sample_window a m x octets (omega (arith, le)))
    ∙ ap (λ ys. sample_at octets (a + x) ∷ ys) (samples_window n a m (x + 8) octets rest ∙ ap (λ k. samples_at n octets k) place)

-- a job looks at the octets of its subcarrier alone
pub job_window : (head : FrameHead) (symbol number : ℕ) (p : Present) (octets : List ℕ) (a m x : ℕ) → x + carrier_octets head.rate ≤ m
    → job_at head symbol number p (take m (drop a octets)) x ≡ job_at head symbol number p octets (a + x)
unfolding job_at
job_window head symbol number p octets a m x le =
    let with_samples : List Sample → JobView = λ ys. record {
      number = number;
      place = record { frame = head.frame; symbol = symbol; carrier = p.carrier };
      grid = grid_at head.rate symbol p.carrier;
      system = rows_of p.triangle ys;
    } in
    ap with_samples (samples_window (streams_of head.rate) a m x octets le)

module _ (head : FrameHead) (symbol : ℕ) where
  pub views_get : (number : ℕ) (ps : List Present) (octets : List ℕ) (at k : ℕ) (d : Present) → k < length ps
      → slice_get (views_at head symbol number ps octets at) k
      ≡ Some (job_at head symbol (number + k) (get_or ps k d) octets (at + k * carrier_octets head.rate))
  unfolding views_at
  views_get number [] octets at k d lt = absurd (omega (arith, lt))
  views_get number (p ∷ ps) octets at zero d lt =
      let first : number ≡ number + 0 = omega arith in
      let place : at ≡ at + 0 * carrier_octets head.rate = omega arith in
      ap (λ n. let o : Option JobView = Some (job_at head symbol n p octets at) in o) first
      ∙ ap (λ n. let o : Option JobView = Some (job_at head symbol (number + 0) p octets n) in o) place
  views_get number (p ∷ ps) octets at (suc k) d lt =
      let next : number + 1 + k ≡ number + suc k = omega arith in
      let place : at + carrier_octets head.rate + k * carrier_octets head.rate ≡ at + suc k * carrier_octets head.rate = omega arith in
      views_get (number + 1) ps octets (at + carrier_octets head.rate) k d (omega (arith, lt))
      ∙ (ap (λ n. let o : Option JobView =
      Some (job_at head symbol n (get_or ps k d) octets (at + carrier_octets head.rate + k * carrier_octets head.rate)) in o) next
      ∙ ap (λ n. let o : Option JobView = Some (job_at head symbol (number + suc k) (get_or ps k d) octets n) in o) place)

  pub views_length : (number : ℕ) (ps : List Present) (octets : List ℕ) (at : ℕ) → length (views_at head symbol number ps octets at) ≡ length ps
  unfolding views_at
  views_length number [] octets at = refl
  views_length number (p ∷ ps) octets at = ap suc (views_length (number + 1) ps octets (at + carrier_octets head.rate))

  views_append : (number : ℕ) (ps qs : List Present) (octets : List ℕ) (at : ℕ)
      → views_at head symbol number (ps ++ qs) octets at
      ≡ views_at head symbol number ps octets at
      ++ views_at head symbol (number + length ps) qs octets (at + length ps * carrier_octets head.rate)
  unfolding views_at
  views_append number [] qs octets at =
      let first : number ≡ number + 0 = omega arith in
      let place : at ≡ at + 0 * carrier_octets head.rate = omega arith in
      ap (λ n. views_at head symbol n qs octets at) first ∙ ap (λ n. views_at head symbol (number + 0) qs octets n) place
  views_append number (p ∷ ps) qs octets at =
      let next : number + 1 + length ps ≡ number + suc (length ps) = omega arith in
      let place : at + carrier_octets head.rate + length ps * carrier_octets head.rate
      ≡ at + suc (length ps) * carrier_octets head.rate = omega arith in
      ap (λ (js : List JobView). job_at head symbol number p octets at ∷ js)
      (views_append (number + 1) ps qs octets (at + carrier_octets head.rate)
      ∙ (ap (λ n. views_at head symbol (number + 1) ps octets (at + carrier_octets head.rate)
      ++ views_at head symbol n qs octets (at + carrier_octets head.rate + length ps * carrier_octets head.rate)) next
      ∙ ap (λ n. views_at head symbol (number + 1) ps octets (at + carrier_octets head.rate)
      ++ views_at head symbol (number + suc (length ps)) qs octets n) place))

  views_items : (number : ℕ) (ps : List Present) (octets : List ℕ) (at : ℕ)
      → jobs_at head symbol number ps octets at ≡ map (λ job. Job job) (views_at head symbol number ps octets at)
  unfolding views_at jobs_at
  views_items number [] octets at = refl
  views_items number (p ∷ ps) octets at =
      ap (λ (items : List Item). Job (job_at head symbol number p octets at) ∷ items)
      (views_items (number + 1) ps octets (at + carrier_octets head.rate))

  views_window : (number : ℕ) (ps : List Present) (octets : List ℕ) (a m x : ℕ) → x + length ps * carrier_octets head.rate ≤ m
      → views_at head symbol number ps (take m (drop a octets)) x ≡ views_at head symbol number ps octets (a + x)
  unfolding views_at
  views_window number [] octets a m x le = refl
  views_window number (p ∷ ps) octets a m x le =
      let rest : x + carrier_octets head.rate + length ps * carrier_octets head.rate ≤ m = omega (arith, le) in
      let place : a + (x + carrier_octets head.rate) ≡ a + x + carrier_octets head.rate = omega arith in
      ap (λ (job : JobView). job ∷ views_at head symbol (number + 1) ps (take m (drop a octets)) (x + carrier_octets head.rate))
      (job_window head symbol number p octets a m x (omega (arith, le)))
      ∙ ap (λ (js : List JobView). job_at head symbol number p octets (a + x) ∷ js)
      (views_window (number + 1) ps octets a m (x + carrier_octets head.rate) rest
      ∙ ap (λ n. views_at head symbol (number + 1) ps octets n) place)

-- the subcarriers of a part
pub part_length : (present : List Present) (first count : ℕ) → first + count ≤ length present → length (take count (drop first present)) ≡ count
part_length present first count le =
    length-take-le count (drop first present) (omega (arith, length-drop first present, le))

module _ (whole : SymbolPart) (first count : ℕ) (within : first + count ≤ length whole.present) where
  -- its jobs, out of the octets of the whole
  in_place : jobs_of (part_of whole first count)
      ≡ views_at whole.head whole.symbol (whole.number + first) (take count (drop first whole.present))
      whole.octets (first * carrier_octets whole.head.rate)
  in_place =
      let size = part_length whole.present first count within in
      let fits : 0 + length (take count (drop first whole.present)) * carrier_octets whole.head.rate ≤ count * carrier_octets whole.head.rate =
      subst (λ n. 0 + n * carrier_octets whole.head.rate ≤ count * carrier_octets whole.head.rate) (sym size) (omega arith) in
      let place : first * carrier_octets whole.head.rate + 0 ≡ first * carrier_octets whole.head.rate = omega arith in
      views_window whole.head whole.symbol (whole.number + first) (take count (drop first whole.present)) whole.octets
      (first * carrier_octets whole.head.rate) (count * carrier_octets whole.head.rate) 0 fits
      ∙ ap (λ n. views_at whole.head whole.symbol (whole.number + first) (take count (drop first whole.present)) whole.octets n) place

  -- one of them
  pub part_get : (at : ℕ) (d : Present) → at < count
      → slice_get (jobs_of (part_of whole first count)) at
      ≡ Some (job_at whole.head whole.symbol (whole.number + (first + at)) (get_or whole.present (first + at) d)
      whole.octets ((first + at) * carrier_octets whole.head.rate))
  part_get at d lt =
      let size = part_length whole.present first count within in
      let number : whole.number + first + at ≡ whole.number + (first + at) = omega arith in
      let place : first * carrier_octets whole.head.rate + at * carrier_octets whole.head.rate
      ≡ (first + at) * carrier_octets whole.head.rate = omega arith in
      let one : ℕ → Present → ℕ → Option JobView = λ n p o. Some (job_at whole.head whole.symbol n p whole.octets o) in
      let present : get_or (take count (drop first whole.present)) at d ≡ get_or whole.present (first + at) d =
      get_or-take count (drop first whole.present) at d lt ∙ get_or-drop first whole.present at d in
      ap (λ (jobs : List JobView). slice_get jobs at) in_place
      ∙ (views_get whole.head whole.symbol (whole.number + first) (take count (drop first whole.present)) whole.octets
      (first * carrier_octets whole.head.rate) at d (omega (arith, size, lt))
      ∙ (ap (λ n. one n (get_or (take count (drop first whole.present)) at d)
      (first * carrier_octets whole.head.rate + at * carrier_octets whole.head.rate)) number
      ∙ (ap (λ p. one (whole.number + (first + at)) p (first * carrier_octets whole.head.rate + at * carrier_octets whole.head.rate)) present
      ∙ ap (λ o. one (whole.number + (first + at)) (get_or whole.present (first + at) d) o) place)))

  pub jobs_length : length (jobs_of (part_of whole first count)) ≡ count
  jobs_length =
      views_length whole.head whole.symbol (whole.number + first) (take count (drop first whole.present)) _ 0
      ∙ part_length whole.present first count within

  -- they come first, and then those of the subcarriers behind the part
  pub part_first : jobs_at whole.head whole.symbol (whole.number + first) (drop first whole.present) whole.octets
      (first * carrier_octets whole.head.rate)
      ≡ map (λ job. Job job) (jobs_of (part_of whole first count))
      ++ jobs_at whole.head whole.symbol (whole.number + (first + count)) (drop (first + count) whole.present) whole.octets
      ((first + count) * carrier_octets whole.head.rate)
  part_first =
      let head = whole.head in
      let size = part_length whole.present first count within in
      let front = take count (drop first whole.present) in
      let back = drop count (drop first whole.present) in
      let start = first * carrier_octets head.rate in
      let number : whole.number + first + length front ≡ whole.number + (first + count) = omega (arith, size) in
      let place : start + length front * carrier_octets head.rate ≡ (first + count) * carrier_octets head.rate =
      ap (λ n. start + n * carrier_octets head.rate) size ∙ omega arith in
      let behind : back ≡ drop (first + count) whole.present = drop-drop count first whole.present in
      let made : List JobView → List Item = λ js. map (λ job. Job job) js in
      views_items head whole.symbol (whole.number + first) (drop first whole.present) whole.octets start
      ∙ (ap (λ (ps : List Present). made (views_at head whole.symbol (whole.number + first) ps whole.octets start))
      (sym (take-append-drop count (drop first whole.present)))
      ∙ (ap made (views_append head whole.symbol (whole.number + first) front back whole.octets start)
      ∙ (map-append (λ job. Job job) (views_at head whole.symbol (whole.number + first) front whole.octets start) _
      ∙ (ap (λ (js : List JobView). made js
      ++ made (views_at head whole.symbol (whole.number + first + length front) back whole.octets
      (start + length front * carrier_octets head.rate))) (sym in_place)
      ∙ ap (λ (items : List Item). made (jobs_of (part_of whole first count)) ++ items)
      (sym (views_items head whole.symbol (whole.number + first + length front) back whole.octets
      (start + length front * carrier_octets head.rate))
      ∙ (ap (λ n. jobs_at head whole.symbol n back whole.octets (start + length front * carrier_octets head.rate)) number
      ∙ (ap (λ n. jobs_at head whole.symbol (whole.number + (first + count)) back whole.octets n) place
      ∙ ap (λ (ps : List Present). jobs_at head whole.symbol (whole.number + (first + count)) ps whole.octets
      ((first + count) * carrier_octets head.rate)) behind)))))))

-- the octets of a part lie within those of the whole
pub within_octets : (first count n w : ℕ) → first + count ≤ n → first * w + count * w ≤ n * w
within_octets first count n w le =
    let all : (first + count) * w ≤ n * w = mul-le-mul_right w le in
    let split : (first + count) * w ≡ first * w + count * w = omega arith in
    omega (arith, all, split)

-- a test of two values is one of what they are
pub decides_as : {A : Type 0} (x y u v : A) (b : Bool) → x ≡ u → y ≡ v → Decides b (x ≡ y) → Decides b (u ≡ v)
decides_as x y u v b p q d = Decides-like b (λ e. sym p ∙ (e ∙ q)) (λ e. p ∙ (e ∙ sym q)) d

-- a job's place is one of the whole
pub part_placed : (job : Option JobView) (seen : SymbolPart) (k : ℕ) (d : Present) (place : Place) → job ≡ Some (job_in seen k d)
    → place ≡ record { frame = seen.head.frame; symbol = seen.symbol; carrier = (get_or seen.present k d).carrier }
    → IfSome job (λ job. job.place ≡ place)
unfolding job_at
part_placed job seen k d place is there = subst (λ (o : Option JobView). IfSome o (λ job. job.place ≡ place)) (sym is) (sym there)

-- parts are the same exactly where all that they show is
pub parts_decide : (a b : SymbolPart) (heads symbols numbers octets shapes : Bool) → Decides heads (a.head ≡ b.head) → Decides symbols (a.symbol ≡ b.symbol)
    → Decides numbers (a.number ≡ b.number) → Decides octets (a.octets ≡ b.octets) → Decides shapes (a.present ≡ b.present)
    → Decides ((((heads && symbols) && numbers) && octets) && shapes) (a ≡ b)
parts_decide a b heads symbols numbers octets shapes h s n o p =
    let made : FrameHead → ℕ → ℕ → List ℕ → List Present → SymbolPart =
    λ head symbol number os ps. record { head = head; symbol = symbol; number = number; present = ps; octets = os } in
    Decides-like ((((heads && symbols) && numbers) && octets) && shapes)
    (λ all. ap (λ x. made x a.symbol a.number a.octets a.present) all.0.0.0.0
    ∙ (ap (λ x. made b.head x a.number a.octets a.present) all.0.0.0.1
    ∙ (ap (λ x. made b.head b.symbol x a.octets a.present) all.0.0.1
    ∙ (ap (λ x. made b.head b.symbol b.number x a.present) all.0.1
    ∙ ap (λ x. made b.head b.symbol b.number b.octets x) all.1))))
    (λ e. (
      (
        ((ap (λ (x : SymbolPart). x.head) e, ap (λ (x : SymbolPart). x.symbol) e), ap (λ (x : SymbolPart). x.number) e),
        ap (λ (x : SymbolPart). x.octets) e,
      ),
      ap (λ (x : SymbolPart). x.present) e,
    ))
    (Decides-and (((heads && symbols) && numbers) && octets) shapes
    (Decides-and ((heads && symbols) && numbers) octets (Decides-and (heads && symbols) numbers (Decides-and heads symbols h s) n) o) p)

-- parts of other lengths aren't
pub longer_part : (a b : SymbolPart) (first other m n : ℕ) → first + m ≤ length a.present → other + n ≤ length b.present
    → part_of a first m ≡ part_of b other n → m ≡ n
longer_part a b first other m n within other_within e =
    sym (part_length a.present first m within)
    ∙ (ap (λ (x : SymbolPart). length x.present) e ∙ part_length b.present other n other_within)

-- a job of a part is one of the whole
pub part_job : (whole seen : SymbolPart) (first count at k : ℕ) (d : Present) → first + count ≤ length whole.present
    → at < length (jobs_of (part_of whole first count)) → seen ≡ whole → k ≡ first + at
    → slice_get (jobs_of (part_of whole first count)) at ≡ Some (job_in seen k d)
part_job whole seen first count at k d within lt same place =
    let found : SymbolPart → ℕ → Option JobView = λ s n. Some (job_in s n d) in
    part_get whole first count within at d (omega (arith, lt, jobs_length whole first count within))
    ∙ sym (ap (λ s. found s k) same ∙ ap (λ n. found whole n) place)
