-- What stands in front of the records, and how their parts are decoded.
use Rattle.std.proofs.Common.{◌≡◌, ℕ, suc, ◌+◌, ◌-◌, ◌*◌, ◌^◌, ◌<◌, ◌≤◌, List, [], ◌∷◌, ◌++◌, length, nat_lt, false, Ok, Result, refl, sym, ap, subst, ◌∙◌}
use Rattle.std.proofs.Common.{append_assoc, arith}
use Rattle.std.proofs.lemmas.Bool.Decides.{nat_tests}
use Rattle.ht_io.specs.Devices.{Device, Takes}
use Rattle.ht_io.specs.declared.faults.InFault.{InFault}
use Rattle.ht_fields.specs.Readers.{Gives}
use Rattle.ht_fields.specs.WholeFiles.{StopsWithCause}
use Rattle.ht_fields.proofs.Choices.{when_false}
use Rattle.ht_fields.proofs.Routes.{route_gives}
use Rattle.ht_heads.specs.declared.starting.Limits.{Limits}
use Rattle.ht_heads.specs.Starts.{StartedFails, started_octets}
use Rattle.ht_heads.proofs.Started.{route_started, started_halts}
use Rattle.ht_rate.specs.declared.rates.Rate.{Rate}
use Rattle.ht_rate.specs.declared.rates.RateFault.{RateFault}
use Rattle.ht_rate.specs.Rates.{rate_at, rate_of}
use Rattle.ht_pam.specs.declared.point.Point.{Point}
use Rattle.ht_cert.specs.Formats.{certificates, certificates_magic, first_due, record_limits, recorded}
use Rattle.ht_cert.specs.Readers.{here}
use Rattle.ht_cert.specs.Records.{claimed, distance_begins, full_grid, no_place, point_at, points_at, points_begin, samples_begin}
use Rattle.ht_cert.specs.declared.record.Record.{Record}
use Rattle.byteorder.specs.Endian.{big_number}
use Rattle.std.proofs.Common.{take, drop, replicate, Bool}
use Rattle.ht_pam.specs.declared.axes.Axes.{Axes}
use Rattle.ht_rate.specs.declared.kinds.Modulation.{Modulation}
use Rattle.ht_metric.specs.declared.sample.Sample.{Sample}
use Rattle.ht_metric.specs.Jobs.{JobView}
use Rattle.ht_metric.specs.Rows.{Leg, Row, rows_of, no_sample}
use Rattle.ht_capture.specs.Systems.{samples_at, triangle_of, triangle_octets}
use Rattle.ht_capture.proofs.Grids.{length-triangle_of, rows-padded}
use Rattle.ht_capture.proofs.Slices.{to_the_end}

start_size : (count : ℕ) → 13 ≡ 0 + length (started_octets certificates_magic 8 count)
unfolding started_octets
start_size count = refl

-- they were read
pub start_gives : (limits : Limits) (count : ℕ) (source after : Device ℕ) → limits ≡ record_limits → count ≤ limits.most
    → Takes source after (started_octets certificates_magic limits.width count)
    → Gives (here certificates.start 0 source) (here (first_due count) 13 after) []
start_gives limits count source after is few taken =
    let most : count ≤ 137438953472 = subst (λ (l : Limits). count ≤ l.most) is few in
    let small : count < 256 ^ 8 = omega (arith, most) in
    route_gives certificates certificates.start (first_due count) (started_octets certificates_magic 8 count) [] 0 13 source after
    (route_started recorded count (omega arith) small (omega arith) most) (start_size count)
    (subst (λ (l : Limits). Takes source after (started_octets certificates_magic l.width count)) is taken)

-- they were not
pub start_stops : (limits : Limits) (source after : Device ℕ) (fault : InFault) → limits ≡ record_limits
    → StartedFails certificates_magic limits source after fault → StopsWithCause (here certificates.start 0 source) after fault
start_stops limits source after fault is fails =
    started_halts recorded source after fault (omega arith) (λ e. cc, λ e. cc)
    (subst (λ (l : Limits). StartedFails certificates_magic l source after fault) is fails)

-- the rate of an MCS
pub rate_is : (n : ℕ) (rate : Rate) → n ≤ 31 → (let r : Result Rate RateFault = Ok rate in r) ≡ rate_of 0 n → rate ≡ rate_at 0 n
unfolding rate_of
rate_is n rate few is =
    let low : nat_lt 31 n ≡ false = grind (arith, nat_tests) in
    let same : (let r : Result Rate RateFault = Ok rate in r) ≡ Ok (rate_at 0 n) = is ∙ when_false _ _ _ low in
    cc

-- the next point
points_next : (n m : ℕ) (octets : List ℕ) (at : ℕ) → n ≡ suc m → points_at n octets at ≡ point_at octets at ∷ points_at m octets (at + 2)
points_next n m octets at is = ap (λ k. points_at k octets at) is

pub point_more : (points next whole : List Point) (p : Point) (n k at : ℕ) (octets : List ℕ) → k < n → next ≡ points ++ p ∷ []
    → p ≡ point_at octets (at + 2 * k)
    → points ++ points_at (n - k) octets (at + 2 * k) ≡ whole → next ++ points_at (n - (k + 1)) octets (at + 2 * (k + 1)) ≡ whole
point_more points next whole p n k at octets lt is read eq =
    let less : n - k ≡ suc (n - (k + 1)) = omega (arith, lt) in
    let place : at + 2 * k + 2 ≡ at + 2 * (k + 1) = omega arith in
    let rest = points_at (n - (k + 1)) octets (at + 2 * (k + 1)) in
    let one : points_at (n - k) octets (at + 2 * k) ≡ p ∷ rest =
    points_next (n - k) (n - (k + 1)) octets (at + 2 * k) less
    ∙ (ap (λ (x : Point). x ∷ points_at (n - (k + 1)) octets (at + 2 * k + 2)) (sym read) ∙ ap (λ m. p ∷ points_at (n - (k + 1)) octets m) place) in
    ap (λ (z : List Point). z ++ rest) is ∙ (append_assoc points (p ∷ []) rest ∙ (ap (λ (z : List Point). points ++ z) (sym one) ∙ eq))

pub point_place : (p : Point) (octets : List ℕ) (at k n : ℕ) → n ≡ k → p ≡ point_at octets (at + 2 * n) → p ≡ point_at octets (at + 2 * k)
point_place p octets at k n is e = e ∙ ap (λ m. point_at octets (at + 2 * m)) is

-- the numbers of a record
pub claim_made : (number : ℕ) (m : Modulation) (s : ℕ) (octets : List ℕ) (at p q n : ℕ) (legs : List Leg) (ys : List Sample) (grid : List Axes)
    (system : List Row)
    (job : JobView) (vector : List Point) (d : ℕ) (marks : List Bool)
    → at ≡ triangle_octets s → p ≡ at + 8 * s → q ≡ p + 2 * s → legs ≡ triangle_of s octets → ys ≡ samples_at s octets at ++ replicate (4 - s) no_sample
    → grid ≡ full_grid m s → system ≡ rows_of legs ys → job ≡ record { number = number; place = no_place; grid = grid; system = system }
    → vector ≡ points_at s octets p → d ≡ big_number 16 (take n (drop q octets)) → n ≡ length octets - q → marks ≡ []
    → (let r : Record = record { modulation = m; job = job; certificate = record { vector = vector; distance = d; marks = marks } } in r)
    ≡ claimed number m s octets
unfolding claimed
claim_made number m s octets at p q n legs ys grid system job vector d marks at-is p-is q-is legs-is ys-is grid-is system-is job-is vector-is d-is n-is none =
    let rows : system ≡ rows_of (triangle_of s octets) (samples_at s octets (samples_begin s)) =
    system-is
    ∙ (ap (rows_of legs) ys-is
    ∙ (rows-padded legs s octets at (replicate (4 - s) no_sample) (length-triangle_of s octets legs legs-is)
    ∙ (ap (λ (l : List Leg). rows_of l (samples_at s octets at)) legs-is ∙ ap (λ k. rows_of (triangle_of s octets) (samples_at s octets k)) at-is))) in
    let p-at : p ≡ points_begin s = p-is ∙ ap (λ k. k + 8 * s) at-is in
    let q-at : q ≡ distance_begins s = q-is ∙ ap (λ k. k + 2 * s) p-at in
    let v : vector ≡ points_at s octets (points_begin s) = vector-is ∙ ap (λ k. points_at s octets k) p-at in
    let e : d ≡ big_number 16 (drop (distance_begins s) octets) =
    d-is ∙ (to_the_end (λ z. big_number 16 z) octets q n n-is ∙ ap (λ k. big_number 16 (drop k octets)) q-at) in
    let j : job ≡ record {
      number = number;
      place = no_place;
      grid = full_grid m s;
      system = rows_of (triangle_of s octets)
          (samples_at s octets (samples_begin s));
    } =
    job-is
    ∙ (ap (λ (g : List Axes). let v : JobView = record { number = number; place = no_place; grid = g; system = system } in v) grid-is
    ∙ ap (λ (r : List Row). let v : JobView = record { number = number; place = no_place; grid = full_grid m s; system = r } in v) rows) in
    let made : JobView → List Point → ℕ → List Bool → Record =
    λ a b x y. record { modulation = m; job = a; certificate = record { vector = b; distance = x; marks = y } } in
    let job' : JobView = record {
      number = number;
      place = no_place;
      grid = full_grid m s;
      system = rows_of (triangle_of s octets)
          (samples_at s octets (samples_begin s));
    } in
    let vector' = points_at s octets (points_begin s) in
    let d' = big_number 16 (drop (distance_begins s) octets) in
    ap (λ a. made a vector d marks) j
    ∙ (ap (λ b. made job' b d marks) v ∙ (ap (λ x. made job' vector' x marks) e ∙ ap (λ y. made job' vector' d' y) none))
