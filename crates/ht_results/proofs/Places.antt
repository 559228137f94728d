-- No two jobs of a frame stand on one place.
use Rattle.std.proofs.Common.{◌≡◌, ◌≢◌, ℕ, zero, suc, ◌+◌, ◌*◌, ◌<◌, ◌≤◌, List, [], ◌∷◌, ◌++◌, map, not, Bool, true, false, ◌==◌, None, Some}
use Rattle.std.proofs.Common.{if◌then◌else◌, refl, ap, subst, ◌∙◌, arith}
use Rattle.std.specs.List.{filter, find, flat_map, range_with_len}
use Rattle.std.proofs.lemmas.Bool.{and_parts, eqb-true}
use Rattle.ht_rate.specs.Rates.{carriers_of}
use Rattle.ht_metric.specs.declared.place.Place.{Place}
use Rattle.ht_metric.specs.Jobs.{JobView}
use Rattle.ht_capture.specs.declared.items.FrameHead.{FrameHead}
use Rattle.ht_capture.specs.Files.{is_erased}
use Rattle.ht_capture_laws.specs.Items.{place_in, places_in, symbol_places}
use Rattle.ht_results.specs.Plans.{stands_at}

-- the number of a place in a frame with this number of subcarriers
abbrev pub place_number : ℕ → Place → ℕ
place_number carriers p = p.symbol * carriers + p.carrier

-- places whose numbers rise from one on, and end below another
abbrev pub Rising : ℕ → ℕ → ℕ → List Place → Type 0
Rising carriers from end [] = from ≤ end
Rising carriers from end (p ∷ ps) = (from ≤ place_number carriers p) × Rising carriers (place_number carriers p + 1) end ps

pub lower : (carriers from start end : ℕ) (ps : List Place) → from ≤ start → Rising carriers start end ps → Rising carriers from end ps
lower carriers from start end [] le r = omega (arith, le, r)
lower carriers from start end (p ∷ ps) le r = (let first = r.0 in omega (arith, le, first), r.1)

pub rising_append : (carriers from middle end : ℕ) (ps qs : List Place)
    → Rising carriers from middle ps → Rising carriers middle end qs → Rising carriers from end (ps ++ qs)
rising_append carriers from middle end [] qs left right = lower carriers from middle end qs left right
rising_append carriers from middle end (p ∷ ps) qs left right = (left.0, rising_append carriers (place_number carriers p + 1) middle end ps qs left.1 right)

-- the places of a symbol
kept : (head : FrameHead) (carriers symbol c end : ℕ) (rest : List ℕ) (b : Bool)
    → Rising carriers (symbol * carriers + (c + 1)) end (map (place_in head symbol) rest)
    → Rising carriers (symbol * carriers + c) end (map (place_in head symbol) (if b then c ∷ rest else rest))
kept head carriers symbol c end rest true r =
    let next : symbol * carriers + c + 1 ≤ symbol * carriers + (c + 1) = omega arith in
    (omega arith, lower carriers (symbol * carriers + c + 1) (symbol * carriers + (c + 1)) end (map (place_in head symbol) rest) next r)
kept head carriers symbol c end rest false r =
    let next : symbol * carriers + c ≤ symbol * carriers + (c + 1) = omega arith in
    lower carriers (symbol * carriers + c) (symbol * carriers + (c + 1)) end (map (place_in head symbol) rest) next r

symbol_rising : (head : FrameHead) (carriers symbol c n end : ℕ) → symbol * carriers + (c + n) ≤ end
    → Rising carriers (symbol * carriers + c) end (map (place_in head symbol) (filter (λ carrier. not (is_erased head.erased carrier)) (range_with_len c n)))
symbol_rising head carriers symbol c zero end le = omega (arith, le)
symbol_rising head carriers symbol c (suc n) end le =
    kept head carriers symbol c end (filter (λ carrier. not (is_erased head.erased carrier)) (range_with_len (c + 1) n)) (not (is_erased head.erased c))
    (symbol_rising head carriers symbol (c + 1) n end (omega (arith, le)))

-- the places of symbols
symbols_rising : (head : FrameHead) (a n : ℕ)
    → Rising (carriers_of head.rate) (a * carriers_of head.rate) ((a + n) * carriers_of head.rate) (flat_map (symbol_places head) (range_with_len a n))
symbols_rising head a zero =
    let same : (a + 0) * carriers_of head.rate ≡ a * carriers_of head.rate = ap (λ (z : ℕ). z * carriers_of head.rate) (omega arith) in
    omega (arith, same)
symbols_rising head a (suc n) =
    let w : ℕ = carriers_of head.rate in
    let next : a * w + (0 + w) ≤ (a + 1) * w = omega arith in
    let start : a * w ≤ a * w + 0 = omega arith in
    let end : a + 1 + n ≡ a + suc n = omega arith in
    rising_append w (a * w) ((a + 1) * w) ((a + suc n) * w) (symbol_places head a) (flat_map (symbol_places head) (range_with_len (a + 1) n))
    (lower w (a * w) (a * w + 0) ((a + 1) * w) (symbol_places head a) start (symbol_rising head w a 0 w ((a + 1) * w) next))
    (subst (λ (z : ℕ). Rising w ((a + 1) * w) (z * w) (flat_map (symbol_places head) (range_with_len (a + 1) n))) end (symbols_rising head (a + 1) n))

pub places_rising : (head : FrameHead) (count : ℕ) → Rising (carriers_of head.rate) 0 (count * carriers_of head.rate) (places_in head count)
places_rising head count =
    let w : ℕ = carriers_of head.rate in
    let start : 0 ≤ 0 * w = omega arith in
    let end : 0 + count ≡ count = omega arith in
    lower w 0 (0 * w) (count * w) (places_in head count) start
    (subst (λ (z : ℕ). Rising w (0 * w) (z * w) (places_in head count)) end (symbols_rising head 0 count))

-- a job that stands on a place has its symbol and its subcarrier
pub stands : (symbol carrier : ℕ) (job : JobView) → stands_at symbol carrier job ≡ true → (job.place.symbol ≡ symbol) × (job.place.carrier ≡ carrier)
stands symbol carrier job is =
    let parts = and_parts (job.place.symbol == symbol) (job.place.carrier == carrier) is in
    (eqb-true job.place.symbol symbol parts.0, eqb-true job.place.carrier carrier parts.1)

-- no job behind a place stands on it
skipped : (symbol carrier : ℕ) (job : JobView) (jobs : List JobView) (b : Bool) → stands_at symbol carrier job ≡ b → b ≢ true
    → find (stands_at symbol carrier) jobs ≡ None → find (stands_at symbol carrier) (job ∷ jobs) ≡ None
skipped symbol carrier job jobs true is other none = absurd (other refl)
skipped symbol carrier job jobs false is other none =
    ap (λ (b : Bool). if b then Some job else find (stands_at symbol carrier) jobs) is ∙ none

pub none_behind : (carriers symbol carrier from end : ℕ) (jobs : List JobView) → symbol * carriers + carrier < from
    → Rising carriers from end (map (λ (j : JobView). j.place) jobs) → find (stands_at symbol carrier) jobs ≡ None
none_behind carriers symbol carrier from end [] below r = refl
none_behind carriers symbol carrier from end (job ∷ jobs) below r =
    let first = r.0 in
    skipped symbol carrier job jobs (stands_at symbol carrier job) refl
    (λ is.
    let at = stands symbol carrier job is in
    let same : place_number carriers job.place ≡ symbol * carriers + carrier =
    ap (λ (z : ℕ). z * carriers + job.place.carrier) at.0 ∙ ap (λ (z : ℕ). symbol * carriers + z) at.1 in
    omega (arith, same, first, below))
    (none_behind carriers symbol carrier (place_number carriers job.place + 1) end jobs (omega (arith, first, below)) r.1)
