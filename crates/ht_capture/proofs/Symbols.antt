-- The jobs of a symbol, one after another.
use Rattle.std.proofs.Common.{◌≡◌, ℕ, suc, ◌+◌, ◌*◌, ◌<◌, ◌≤◌, List, [], ◌∷◌, length, take, drop, get_or}
use Rattle.std.proofs.Common.{nat_lt, Bool, true, false, if◌then◌else◌, refl, sym, ap, subst, ◌∙◌, arith}
use Rattle.ht_io.specs.Devices.{Device}
use Rattle.std.proofs.lemmas.List.{get_or-take, drop_all, length-take-le, length-take}
use Rattle.std.proofs.Math.Seq.{drop-cons}
use Rattle.std.proofs.Math.Nat.{mul-le-mul_right}
use Rattle.ht_fields.specs.Meanings.{Meaning, before, meaning}
use Rattle.ht_fields.specs.Readers.{ReaderView, Gives}
use Rattle.ht_io.proofs.Calls.{takes-none}
use Rattle.ht_metric.specs.Jobs.{JobView}
use Rattle.ht_capture.specs.declared.items.FrameHead.{FrameHead}
use Rattle.ht_capture.specs.declared.items.Item.{Item}
use Rattle.ht_capture.specs.declared.items.Item.TheVariants.{Job}
use Rattle.ht_capture.specs.declared.places.Present.{Present}
use Rattle.ht_capture.specs.declared.places.Turn.{Turn}
use Rattle.ht_capture.specs.declared.places.SymbolTurn.{SymbolTurn}
use Rattle.ht_capture.specs.declared.stage.Stage.{Stage}
use Rattle.ht_capture.specs.declared.stage.Stage.TheVariants.{NextFrame, NextSymbol, Giving}
use Rattle.ht_capture.specs.Frames.{carrier_octets, job_at, jobs_at}
use Rattle.ht_capture.specs.Fields.{Symbol, captures, turn_due, next_symbol, next_turn, symbol_due}
use Rattle.ht_capture.specs.Reading.{here}
use Rattle.ht_capture.specs.Readers.{jobs_left, shown_at, stage_after, stage_means, symbol_octets}

pub one_more_times : (k w : ℕ) → (k + 1) * w ≡ k * w + w
one_more_times k w = omega arith

pub jobs_first : (head : FrameHead) (symbol number number_next : ℕ) (xs : List Present) (x : Present) (ps : List Present) (octets : List ℕ) (at at_next : ℕ)
    → xs ≡ x ∷ ps → number + 1 ≡ number_next → at + carrier_octets head.rate ≡ at_next
    → jobs_at head symbol number xs octets at ≡ Job (job_at head symbol number x octets at) ∷ jobs_at head symbol number_next ps octets at_next
unfolding jobs_at
jobs_first head symbol number number_next xs x ps octets at at_next is n a =
    ap (λ (ys : List Present). jobs_at head symbol number ys octets at) is
    ∙ (ap (λ (m : ℕ). Job (job_at head symbol number x octets at) ∷ jobs_at head symbol m ps octets (at + carrier_octets head.rate)) n
    ∙ ap (λ (m : ℕ). Job (job_at head symbol number x octets at) ∷ jobs_at head symbol number_next ps octets m) a)

-- the job at a place, and those behind it
pub jobs_step : (due : SymbolTurn) (k : ℕ) (present : List Present) (octets : List ℕ) (d : Present) → k < due.count → due.count ≤ length present
    → jobs_left due k (take due.count present) octets
    ≡ Job (job_at due.head due.symbol (due.turn.number + k) (get_or present k d) octets (k * carrier_octets due.head.rate))
    ∷ jobs_left due (k + 1) (take due.count present) octets
unfolding jobs_left
jobs_step due k present octets d lt le =
    let size : length (take due.count present) ≡ due.count = length-take-le due.count present le in
    let below : k < length (take due.count present) = omega (arith, size, lt) in
    let e : suc k ≡ k + 1 = omega arith in
    let cons : drop k (take due.count present) ≡ get_or present k d ∷ drop (k + 1) (take due.count present) =
    drop-cons (take due.count present) k d below ∙ (ap (λ (p : Present). p ∷ drop (suc k) (take due.count present)) (get_or-take due.count present k d lt)
    ∙ ap (λ (n : ℕ). get_or present k d ∷ drop n (take due.count present)) e) in
    let number : due.turn.number + k + 1 ≡ due.turn.number + (k + 1) = omega arith in
    jobs_first due.head due.symbol (due.turn.number + k) _ _ (get_or present k d) _ octets
    (k * carrier_octets due.head.rate) _ cons number (sym (one_more_times k (carrier_octets due.head.rate)))

-- behind the last place there is none
pub jobs_over : (due : SymbolTurn) (k : ℕ) (present : List Present) (octets : List ℕ) → due.count ≤ k → jobs_left due k (take due.count present) octets ≡ []
unfolding jobs_left jobs_at
jobs_over due k present octets le =
    let few : length (take due.count present) ≤ k = omega (arith, length-take due.count present, le) in
    ap (λ (ps : List Present). jobs_at due.head due.symbol (due.turn.number + k) ps octets (k * carrier_octets due.head.rate))
    (drop_all k (take due.count present) few)

-- the job that is given
pub gives_job : (due : SymbolTurn) (k at : ℕ) (present : List Present) (samples : List ℕ) (left : Device ℕ) (job : JobView) (d : Present)
    → k < due.count → due.count ≤ length present
    → job ≡ job_at due.head due.symbol (due.turn.number + k) (get_or present k d) (take (symbol_octets due) samples) (k * carrier_octets due.head.rate)
    → Gives (shown_at (Giving due k) at present samples left) (shown_at (Giving due (k + 1)) at present samples left) (Job job ∷ [])
gives_job due k at present samples left job d lt le is =
    let step : jobs_left due k (take due.count present) (take (symbol_octets due) samples)
    ≡ Job job ∷ jobs_left due (k + 1) (take due.count present) (take (symbol_octets due) samples) =
    jobs_step due k present (take (symbol_octets due) samples) d lt le
    ∙ ap (λ (j : JobView). Job j ∷ jobs_left due (k + 1) (take due.count present) (take (symbol_octets due) samples)) (sym is) in
    record {
      taken = [];
      octets = takes-none left;
      place = omega arith;
      means = λ rest. ap (λ (xs : List Item). before xs (meaning captures (symbol_due (next_symbol due) (take due.count present)) at rest)) step;
    }

chosen : (b : Bool) (due : SymbolTurn) (turn : Turn) (at : ℕ) (present : List Present) (samples rest : List ℕ)
    → meaning captures (if b then Symbol due (take due.count present) else turn_due turn) at rest
    ≡ stage_means (if b then NextSymbol due else NextFrame turn) at present samples rest
chosen true due turn at present samples rest = refl
chosen false due turn at present samples rest = refl

-- the stage behind a symbol means what is due behind it
pub after_means : (due : SymbolTurn) (at : ℕ) (present : List Present) (samples rest : List ℕ)
    → meaning captures (symbol_due (next_symbol due) (take due.count present)) at rest ≡ stage_means (stage_after due) at present samples rest
unfolding symbol_due next_symbol
after_means due at present samples rest =
    chosen (nat_lt (due.symbol + 1) due.symbols) (next_symbol due) (next_turn (next_symbol due).turn) at present samples rest

-- behind the last job the reader is behind the symbol
pub over_shown : (due : SymbolTurn) (k at : ℕ) (present : List Present) (samples : List ℕ) (left : Device ℕ) (stage : Stage)
    → due.count ≤ k → stage ≡ stage_after due
    → shown_at (Giving due k) at present samples left ≡ shown_at stage at present samples left
over_shown due k at present samples left stage le is =
    let means : (rest : List ℕ) → stage_means (Giving due k) at present samples rest ≡ stage_means stage at present samples rest =
    λ rest. ap (λ (xs : List Item). before xs (meaning captures (symbol_due (next_symbol due) (take due.count present)) at rest))
    (jobs_over due k present (take (symbol_octets due) samples) le)
    ∙ (after_means due at present samples rest ∙ ap (λ (s : Stage). stage_means s at present samples rest) (sym is)) in
    ap (λ (m : List ℕ → Meaning Item). let s : ReaderView Item = record { means = m; at = at; source = left } in s) (λ i. λ rest. means rest i)

-- the octets of the samples of a place lie within those of the symbol
pub place_within : (k count w : ℕ) → k < count → k * w + w ≤ count * w
place_within k count w lt =
    let le : k + 1 ≤ count = omega (arith, lt) in
    let times : (k + 1) * w ≤ count * w = mul-le-mul_right w le in
    subst (λ (n : ℕ). n ≤ count * w) (one_more_times k w) times

none_yet : (due : SymbolTurn) (present : List Present) (octets : List ℕ)
    → jobs_at due.head due.symbol due.turn.number present octets 0 ≡ jobs_left due 0 present octets
unfolding jobs_left
none_yet due present octets =
    let number : due.turn.number ≡ due.turn.number + 0 = omega arith in
    let place : 0 ≡ 0 * carrier_octets due.head.rate = omega arith in
    ap (λ (n : ℕ). jobs_at due.head due.symbol n present octets 0) number
    ∙ ap (λ (n : ℕ). jobs_at due.head due.symbol (due.turn.number + 0) present octets n) place

-- a symbol was read: its jobs are due, and none was given yet
pub gives_read : (old : ReaderView Item) (due : SymbolTurn) (behind : ℕ) (present : List Present) (samples into : List ℕ) (left : Device ℕ)
    → into ≡ take (symbol_octets due) samples
    → Gives old (here (symbol_due (next_symbol due) (take due.count present)) behind left)
    (jobs_at due.head due.symbol due.turn.number (take due.count present) into 0)
    → Gives old (shown_at (Giving due 0) behind present samples left) []
gives_read old due behind present samples into left is g =
    let jobs : jobs_at due.head due.symbol due.turn.number (take due.count present) into 0
    ≡ jobs_left due 0 (take due.count present) (take (symbol_octets due) samples) =
    none_yet due (take due.count present) into ∙ ap (λ (o : List ℕ). jobs_left due 0 (take due.count present) o) is in
    record {
      taken = g.taken;
      octets = g.octets;
      place = g.place;
      means = λ rest. g.means rest ∙ ap
          (λ (xs : List Item). before xs (meaning captures (symbol_due (next_symbol due) (take due.count present)) behind rest)) jobs;
    }

-- a job is given, and what is behind it is due
pub gives_joined : (due : SymbolTurn) (k at : ℕ) (p q : List Present) (s t : List ℕ) (left : Device ℕ) (new : ReaderView Item) (items : List Item)
    → q ≡ p → t ≡ s
    → Gives (shown_at (Giving due k) at q t left) (shown_at (Giving due (k + 1)) at q t left) items
    → shown_at (Giving due (k + 1)) at p s left ≡ new
    → Gives (shown_at (Giving due k) at p s left) new items
gives_joined due k at p q s t left new items qp ts g e =
    let a : Gives (shown_at (Giving due k) at p t left) (shown_at (Giving due (k + 1)) at p t left) items =
    subst (λ (x : List Present). Gives (shown_at (Giving due k) at x t left) (shown_at (Giving due (k + 1)) at x t left) items) qp g in
    let b : Gives (shown_at (Giving due k) at p s left) (shown_at (Giving due (k + 1)) at p s left) items =
    subst (λ (x : List ℕ). Gives (shown_at (Giving due k) at p x left) (shown_at (Giving due (k + 1)) at p x left) items) ts a in
    subst (λ (z : ReaderView Item). Gives (shown_at (Giving due k) at p s left) z items) e b
