-- The coded bits A and B of a word's steps as two planes, a bit for each step, and the steps at which they are wrong.
use Rattle.std.specs.Prelude.{◌≡◌, ℕ, zero, suc, ◌+◌, ◌-◌, ◌<◌, List, map, Bool, true, false, not, ◌&&◌, ◌||◌, ◌==◌}
use Rattle.std.specs.Prelude.{if◌then◌else◌, nat_le, Option, Some, None}
use Rattle.std.specs.Bool.{xor}
use Rattle.std.specs.Int.{from_bool}
use Rattle.ht_rate.specs.declared.kinds.Pattern.{Pattern}
use Rattle.ht_conv.specs.declared.puncture.Kept.{Kept}
use Rattle.ht_conv.specs.declared.puncture.Kept.TheVariants.{Both, A, B}
use Rattle.ht_conv.specs.Code.{parity, taps_a, taps_b}
use Rattle.ht_conv.specs.Puncturing.{kept_of, sent_count}
use Rattle.ht_viterbi.specs.Packed.{flag, word_steps}
use Rattle.ht_clean.specs.declared.layout.Layout.{Layout}
use Rattle.ht_clean.specs.declared.layout.Stage.{Stage}
use Rattle.ht_clean.specs.declared.planes.Planes.{Planes}

-- which of a step's coded bits are kept
abbrev pub keeps_a : Kept → Bool
keeps_a Both = true
keeps_a A = true
keeps_a B = false

abbrev pub keeps_b : Kept → Bool
keeps_b Both = true
keeps_b A = false
keeps_b B = true

-- the place of B, where those of the step begin at `start`
abbrev pub place_b : Kept → ℕ → ℕ
place_b Both start = start + 1
place_b A start = start
place_b B start = start

-- the planes have those of the coded bits that are kept
pub record HasPlanes (pattern : Pattern) (word : ℕ) (planes : Planes) : Type 0 where
  pub a : (step : ℕ) → step < word_steps pattern → keeps_a (kept_of pattern step) ≡ true → flag planes.a step ≡ flag word (sent_count pattern step)
  pub b : (step : ℕ) → step < word_steps pattern → keeps_b (kept_of pattern step) ≡ true
      → flag planes.b step ≡ flag word (place_b (kept_of pattern step) (sent_count pattern step))

-- where a stage has a bit from
abbrev pub back : ℕ → Stage → ℕ → Option ℕ
back shift stage place =
    if flag stage.keep place
    then (if flag stage.draw place then None else Some place)
    else (if flag stage.draw place then Some (place + shift) else None)

abbrev pub and_then : Option ℕ → (ℕ → Option ℕ) → Option ℕ
and_then None next = None
and_then (Some place) next = next place

-- and the five stages, of which the one of shift 1 comes first
unfoldable pub traced : Layout → ℕ → Option ℕ
traced layout place =
    and_then (back 16 layout.by_sixteen place)
    (λ e. and_then (back 8 layout.by_eight e)
    (λ d. and_then (back 4 layout.by_four d)
    (λ c. and_then (back 2 layout.by_two c) (back 1 layout.by_one))))

abbrev pub is_at : Option ℕ → ℕ → Bool
is_at None place = false
is_at (Some origin) place = origin == place

-- the layout takes the bits of a step from their places
unfoldable pub takes_step : Pattern → Layout → ℕ → Bool
takes_step pattern layout step =
    (not (keeps_a (kept_of pattern step)) || is_at (and_then (traced layout step) (back 1 layout.a)) (sent_count pattern step))
    && (not (keeps_b (kept_of pattern step))
    || is_at (and_then (traced layout step) (back 1 layout.b)) (place_b (kept_of pattern step) (sent_count pattern step)))
    && not (xor (flag layout.kept.a step) (keeps_a (kept_of pattern step)))
    && not (xor (flag layout.kept.b step) (keeps_b (kept_of pattern step)))

abbrev pub holds_below : (ℕ → Bool) → ℕ → Bool
holds_below test zero = true
holds_below test (suc n) = test n && holds_below test n

-- and of all steps of a word
unfoldable pub is_layout : Pattern → Layout → Bool
is_layout pattern layout = holds_below (takes_step pattern layout) (word_steps pattern)

-- an input bit some steps before one of a word, where words of `width` steps hold the input
abbrev pub lagged_bit : ℕ → ℕ → ℕ → ℕ → ℕ → Bool
lagged_bit current previous width step delay = if nat_le delay step then flag current (step - delay) else flag previous (width + step - delay)

-- a generator's bit at a step of a word
abbrev pub coded_in : List ℕ → ℕ → ℕ → ℕ → ℕ → Bool
coded_in taps current previous width step = parity (map (lagged_bit current previous width step) taps)

-- how many of a step's places, which begin at `start`, are wrong, where its coded bits are `a` and `b`
abbrev pub wrong_bits : Kept → ℕ → ℕ → Bool → Bool → ℕ
wrong_bits Both word start a b = from_bool (xor (flag word start) a) + from_bool (xor (flag word (start + 1)) b)
wrong_bits A word start a b = from_bool (xor (flag word start) a)
wrong_bits B word start a b = from_bool (xor (flag word start) b)

-- how many places of a step of a word are wrong
unfoldable pub word_wrong : Pattern → ℕ → ℕ → ℕ → ℕ → ℕ
word_wrong pattern word current previous step =
    wrong_bits (kept_of pattern step) word (sent_count pattern step)
    (coded_in taps_a current previous (word_steps pattern) step) (coded_in taps_b current previous (word_steps pattern) step)

-- how many bits of a step two planes have
abbrev pub plane_bits : Planes → ℕ → ℕ
plane_bits planes step = from_bool (flag planes.a step) + from_bool (flag planes.b step)
