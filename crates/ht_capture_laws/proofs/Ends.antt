-- From every state of a capture good fields lead to its end.
use Rattle.std.proofs.Common.{◌≡◌, inl, inr, ℕ, zero, suc, ◌+◌, ◌-◌, ◌*◌, ◌<◌, ◌≤◌, List, [], ◌∷◌, ◌++◌, replicate, nat_lt, refl, sym, subst, arith}
use Rattle.std.proofs.lemmas.Bool.{cases_Bool}
use Rattle.std.proofs.lemmas.Bool.Decides.{nat_tests}
use Rattle.std.proofs.lemmas.List.{length-replicate}
use Rattle.ht_fields.specs.Grammar.{Good}
use Rattle.ht_fields.specs.Cases.{IsEnd, IsField, Leads, CanEnd}
use Rattle.ht_rate.specs.declared.rates.Rate.{Rate}
use Rattle.ht_rate.specs.Rates.{rate_at, carriers_of, streams_of}
use Rattle.ht_capture.specs.declared.items.FrameHead.{FrameHead}
use Rattle.ht_capture.specs.declared.items.Item.{Item}
use Rattle.ht_capture.specs.declared.places.Present.{Present}
use Rattle.ht_capture.specs.declared.places.SymbolTurn.{SymbolTurn}
use Rattle.ht_capture.specs.declared.places.Turn.{Turn}
use Rattle.ht_capture.specs.Frames.{carrier_octets}
use Rattle.ht_capture.specs.Systems.{triangle_octets}
use Rattle.ht_capture.specs.Fields.{CaptureState, Magic, Version, Count, Bandwidth, Mcs, Length, Flag, Triangle, Symbol, Over, captures}
use Rattle.ht_capture.specs.Fields.{carriers_due, capture_due, turn_due, capture_magic_due, judge_mcs, next_symbol, next_turn, symbol_due}
use Rattle.ht_capture.proofs.Judges.{good_magic, good_version, good_count, good_bandwidth, good_length, good_triangle, zero_flag}
use Rattle.ht_capture.proofs.Endings.{frame_is_due, symbol_is_due}
use Rattle.ht_capture.proofs.Turns.{frame_is, over_is, symbol_good, symbol_is}
use Rattle.ht_capture_laws.proofs.Due.{by_carrier}

-- good fields lead from the state to the end of a capture
abbrev pub HasAnEnd : CaptureState → Type 0
HasAnEnd s = (more : List (List ℕ)) × (later : List Item) × (last : CaptureState) × Leads captures s more later last × IsEnd (capture_due last)

-- a good field in front of such an end
field_first : (s t : CaptureState) (x : List ℕ) (here : List Item) → IsField (capture_due s) x (Good t here) → HasAnEnd t → HasAnEnd s
field_first s t x here good e = (x ∷ e.0, here ++ e.1, e.2, (t, here, e.1, good, e.3, refl), e.4)

same_as : (s t : CaptureState) → s ≡ t → HasAnEnd t → HasAnEnd s
same_as s t is e = subst HasAnEnd (sym is) e

magic_ends : (xs : List ℕ) → HasAnEnd Version → HasAnEnd (capture_magic_due xs)
magic_ends [] e = e
magic_ends (x ∷ xs) e = field_first (Magic x xs) (capture_magic_due xs) (x ∷ []) [] (refl, good_magic x xs x refl) (magic_ends xs e)

-- the frames behind the one that is due can end
abbrev FramesEnd : Turn → Type 0
FramesEnd turn = (t : Turn) → t.left ≡ turn.left - 1 → HasAnEnd (turn_due t)

symbol_ends : (due : SymbolTurn) (present : List Present) → HasAnEnd (symbol_due (next_symbol due) present) → HasAnEnd (Symbol due present)
symbol_ends due present e =
    let wide : ℕ = due.count * carrier_octets due.head.rate - 1 + 1 in
    let x : List ℕ = replicate wide 0 in
    field_first (Symbol due present) _ x _ (length-replicate wide 0, symbol_good due present x) e

-- the symbols from one on
symbols_end : (n : ℕ) (due : SymbolTurn) (present : List Present) → due.symbols ≤ due.symbol + n → FramesEnd due.turn → HasAnEnd (symbol_due due present)
unfolding next_symbol next_turn
symbols_end zero due present few rest = same_as _ _ (frame_is_due due present (omega (arith, few))) (rest (next_turn due.turn) refl)
symbols_end (suc n) due present few rest =
    elim (cases_Bool (nat_lt due.symbol due.symbols)) [
      | inl t ↦
          let lt : due.symbol < due.symbols = grind (arith, nat_tests) in
          same_as _ _ (symbol_is_due due present lt) (symbol_ends due present (symbols_end n (next_symbol due) present (omega (arith, few)) rest))
      | inr f ↦
          let le : due.symbols ≤ due.symbol = grind (arith, nat_tests) in
          same_as _ _ (frame_is_due due present le) (rest (next_turn due.turn) refl)
    ]

symbol_ends_at : (due : SymbolTurn) (present : List Present) → FramesEnd due.turn → HasAnEnd (Symbol due present)
unfolding next_symbol
symbol_ends_at due present rest = symbol_ends due present (symbols_end due.symbols (next_symbol due) present (omega arith) rest)

triangle_ends : (turn : Turn) (head : FrameHead) (carrier : ℕ) (present : List Present)
    → ((seen : List Present) → HasAnEnd (carriers_due turn head (carrier + 1) seen)) → HasAnEnd (Triangle turn head carrier present)
triangle_ends turn head carrier present rest =
    let wide : ℕ = triangle_octets (streams_of head.rate) - 1 + 1 in
    let x : List ℕ = replicate wide 0 in
    field_first (Triangle turn head carrier present) _ x _ (length-replicate wide 0, good_triangle turn head carrier present x _ head.rate refl refl) (rest _)

flag_ends : (turn : Turn) (head : FrameHead) (carrier : ℕ) (present : List Present)
    → ((seen : List Present) → HasAnEnd (carriers_due turn head (carrier + 1) seen)) → HasAnEnd (Flag turn head carrier present)
flag_ends turn head carrier present rest =
    field_first (Flag turn head carrier present) _ (0 ∷ []) [] (refl, zero_flag turn head carrier present 0 refl) (triangle_ends turn head carrier present rest)

-- the subcarriers from one on
carriers_end : (n : ℕ) (turn : Turn) (head : FrameHead) (carrier : ℕ) (present : List Present)
    → carriers_of head.rate ≤ carrier + n → FramesEnd turn → HasAnEnd (carriers_due turn head carrier present)
carriers_end zero turn head carrier present few rest =
    same_as _ _ (symbol_is turn head carrier present (omega (arith, few))) (symbol_ends_at _ present rest)
carriers_end (suc n) turn head carrier present few rest =
    let next : (seen : List Present) → HasAnEnd (carriers_due turn head (carrier + 1) seen) =
    λ seen. carriers_end n turn head (carrier + 1) seen (omega (arith, few)) rest in
    by_carrier HasAnEnd turn head carrier present (λ le. symbol_ends_at _ present rest)
    (λ two. flag_ends turn head carrier present next) (λ one. triangle_ends turn head carrier present next)

all_carriers : (turn : Turn) (head : FrameHead) (carrier : ℕ) (present : List Present) → FramesEnd turn → HasAnEnd (carriers_due turn head carrier present)
all_carriers turn head carrier present rest = carriers_end (carriers_of head.rate) turn head carrier present (omega arith) rest

length_ends : (turn : Turn) (rate : Rate) → FramesEnd turn → HasAnEnd (Length turn rate)
length_ends turn rate rest =
    field_first (Length turn rate) _ (0 ∷ 1 ∷ []) [] (refl, good_length turn rate (0 ∷ 1 ∷ []) 1 refl (omega arith)) (all_carriers turn _ 0 [] rest)

mcs_ends : (turn : Turn) (bandwidth : ℕ) → FramesEnd turn → HasAnEnd (Mcs turn bandwidth)
unfolding judge_mcs
mcs_ends turn bandwidth rest = field_first (Mcs turn bandwidth) _ (0 ∷ []) [] (refl, refl) (length_ends turn (rate_at bandwidth 0) rest)

bandwidth_ends : (turn : Turn) → FramesEnd turn → HasAnEnd (Bandwidth turn)
bandwidth_ends turn rest = field_first (Bandwidth turn) _ (0 ∷ []) [] (refl, good_bandwidth turn 0 (omega arith)) (mcs_ends turn 0 rest)

-- the frames that are due
frames_end : (n : ℕ) (turn : Turn) → turn.left ≡ n → HasAnEnd (turn_due turn)
frames_end zero turn is = same_as _ _ (over_is turn is) ([], [], Over, (refl, refl), tt)
frames_end (suc n) turn is =
    same_as _ _ (frame_is turn (omega (arith, is))) (bandwidth_ends turn (λ t less. frames_end n t (omega (arith, is, less))))

behind : (turn : Turn) → FramesEnd turn
behind turn t less = frames_end t.left t refl

count_ends : (version : ℕ) → HasAnEnd (Count version)
count_ends version = field_first (Count version) _ (0 ∷ 0 ∷ []) [] (refl, good_count version 0 (0 ∷ 0 ∷ []) refl) (frames_end 0 _ refl)

version_ends : HasAnEnd Version
version_ends = field_first Version _ (1 ∷ []) [] (refl, good_version 1 refl) (count_ends 1)

pub state_ends : (s : CaptureState) → HasAnEnd s
state_ends (Magic x xs) = magic_ends (x ∷ xs) version_ends
state_ends Version = version_ends
state_ends (Count version) = count_ends version
state_ends (Bandwidth turn) = bandwidth_ends turn (behind turn)
state_ends (Mcs turn bandwidth) = mcs_ends turn bandwidth (behind turn)
state_ends (Length turn rate) = length_ends turn rate (behind turn)
state_ends (Flag turn head carrier present) = flag_ends turn head carrier present (λ seen. all_carriers turn head (carrier + 1) seen (behind turn))
state_ends (Triangle turn head carrier present) = triangle_ends turn head carrier present (λ seen. all_carriers turn head (carrier + 1) seen (behind turn))
state_ends (Symbol due present) = symbol_ends_at due present (behind due.turn)
state_ends Over = ([], [], Over, (refl, refl), tt)

pub can_end : CanEnd captures
can_end fields items state leads = state_ends state
