-- From every state of a file of certificates good fields lead to its end.
use Rattle.std.proofs.Common.{◌≡◌, ℕ, zero, suc, ◌+◌, ◌-◌, [], ◌∷◌, replicate, refl, ap, arith}
use Rattle.std.proofs.lemmas.List.{length-replicate}
use Rattle.ht_io.specs.declared.faults.Kind.TheVariants.{BadLength, BadModulation, BadStreams, BadMark}
use Rattle.ht_fields.specs.Cases.{CanEnd}
use Rattle.ht_fields.specs.Tests.{is_above}
use Rattle.ht_fields.proofs.Choices.{checked_good}
use Rattle.ht_heads.specs.Starts.{StartState, Body, is_outside}
use Rattle.ht_heads.proofs.Leading.{not_above}
use Rattle.ht_counted.proofs.Ends.{HasAnEnd, can_end, field_first, over_end, same_as}
use Rattle.ht_rate.specs.declared.kinds.Modulation.{Modulation}
use Rattle.ht_cert.specs.declared.record.Record.{Record}
use Rattle.ht_cert.specs.declared.turn.Turn.{Turn}
use Rattle.ht_cert.specs.Formats.{RecordState, Modulated, Streams, Claim, Marks, Mark, certificates, is_no_streams, mark_limits, recorded}
use Rattle.ht_cert.specs.Formats.{good_claim, good_mark, good_marks, good_modulation, good_streams, marked, marks_due, marks_given, next_turn, records_due}
use Rattle.ht_cert.specs.Records.{claim_width}
use Rattle.ht_cert.proofs.Routes.{is_count, mark_is, over_is, record_is, whole_is}

abbrev State : Type 0
State = StartState RecordState

-- good fields lead from the state to the end of a file
abbrev HasEnd : State → Type 0
HasEnd = HasAnEnd certificates

-- the records behind the one that is due can end
abbrev RestEnds : Turn → Type 0
RestEnds turn = (t : Turn) → t.left ≡ turn.left - 1 → HasEnd (records_due t)

-- a mark, and then the others
mark_first : (left : ℕ) (turn : Turn) (r : Record) → ((q : Record) → HasEnd (marks_due turn q (left - 1))) → HasEnd (Body (Mark turn r left))
unfolding good_mark
mark_first left turn r rest =
    field_first certificates (Body (Mark turn r left)) (marks_due turn (marked r (0 ∷ [])) (left - 1)) (0 ∷ []) (marks_given (marked r (0 ∷ [])) (left - 1))
    (refl, checked_good BadMark (is_above 1) (good_mark turn r left) (0 ∷ []) _ (not_above 0 1 (omega arith)) refl) (rest (marked r (0 ∷ [])))

-- the marks that are left
marks_end : (left : ℕ) (turn : Turn) (r : Record) → RestEnds turn → HasEnd (marks_due turn r left)
unfolding next_turn
marks_end zero turn r rest = same_as certificates (marks_due turn r 0) (records_due (next_turn turn)) (whole_is turn r 0 refl) (rest (next_turn turn) refl)
marks_end (suc n) turn r rest =
    let less : suc n - 1 ≡ n = omega arith in
    same_as certificates (marks_due turn r (suc n)) (Body (Mark turn r (suc n))) (mark_is turn r (suc n) (omega arith))
    (mark_first (suc n) turn r (λ q. same_as certificates (marks_due turn q (suc n - 1)) (marks_due turn q n) (ap (marks_due turn q) less)
    (marks_end n turn q rest)))

mark_ends : (left : ℕ) (turn : Turn) (r : Record) → RestEnds turn → HasEnd (Body (Mark turn r left))
mark_ends left turn r rest = mark_first left turn r (λ q. marks_end (left - 1) turn q rest)

number_ends : (turn : Turn) (r : Record) → RestEnds turn → HasEnd (Body (Marks turn r))
unfolding good_marks is_outside
number_ends turn r rest =
    field_first certificates (Body (Marks turn r)) _ (0 ∷ 0 ∷ 0 ∷ 0 ∷ []) _
    (refl, checked_good BadLength (is_outside mark_limits) (good_marks turn r) (0 ∷ 0 ∷ 0 ∷ 0 ∷ []) _ refl refl) (marks_end 0 turn r rest)

claim_ends : (turn : Turn) (m : Modulation) (streams : ℕ) → RestEnds turn → HasEnd (Body (Claim turn m streams))
unfolding good_claim
claim_ends turn m streams rest =
    let wide : ℕ = claim_width streams - 1 + 1 in
    field_first certificates (Body (Claim turn m streams)) _ (replicate wide 0) [] (length-replicate wide 0, refl) (number_ends turn _ rest)

streams_end : (turn : Turn) (m : Modulation) → RestEnds turn → HasEnd (Body (Streams turn m))
unfolding good_streams
streams_end turn m rest =
    field_first certificates (Body (Streams turn m)) _ (1 ∷ []) [] (refl, checked_good BadStreams is_no_streams (good_streams turn m) (1 ∷ []) _ refl refl)
    (claim_ends turn m 1 rest)

modulation_ends : (turn : Turn) → RestEnds turn → HasEnd (Body (Modulated turn))
unfolding good_modulation
modulation_ends turn rest =
    field_first certificates (Body (Modulated turn)) _ (0 ∷ []) []
    (refl, checked_good BadModulation (is_above 3) (good_modulation turn) (0 ∷ []) _ (not_above 0 3 (omega arith)) refl) (streams_end turn _ rest)

-- the records that are due
records_end : (n : ℕ) (turn : Turn) → turn.left ≡ n → HasEnd (records_due turn)
records_end zero turn is = same_as certificates _ _ (over_is turn is) (over_end recorded)
records_end (suc n) turn is =
    same_as certificates _ _ (record_is turn (omega (arith, is))) (modulation_ends turn (λ t less. records_end n t (omega (arith, is, less))))

behind : (turn : Turn) → RestEnds turn
behind turn t less = records_end t.left t refl

body_ends : (b : RecordState) → HasEnd (Body b)
body_ends (Modulated turn) = modulation_ends turn (behind turn)
body_ends (Streams turn m) = streams_end turn m (behind turn)
body_ends (Claim turn m streams) = claim_ends turn m streams (behind turn)
body_ends (Marks turn r) = number_ends turn r (behind turn)
body_ends (Mark turn r left) = mark_ends left turn r (behind turn)

pub certificates_can_end : CanEnd certificates
certificates_can_end = can_end recorded is_count (records_end 0 _ refl) body_ends
