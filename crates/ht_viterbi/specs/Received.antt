-- What is known of a coded bit, as the definitions have it.
use Rattle.std.specs.Prelude.{Bool, true, false, Option, None, Some}
use Rattle.ht_viterbi.specs.declared.received_bit.ReceivedBit.{ReceivedBit}
use Rattle.ht_viterbi.specs.declared.received_bit.ReceivedBit.TheVariants.{Erased, Zero, One}

-- its bit, and None where it is erased
abbrev pub known_of : ReceivedBit → Option Bool
known_of Erased = None
known_of Zero = Some false
known_of One = Some true
