use Rattle.std.proofs.Common.{inl, inr}
use Rattle.std.proofs.lemmas.List.Elements.{All-from_recursion}
use Rattle.ht_capture_laws.proofs.Parts.{frames_of, parted_of}
use Rattle.ht_capture_laws.proofs.frames.whole_or_cut.Goals as goal

pub returns-clause-items : goal.returns-clause-items
returns-clause-items c = λ octets. (frames_of octets).all

pub returns-clause-order : goal.returns-clause-order
returns-clause-order c = λ octets. (parted_of octets).order

pub returns-clause-whole : goal.returns-clause-whole
returns-clause-whole c = λ octets. All-from_recursion _ _ (parted_of octets).whole

pub returns-clause-cut : goal.returns-clause-cut
returns-clause-cut c = λ octets. All-from_recursion _ _ (parted_of octets).cut

pub returns-clause-one : goal.returns-clause-one
returns-clause-one c = λ octets. (parted_of octets).one

pub returns-clause-truncated : goal.returns-clause-truncated
returns-clause-truncated c = λ octets.
    elim (parted_of octets).ended [
      | inl none ↦ inl none
      | inr within ↦ inr ((frames_of octets).early within)
    ]
