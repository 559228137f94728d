use Rattle.std.proofs.lemmas.List.Elements.{All-from_recursion}
use Rattle.ht_capture.specs.Captures.{capture_of}
use Rattle.ht_capture_laws.specs.Items.{frames_in}
use Rattle.ht_capture_laws.proofs.Parts.{all_placed, frames_of, heads_good, heads_numbered, jobs_numbered}
use Rattle.ht_capture_laws.proofs.frames.numbers_and_places.Goals as goal

pub returns-clause-frames : goal.returns-clause-frames
returns-clause-frames c = λ octets. heads_numbered (frames_of octets).last 0 0 (frames_in (capture_of octets).items) (frames_of octets).are

pub returns-clause-jobs : goal.returns-clause-jobs
returns-clause-jobs c = λ octets. jobs_numbered (frames_of octets).last 0 0 (frames_in (capture_of octets).items) (frames_of octets).are

pub returns-clause-heads : goal.returns-clause-heads
returns-clause-heads c = λ octets. All-from_recursion _ _ (heads_good (frames_of octets).last 0 0 (frames_in (capture_of octets).items) (frames_of octets).are)

pub returns-clause-places : goal.returns-clause-places
returns-clause-places c = λ octets. All-from_recursion _ _ (all_placed (frames_of octets).last 0 0 (frames_in (capture_of octets).items) (frames_of octets).are)
