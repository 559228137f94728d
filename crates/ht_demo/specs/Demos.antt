-- The line of a demonstration: sample frames that are sent, pass the channel, and are received.
use Rattle.std.specs.Prelude.{◌≡◌, ℕ, ◌*◌, ◌^◌, ◌<◌, ◌≤◌, List, length, Bool, false}
use Rattle.std.specs.List.{count_by, sum_by, zip}
use Rattle.std.specs.Str.{bytes_eq}
use Rattle.ht_rate.specs.Rates.{carriers_of, symbols_of}
use Rattle.ht_tx.specs.Frames.{FrameView}
use Rattle.ht_tx.specs.Symbols.{SymbolsView}
use Rattle.ht_tx.specs.Transmitted.{AreTransmitted}
use Rattle.ht_capture.specs.declared.frames.CaptureFrame.{CaptureFrame}
use Rattle.ht_capture.specs.Files.{capture_file_of}
use Rattle.ht_sim.specs.Channel.{captures_of}
use Rattle.ht_sim.specs.Samples.{frames_drawn}
use Rattle.ht_inverse.specs.declared.outcome.Outcome.{Outcome}
use Rattle.ht_inverse.specs.declared.outcome.Outcome.TheVariants.{Octets, SeedZero}
use Rattle.ht_results.specs.declared.frame_result.FrameResult.{FrameResult}
use Rattle.ht_results.specs.Results.{results_of}
use Rattle.ht_text.specs.Lines.{demo_text}
use Rattle.ht_demo.specs.declared.plan.Plan.{Plan}

-- a plan of frames that can be sent: at most 65535 of them, of 1 to 65535 octets
pub record CanBeSent (plan : Plan) : Type 0 where
  pub some : 1 ≤ plan.length
  pub fits : plan.length ≤ 65535
  pub few : plan.frames ≤ 65535

-- the frames of a plan
abbrev pub planned : Plan → List FrameView
planned plan = frames_drawn plan.seed plan.rate plan.length plan.frames

-- the capture, as octets of version 1, that the plan's channel makes of sent symbols; it draws from the plan's seed on
abbrev pub capture_for : Plan → List SymbolsView → List ℕ
capture_for plan sent = capture_file_of 1 (captures_of plan.seed plan.noise sent)

-- the number of OFDM symbols of all frames
abbrev pub all_symbols : Plan → ℕ
all_symbols plan = plan.frames * symbols_of plan.rate plan.length

-- the number of their jobs, one for each subcarrier of each symbol
abbrev pub all_jobs : Plan → ℕ
all_jobs plan = all_symbols plan * carriers_of plan.rate

-- the outcome of a frame is these octets
abbrev pub is_outcome : List ℕ → Outcome → Bool
is_outcome octets (Octets those) = bytes_eq those octets
is_outcome octets SeedZero = false

-- how many frames have the octets that were sent as their outcome
abbrev pub matched_in : List FrameView → List FrameResult → ℕ
matched_in frames results = count_by (λ both. is_outcome both.0.octets both.1.outcome) (zip frames results)

-- the sum of the distances of all data jobs, over all frames
abbrev pub data_in : List FrameResult → ℕ
data_in results = sum_by (λ r. r.data_sum) results

-- the same of the pilot jobs
abbrev pub pilot_in : List FrameResult → ℕ
pilot_in results = sum_by (λ r. r.pilot_sum) results

-- the number of places at which a codeword differs from the detected bits, over all frames
abbrev pub code_in : List FrameResult → ℕ
code_in results = sum_by (λ r. r.code) results

-- results of at most 65535 frames, whose sums of distances fit 128 bits
pub record SumsFit (results : List FrameResult) : Type 0 where
  pub few : length results ≤ 65535
  pub data_sums : data_in results < 2 ^ 128
  pub pilot_sums : pilot_in results < 2 ^ 128

-- the line of a plan whose frames have these results
unfoldable pub line_of : Plan → List FrameResult → List ℕ
line_of plan results =
    demo_text plan.frames (all_symbols plan) (all_jobs plan) (matched_in (planned plan) results) (data_in results) (pilot_in results) (code_in results)

-- the line is a plan's: symbols are transmitted for the plan's frames, and the line tells the results of their capture
pub record IsDemoLine (plan : Plan) (line : List ℕ) : Type 0 where
  pub sent : List SymbolsView
  pub transmitted : AreTransmitted (planned plan) sent
  pub is : line ≡ line_of plan (results_of (capture_for plan sent))

-- the line of a plan whose frames all come back, at distance 0 and without a wrong bit
unfoldable pub returned_line : Plan → List ℕ
returned_line plan = demo_text plan.frames (all_symbols plan) (all_jobs plan) plan.frames 0 0 0

-- what a demonstration gives: the line of its plan; without noise every frame comes back, and all sums are 0
pub record Demonstrates (plan : Plan) (line : List ℕ) : Type 0 where
  pub of_plan : IsDemoLine plan line
  pub noiseless : plan.noise ≡ 0 → line ≡ returned_line plan

-- frames of a capture are what the plan's channel makes of the symbols that are transmitted for these frames
abbrev pub ArePassed : Plan → List FrameView → List CaptureFrame → Type 0
ArePassed plan frames captured = (sent : List SymbolsView) × AreTransmitted frames sent × (captured ≡ captures_of plan.seed plan.noise sent)

-- the same of a capture as octets
abbrev pub IsPassed : Plan → List FrameView → List ℕ → Type 0
IsPassed plan frames octets = (sent : List SymbolsView) × AreTransmitted frames sent × (octets ≡ capture_for plan sent)

-- what was sent for a plan: its frames, and the octets of the capture that they come to, whose sums fit
pub record AreSent (plan : Plan) (frames : List FrameView) (octets : List ℕ) : Type 0 where
  pub of_plan : frames ≡ planned plan
  pub passed : IsPassed plan frames octets
  pub sums : SumsFit (results_of octets)

-- these are the results of the capture of what was sent
abbrev pub AreResults : Plan → List FrameView → List FrameResult → Type 0
AreResults plan frames results = (octets : List ℕ) × AreSent plan frames octets × (results ≡ results_of octets)
