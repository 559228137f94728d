-- The command that the words ask for, and what its run promises.
use Rattle.std.specs.Prelude.{◌≡◌, ◌≢◌, ℕ, List, [], Option, Some, None}
use Rattle.ht_io.specs.Devices.{Device}
use Rattle.ht_fields.specs.Tests.{AreBytes}
use Rattle.ht_capture.specs.Fields.{captures}
use Rattle.ht_text.specs.Lines.{usage_text}
use Rattle.ht_results.specs.JobTexts.{detect_text, lines_of}
use Rattle.ht_results.specs.Texts.{frame_lines_of, rx_text}
use Rattle.ht_cli.specs.declared.status.Status.{Status}
use Rattle.ht_cli.specs.declared.status.Status.TheVariants.{Done, NoMemory, WriteFault}
use Rattle.ht_words.specs.declared.asked.Asked.{Asked}
use Rattle.ht_words.specs.declared.asked.Asked.TheVariants.{Detect, Rx, Soft, LegacyRx, Many, Tx, Channel, Upgrade, Certify, Check, LegacyChannel, Demo}
use Rattle.ht_cli.specs.Commands.{Command, Reads, Converts, Makes, Answers, Rejects}
use Rattle.ht_cli.specs.Filters.{streaming, whole}
use Rattle.ht_sim.specs.Converting.{SendsTo, UpgradesTo}
use Rattle.ht_files.specs.Frames.{frames}
use Rattle.ht_files.specs.Points.{symbols}
use Rattle.ht_sim.specs.Passing.{PassesTo}
use Rattle.ht_cert.specs.Formats.{certificates}
use Rattle.ht_certify.specs.Certifying.{certifying}
use Rattle.ht_certify.specs.Checks.{check_lines, check_text}
use Rattle.ht_legacy_sim.specs.Passing.{passing as legacy_passing}
use Rattle.ht_legacy_files.specs.CaptureFormats.{captures as legacy_captures}
use Rattle.ht_legacy_rx.specs.Texts.{legacy_lines_of, legacy_text}
use Rattle.ht_soft_rx.specs.Texts.{soft_lines_of, soft_rx_text}
use Rattle.ht_many.specs.Bundles.{receiving}
use Rattle.ht_rate.specs.declared.rates.Rate.{Rate}
use Rattle.ht_demo.specs.declared.plan.Plan.{Plan}
use Rattle.ht_demo.specs.Demos.{Demonstrates}

-- what a demonstration is to do
abbrev pub plan_of : ℕ → ℕ → ℕ → Rate → ℕ → Plan
plan_of seed noise count rate length = record { seed = seed; noise = noise; frames = count; rate = rate; length = length }

-- What each command reads and writes. How many workers there are, and how large their window is, changes nothing of it.
abbrev pub command_of : Asked → Command
command_of (Detect workers window) = streaming captures detect_text lines_of
command_of (Rx workers window) = streaming captures rx_text frame_lines_of
command_of (Soft workers window) = streaming captures soft_rx_text soft_lines_of
command_of (LegacyRx workers window) = streaming legacy_captures legacy_text legacy_lines_of
command_of (Many workers window) = Converts receiving
command_of Tx = whole frames SendsTo
command_of (Channel seed noise) = whole symbols (PassesTo seed noise)
command_of Upgrade = whole captures UpgradesTo
command_of Certify = Converts certifying
command_of Check = streaming certificates check_text check_lines
command_of (LegacyChannel seed noise) = Converts (legacy_passing seed noise)
command_of (Demo seed noise count rate length workers window) = Makes (Demonstrates (plan_of seed noise count rate length))

-- what each status says of a run: first the source before and after it, then the sink
abbrev pub Answered : Option Asked → Device ℕ → Device ℕ → Device ℕ → Device ℕ → Status → Type 0
Answered (Some asked) source source' sink sink' status = Answers (command_of asked) source source' sink sink' status
Answered None source source' sink sink' status = Rejects usage_text sink sink' status

-- what a status says of a run of the one command, it also says of a run of the other, over the same devices
abbrev pub AnswersAs : Asked → Asked → Type 0
AnswersAs one other = (a b c d : Device ℕ) (status : Status) → Answered (Some one) a b c d status → Answered (Some other) a b c d status

-- A run of `certify` is done: these are the octets that its source had left, and this output is what its sink, which was
-- empty, holds then.
abbrev pub HasCertified : List ℕ → List ℕ → Device ℕ → Device ℕ → Device ℕ → Device ℕ → Type 0
HasCertified all output source source' sink sink' =
    AreBytes all × (source.known ≡ Some all) × (sink.known ≡ Some []) × (sink'.known ≡ Some output)
    × Answered (Some Certify) source source' sink sink' Done

-- the command reads nothing
abbrev pub IsMaker : Command → Type 0
IsMaker (Reads filter) = ⊥
IsMaker (Converts conversion) = ⊥
IsMaker (Makes IsText) = Unit {0}

-- the words ask for no command that reads
abbrev pub ReadsNothing : Option Asked → Type 0
ReadsNothing (Some asked) = IsMaker (command_of asked)
ReadsNothing None = Unit {0}

-- What a run promises: as devices of these kinds are shown, from what the words ask for, the source and the sink, before and
-- after, and the status.
pub record CarriesOut {S K : Type 0} (reads : S → Device ℕ) (puts : K → Device ℕ) (asked : Option Asked) (source source' : S) (sink sink' : K)
    (status : Status) : Type 0 where
  -- what the words ask for is done, or why it can't be is said
  pub answered : Answered asked (reads source) (reads source') (puts sink) (puts sink') status
  -- a command that reads nothing leaves its source alone, and so do words that aren't accepted
  pub reads_nothing : ReadsNothing asked → source' ≡ source
  -- where the words aren't accepted and there is no memory for the usage line, nothing is put
  pub puts_nothing : asked ≡ None → status ≡ NoMemory → sink' ≡ sink
  -- where the sink failed the answer is WriteFault, whatever else failed
  pub writes : status ≢ WriteFault → (puts sink').faults ≡ (puts sink).faults
