-- What a run comes to that reads a capture and puts lines while it reads, in the words of captures.
use Rattle.std.specs.Prelude.{◌≡◌, ◌⊎◌, ℕ, ◌<◌, List, length, take, Some, IfSome}
use Rattle.ht_io.specs.Devices.{Device, Takes, TakesAll, Grows, GrowsByPart}
use Rattle.ht_io.specs.declared.faults.FormatFault.{FormatFault}
use Rattle.ht_fields.specs.Cases.{IsFile, IsClean}
use Rattle.ht_capture.specs.Captures.{capture_of}
use Rattle.ht_capture.specs.Fields.{captures}
use Rattle.ht_cli.specs.declared.status.Status.{Status}
use Rattle.ht_cli.specs.Commands.{Answers}
use Rattle.ht_cli.specs.Filters.{streaming}

-- the octets are a capture
abbrev pub IsCapture : List ℕ → Type 0
IsCapture octets = IsFile captures octets (capture_of octets).items

-- the octets are good fields of a capture, and then fewer than the next field has
abbrev pub IsCleanFront : List ℕ → Type 0
IsCleanFront octets = IsClean captures octets (capture_of octets).items

-- the octets are a capture or clean
abbrev pub IsFaultlessCapture : List ℕ → Type 0
IsFaultlessCapture octets = IsCapture octets ⊎ IsCleanFront octets

-- the lines of a list of octets, and its reference text; the source and the sink before a run and after it
module _ (lines text : List ℕ → List ℕ) (source source' sink sink' : Device ℕ) where
  -- what a status says of such a run, in the form for all commands
  abbrev pub StreamsAs : Status → Type 0
  StreamsAs status = Answers (streaming captures text lines) source source' sink sink' status

  -- what was left of the source is a capture, all of it was taken, and its reference text was put
  pub record StreamsWhole : Type 0 where
    pub taken : List ℕ
    pub octets : TakesAll source source' taken
    pub capture : IsCapture taken
    pub put : Grows sink sink' (text taken)

  -- What was left is no capture, and its reference text was put, which names its first fault. The octets taken end with
  -- the field at fault: they have this fault, and no shorter front of them has one; so of an input that ends early all
  -- were taken, and an octet behind a capture is the last one taken.
  pub record StreamsRefused : Type 0 where
    pub taken : List ℕ
    pub fault : FormatFault
    pub octets : Takes source source' taken
    pub refused : (capture_of taken).fault ≡ Some fault
    pub ends : (n : ℕ) → n < length taken → IsFaultlessCapture (take n taken)
    pub put : Grows sink sink' (text taken)
    pub no_capture : IfSome source.known (λ all. IsCapture all → ⊥)
    pub same_fault : IfSome source.known (λ all. (capture_of all).fault ≡ Some fault)
    pub same_text : IfSome source.known (λ all. text all ≡ text taken)

  -- the octets taken are a capture or clean, and their lines were put
  pub record StreamsFront : Type 0 where
    pub taken : List ℕ
    pub octets : Takes source source' taken
    pub front : IsFaultlessCapture taken
    pub put : Grows sink sink' (lines taken)

  -- a part of the reference text was put
  pub record StreamsPart : Type 0 where
    pub taken : List ℕ
    pub octets : Takes source source' taken
    pub put : GrowsByPart sink sink' (text taken)
    pub of_all : IfSome source.known (λ all. GrowsByPart sink sink' (text all))

  -- a part of the lines was put
  pub record StreamsLines : Type 0 where
    pub taken : List ℕ
    pub octets : Takes source source' taken
    pub put : GrowsByPart sink sink' (lines taken)
    pub of_all : IfSome source.known (λ all. GrowsByPart sink sink' (lines all))
