-- Sizes of text that suffice for a capture, of which little is read.
use Rattle.std.specs.Prelude.{◌≡◌, ℕ, ◌+◌, ◌*◌, ◌/◌, ◌≤◌, ◌==◌, min, if◌then◌else◌, List, length, slice_index, All}
use Rattle.ht_bundles.specs.Files.{AreCaptures, bundle_of}
use Rattle.ht_capture.specs.Fields.{captures}
use Rattle.ht_runs.specs.Filters.{Filter}
use Rattle.ht_runs.specs.Formats.{IsWhole}
use Rattle.ht_many.specs.Bundles.{many_text}

-- a text of this size has room for the text of the octets, where these are a whole input
abbrev pub Suffices : Filter → List ℕ → ℕ → Type 0
Suffices f octets size = f.IsInput octets → length (f.text octets) ≤ size

-- Room for the lines of all jobs of a capture of so many octets. A job has 8 octets for each stream, and a line of at most
-- 41 characters and 6 for each stream.
abbrev pub jobs_room : ℕ → ℕ
jobs_room octets = 6 * octets

-- Room for the lines of so many frames in a capture of this version and of so many octets. A line has at most 107
-- characters and two for each octet of its frame. Where no subcarrier is erased, as in version 1, twice as many fit the
-- frame's octets in the capture. In version 2 a symbol may have a single subcarrier; a frame has at most 65535 octets.
abbrev pub frames_room : ℕ → ℕ → ℕ → ℕ
frames_room version frames octets = 32 + (if version == 2 then min (17 * octets) (131177 * frames) else octets / 2)

-- the same by the version and the number of frames that stand in the octets
abbrev pub room_said : List ℕ → ℕ
room_said octets = frames_room (slice_index octets 4) (256 * slice_index octets 5 + slice_index octets 6) (length octets)

-- Room for the lines of the frames of a clause 18 capture of so many octets: in it each frame takes twice as many at least.
abbrev pub legacy_room : ℕ → ℕ
legacy_room octets = 32 + octets / 2

-- Room for the lines of a check of a file of certificates of so many octets. A certificate takes 34 octets at least, and its
-- line has at most 58 characters.
abbrev pub checks_room : ℕ → ℕ
checks_room octets = 16 + 2 * octets

-- Room for the texts of the captures of a bundle of so many octets: that of each is as above, in either version.
abbrev pub bundle_room : ℕ → ℕ
bundle_room octets = 17 * octets

-- a text of this size has room for what is written of a bundle, if each capture in it is whole
abbrev pub SufficesForWhole : List ℕ → ℕ → Type 0
SufficesForWhole octets size =
    (bundled : List (List ℕ)) → AreCaptures bundled → octets ≡ bundle_of bundled → All (IsWhole captures) bundled → length (many_text bundled) ≤ size
