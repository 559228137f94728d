-- The lines of text that the radio prints, each as the list of its octets with its line feed.
--
-- A number is written by `decimal`, without leading zeros, and a signed one by `signed_decimal`,
-- which puts a minus before the digits of a negative number. Words are set apart by one space.
use Rattle.std.specs.Prelude.{ℕ, ◌+◌, ◌*◌, ℤ, List, [], ◌∷◌, ◌++◌, ◌/◌, ◌%◌, length, Option, Some, None, codes, decimal, slice_index}
use Rattle.std.specs.Fmt.{signed_decimal}

-- the line feed that ends each line
abbrev pub line_feed : List ℕ
line_feed = 10 ∷ []

-- a space and the number, for each number
abbrev pub spaced : List ℤ → List ℕ
spaced [] = []
spaced (x ∷ xs) = (32 ∷ signed_decimal x) ++ spaced xs

-- `job FRAME SYMBOL CARRIER DISTANCE I Q`, with a further ` I Q` for each further spatial stream:
-- the place of a detection job, the squared distance of its nearest vector, and that vector
unfoldable pub job_text : ℕ → ℕ → ℕ → ℕ → List ℤ → List ℕ
job_text frame symbol carrier distance points =
    codes "job " ++ decimal frame ++ codes " " ++ decimal symbol ++ codes " " ++ decimal carrier
    ++ codes " " ++ decimal distance ++ spaced points ++ line_feed

-- the digit of a number below 16, in lower case
abbrev pub hex_digit : ℕ → ℕ
hex_digit n = slice_index (codes "0123456789abcdef") n

-- two hexadecimal digits for each octet, the high half first
abbrev pub hex : List ℕ → List ℕ
hex [] = []
hex (octet ∷ octets) = hex_digit (octet / 16) ∷ hex_digit (octet % 16) ∷ hex octets

-- what a frame came to: its octets, or that the scrambler's seed would be zero
unfoldable pub outcome_text : Option (List ℕ) → List ℕ
outcome_text (Some octets) = codes " octets " ++ hex octets
outcome_text None = codes " seed zero"

-- no fewer characters than what a frame came to has, with the line feed behind it
abbrev pub outcome_room : Option (List ℕ) → ℕ
outcome_room (Some octets) = 11 + 2 * length octets
outcome_room None = 11

-- ` data D pilot P code C`: the sums of the distances of the data jobs and of the pilot jobs, and
-- the Hamming distance of the codewords from the detected bits
unfoldable pub sums_text : ℕ → ℕ → ℕ → List ℕ
sums_text data_sum pilot_sum code =
    codes " data " ++ decimal data_sum ++ codes " pilot " ++ decimal pilot_sum ++ codes " code "
    ++ decimal code

-- `frame N data D pilot P code C octets HEX`, or `frame N data D pilot P code C seed zero`
unfoldable pub frame_text : ℕ → ℕ → ℕ → ℕ → Option (List ℕ) → List ℕ
frame_text frame data_sum pilot_sum code outcome =
    codes "frame " ++ decimal frame ++ sums_text data_sum pilot_sum code ++ outcome_text outcome
    ++ line_feed

-- `soft N cost C octets HEX`, or `soft N cost C seed zero`: a frame decoded from weights, and what its codewords cost
unfoldable pub soft_text : ℕ → ℕ → Option (List ℕ) → List ℕ
soft_text frame cost outcome = codes "soft " ++ decimal frame ++ codes " cost " ++ decimal cost ++ outcome_text outcome ++ line_feed

-- `capture K`: what follows is of the capture with this number
unfoldable pub capture_text : ℕ → List ℕ
capture_text number = codes "capture " ++ decimal number ++ line_feed

-- `job N yes`: the certificate with this number holds
unfoldable pub yes_text : ℕ → List ℕ
yes_text number = codes "job " ++ decimal number ++ codes " yes" ++ line_feed

-- `job N no NAME at M`: it doesn't, by what is wrong with it, and the number that goes with that
unfoldable pub no_text : ℕ → List ℕ → ℕ → List ℕ
no_text number name at = codes "job " ++ decimal number ++ codes " no " ++ name ++ codes " at " ++ decimal at ++ line_feed

-- `end J jobs yes Y`: a whole file of J certificates was checked, of which Y hold
unfoldable pub checked_text : ℕ → ℕ → List ℕ
checked_text jobs right = codes "end " ++ decimal jobs ++ codes " jobs yes " ++ decimal right ++ line_feed

-- `end N frames`: the whole capture was received
unfoldable pub end_text : ℕ → List ℕ
end_text frames = codes "end " ++ decimal frames ++ codes " frames" ++ line_feed

-- `refused NAME at OFFSET`: the input's first fault, and the octet where it stands
unfoldable pub refused_text : List ℕ → ℕ → List ℕ
refused_text name offset = codes "refused " ++ name ++ codes " at " ++ decimal offset ++ line_feed

-- how the program is called
unfoldable pub usage_text : List ℕ
usage_text = codes "usage: radio COMMAND then options as --NAME DIGITS" ++ line_feed

-- `demo frames F symbols S jobs J matched M data D pilot P code C`: sums over all sample frames
unfoldable pub demo_text : ℕ → ℕ → ℕ → ℕ → ℕ → ℕ → ℕ → List ℕ
demo_text frames symbols jobs matched data_sum pilot_sum code =
    codes "demo frames " ++ decimal frames ++ codes " symbols " ++ decimal symbols ++ codes " jobs "
    ++ decimal jobs ++ codes " matched " ++ decimal matched ++ sums_text data_sum pilot_sum code
    ++ line_feed
