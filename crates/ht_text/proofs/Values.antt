-- Worked lines, by computation.
use Rattle.std.proofs.Common.{◌≡◌, ◌++◌, [], ◌∷◌, Some, None, pos, negsuc, refl, codes}
use Rattle.std.specs.Fmt.{digits}
use Rattle.ht_text.specs.Lines.{capture_text, job_text, frame_text, outcome_text, soft_text, sums_text, end_text, refused_text, usage_text, demo_text}
use Rattle.ht_text.specs.Lines.{line_feed}

-- one stream in BPSK: I is -1 and Q is 0
first_job : job_text 0 0 0 100 (negsuc 0 ∷ pos 0 ∷ []) ≡ codes "job 0 0 0 100 -1 0" ++ line_feed
unfolding job_text digits
first_job = refl

-- two streams in QPSK: I and Q of stream 1, then I and Q of stream 2
two_streams : job_text 2 19 55 5 (negsuc 0 ∷ negsuc 0 ∷ negsuc 0 ∷ pos 1 ∷ [])
    ≡ codes "job 2 19 55 5 -1 -1 -1 1" ++ line_feed
unfolding job_text digits
two_streams = refl

-- a distance above 2 ^ 64
farthest : job_text 0 0 0 36877727455641076052 (negsuc 6 ∷ pos 7 ∷ [])
    ≡ codes "job 0 0 0 36877727455641076052 -7 7" ++ line_feed
unfolding job_text digits
farthest = refl

no_seed : frame_text 0 10400 800 0 None
    ≡ codes "frame 0 data 10400 pilot 800 code 0 seed zero" ++ line_feed
unfolding frame_text sums_text outcome_text digits
no_seed = refl

octets : frame_text 1 0 0 1 (Some (0xa5 ∷ 0x09 ∷ 0x30 ∷ []))
    ≡ codes "frame 1 data 0 pilot 0 code 1 octets a50930" ++ line_feed
unfolding frame_text sums_text outcome_text digits
octets = refl

soft_octets : soft_text 0 0 (Some (0xa5 ∷ [])) ≡ codes "soft 0 cost 0 octets a5" ++ line_feed
unfolding soft_text outcome_text digits
soft_octets = refl

soft_no_seed : soft_text 7 131070 None ≡ codes "soft 7 cost 131070 seed zero" ++ line_feed
unfolding soft_text outcome_text digits
soft_no_seed = refl

second_capture : capture_text 1 ≡ codes "capture 1" ++ line_feed
unfolding capture_text digits
second_capture = refl

no_frames : end_text 0 ≡ codes "end 0 frames" ++ line_feed
unfolding end_text digits
no_frames = refl

cut_off : refused_text (codes "Truncated") 1018 ≡ codes "refused Truncated at 1018" ++ line_feed
unfolding refused_text digits
cut_off = refl

usage : usage_text ≡ codes "usage: radio COMMAND then options as --NAME DIGITS" ++ line_feed
unfolding usage_text
usage = refl

demonstration : demo_text 8 120 13680 8 0 0 0
    ≡ codes "demo frames 8 symbols 120 jobs 13680 matched 8 data 0 pilot 0 code 0" ++ line_feed
unfolding demo_text sums_text digits
demonstration = refl
