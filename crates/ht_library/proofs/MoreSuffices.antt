-- The texts of clause 18 captures, of files of certificates and of bundles have the room that their octets say.
use Rattle.std.proofs.Common.{◌≡◌, ℕ, zero, suc, ◌+◌, ◌*◌, ◌/◌, ◌<◌, ◌≤◌, List, [], ◌∷◌, ◌++◌, length, map, flat_map, min, All}
use Rattle.std.proofs.Common.{Bool, true, false, ◌==◌, if◌then◌else◌, Option, None, Some, refl, sym, ap, subst, ◌∙◌, arith, length-append}
use Rattle.std.specs.List.{AllByRecursion}
use Rattle.std.specs.Prelude.{slice_index}
use Rattle.std.proofs.lemmas.List.Elements.{recursion_from_All}
use Rattle.byteorder.specs.Endian.{big_bytes}
use Rattle.ht_io.specs.declared.faults.FormatFault.{FormatFault}
use Rattle.ht_fields.specs.Cases.{File}
use Rattle.ht_fields.specs.Meanings.{Meaning, meaning}
use Rattle.ht_fields.specs.Tests.{AreBytes}
use Rattle.ht_fields.proofs.Answered.{met}
use Rattle.ht_heads.specs.Starts.{started_octets}
use Rattle.ht_counted.proofs.Passing.{bytes_behind, bytes_front}
use Rattle.ht_capture.specs.Fields.{captures}
use Rattle.ht_bundles.specs.Files.{AreCaptures, bundle_of, sized_octets}
use Rattle.ht_bundles.specs.Formats.{bundle_magic}
use Rattle.ht_cert.specs.declared.record.Record.{Record}
use Rattle.ht_cert.specs.Files.{certificates_file_of, record_octets}
use Rattle.ht_cert.specs.Formats.{certificates}
use Rattle.ht_cert.proofs.Back.{file_back as certificates_back}
use Rattle.ht_certify.specs.Checks.{check_end_of, check_lines_of, check_text, yes_of}
use Rattle.ht_legacy_files.specs.CaptureFormats.{captures as legacy_captures}
use Rattle.ht_legacy_files.specs.CaptureItems.{LegacyItem}
use Rattle.ht_legacy_blocks.specs.Frames.{at_first}
use Rattle.ht_legacy_rx.specs.Texts.{end_of_legacy, legacy_items, legacy_meaning, legacy_text, lines_in}
use Rattle.ht_feed.specs.Items.{frames_of}
use Rattle.ht_results.specs.Texts.{rx_text}
use Rattle.ht_runs.specs.Formats.{IsWhole, fault_in, last_text}
use Rattle.ht_many.specs.Bundles.{many_text, texts_from}
use Rattle.ht_text.specs.Lines.{capture_text}
use Rattle.ht_library.specs.Sizes.{bundle_room, checks_room, frames_room, legacy_room}
use Rattle.ht_library.proofs.CheckLines.{lines-long as check_lines-long, right-few}
use Rattle.ht_library.proofs.LegacyLines.{frames_given, lines_long}
use Rattle.ht_library.proofs.LegacyRooms.{begun, file_holds}
use Rattle.ht_library.proofs.LineLengths.{capture-long, checked-long, end-long}
use Rattle.ht_library.proofs.Suffices.{rx-room}

-- a capture of clause 18 frames
pub lrx-room : (octets : List ℕ) → AreBytes octets → IsWhole legacy_captures octets → length (legacy_text octets) ≤ legacy_room (length octets)
unfolding legacy_text
lrx-room octets bytes whole =
    let items : List LegacyItem = (legacy_meaning octets).items in
    let held = file_holds octets items bytes whole in
    let few = held.few in
    let room = held.room in
    let none : fault_in legacy_captures octets ≡ None = ap (λ (m : Meaning LegacyItem). m.fault) (met legacy_captures octets items File whole) in
    let frames : frames_of (legacy_items items) ≤ 65535 = omega (arith, frames_given at_first items, few) in
    let last : length (last_text (fault_in legacy_captures octets) (end_of_legacy items)) ≤ 17 =
    subst (λ (fault : Option FormatFault). length (last_text fault (end_of_legacy items)) ≤ 17) (sym none) (end-long (frames_of (legacy_items items)) frames) in
    omega (
      arith,
      length-append (lines_in items) (last_text (fault_in legacy_captures octets) (end_of_legacy items)),
      lines_long items few held.good,
      room,
      last,
    )

-- a file of certificates
certificates-long : (records : List Record) → length (certificates_file_of records) ≡ 13 + length (flat_map record_octets records)
unfolding certificates_file_of started_octets
certificates-long records = omega arith

pub check-room : (octets : List ℕ) → AreBytes octets → IsWhole certificates octets → length (check_text octets) ≤ checks_room (length octets)
check-room octets bytes whole =
    let items : List Record = (meaning certificates certificates.start 0 octets).items in
    let back = certificates_back octets items bytes whole in
    let few = back.0.few in
    let none : fault_in certificates octets ≡ None = ap (λ (m : Meaning Record). m.fault) (met certificates octets items File whole) in
    let size : length octets ≡ 13 + length (flat_map record_octets items) = ap length back.1 ∙ certificates-long items in
    let last : length (last_text (fault_in certificates octets) (check_end_of items)) ≤ 39 =
    subst (λ (fault : Option FormatFault). length (last_text fault (check_end_of items)) ≤ 39) (sym none)
    (checked-long (length items) (yes_of items) (omega (arith, few)) (omega (arith, few, right-few items))) in
    omega (
      arith,
      length-append (check_lines_of items) (last_text (fault_in certificates octets) (check_end_of items)),
      check_lines-long 0 items (omega (arith, few)) back.0.numbered,
      size,
      last,
    )

-- a bundle of whole captures
either-room : (b : Bool) (octets frames : ℕ) → 32 + (if b then min (17 * octets) (131177 * frames) else octets / 2) ≤ 32 + 17 * octets
either-room true octets frames = omega arith
either-room false octets frames = omega arith

capture-room : (octets : List ℕ) → AreBytes octets → IsWhole captures octets → length (rx_text octets) ≤ 32 + 17 * length octets
capture-room octets bytes whole =
    let frames : ℕ = 256 * slice_index octets 5 + slice_index octets 6 in
    omega (arith, rx-room octets bytes whole, either-room (slice_index octets 4 == 2) (length octets) frames)

texts-long : (number : ℕ) (bundled : List (List ℕ)) → number + length bundled ≤ 16 → AreBytes (flat_map sized_octets bundled)
    → AllByRecursion (IsWhole captures) bundled → length (texts_from number (map rx_text bundled)) ≤ 17 * length (flat_map sized_octets bundled)
unfolding sized_octets
texts-long number [] few bytes whole = omega arith
texts-long number (c ∷ bundled) few bytes whole =
    let sized : List ℕ = big_bytes 4 (length c) ++ c in
    let here : AreBytes c = bytes_behind (big_bytes 4 (length c)) c (bytes_front sized (flat_map sized_octets bundled) bytes) in
    let behind : AreBytes (flat_map sized_octets bundled) = bytes_behind sized (flat_map sized_octets bundled) bytes in
    omega (
      arith,
      capture-long number (omega (arith, few)),
      capture-room c here whole.0,
      texts-long (number + 1) bundled (omega (arith, few)) behind whole.1,
      length-append (capture_text number ++ rx_text c) (texts_from (number + 1) (map rx_text bundled)),
      length-append (capture_text number) (rx_text c),
      length-append (big_bytes 4 (length c)) c,
      length-append sized (flat_map sized_octets bundled),
    )

pub many-room : (bundled : List (List ℕ)) → AreBytes (bundle_of bundled) → AreCaptures bundled → All (IsWhole captures) bundled
    → length (many_text bundled) ≤ bundle_room (length (bundle_of bundled))
unfolding many_text bundle_of started_octets
many-room bundled bytes are whole =
    let few = are.few in
    let start : List ℕ = bundle_magic ++ (1 ∷ big_bytes 1 (length bundled)) in
    let rest : AreBytes (flat_map sized_octets bundled) = bytes_behind start (flat_map sized_octets bundled) bytes in
    omega (
      arith,
      texts-long 0 bundled (omega (arith, few)) rest (recursion_from_All (IsWhole captures) bundled whole),
      length-append start (flat_map sized_octets bundled),
    )
