-- What is promised of `certify`, and of `check` behind it, in the words of captures and of files of certificates.
use Rattle.std.specs.Prelude.{◌≡◌, ◌⊎◌, ℕ, List, [], Option, Some}
use Rattle.std.proofs.Common.{inl, inr, sym, ap, subst, length}
use Rattle.ht_io.specs.Devices.{Device, Grows, GrowsByPart, TakesAll}
use Rattle.ht_io.specs.Pieces.{KnownGrown}
use Rattle.ht_io.proofs.Calls.{takes_all-known}
use Rattle.ht_fields.specs.Cases.{File, IsFile}
use Rattle.ht_fields.specs.Meanings.{Meaning, meaning}
use Rattle.ht_fields.specs.Tests.{AreBytes}
use Rattle.ht_fields.proofs.Answered.{met}
use Rattle.ht_cert.specs.Files.{certificates_file_of}
use Rattle.ht_cert.specs.Formats.{certificates}
use Rattle.ht_cert.specs.declared.record.Record.{Record}
use Rattle.ht_certify.specs.Certifying.{CertifiesTo, certified}
use Rattle.ht_certify.specs.Checks.{all_yes_text, check_lines, check_text}
use Rattle.ht_words.specs.declared.asked.Asked.TheVariants.{Certify, Check}
use Rattle.ht_cli.specs.declared.status.Status.TheVariants.{Done, Refused, NoMemory}
use Rattle.ht_cli.specs.Streaming.{IsCapture}
use Rattle.ht_cli.specs.Tasks.{Answered}
use Rattle.ht_cli.proofs.Certified.{is_accepted, is_file}
use Rattle.ht_cli.proofs.Saying.{text_known, text_known_refused}

module _ (a b c d : Device ℕ) where
  pub certify_done : Answered (Some Certify) a b c d Done
      → (taken : List ℕ) × TakesAll a b taken × IsCapture taken × Grows c d (certificates_file_of (certified taken))
  certify_done run = (run.taken, run.octets, run.input, subst (λ (xs : List ℕ). Grows c d xs) run.comes run.put)

  pub certify_memory : Answered (Some Certify) a b c d NoMemory → (d ≡ c)
      ⊎ ((taken : List ℕ) × TakesAll a b taken × IsCapture taken × GrowsByPart c d (certificates_file_of (certified taken)))
  certify_memory (inl nothing) = inl nothing
  certify_memory (inr run) = inr (run.taken, run.octets, run.input, subst (λ (xs : List ℕ). GrowsByPart c d xs) run.comes run.put)

  pub certify_known : (all : List ℕ) → a.known ≡ Some all → Answered (Some Certify) a b c d Done
      → IsCapture all × Grows c d (certificates_file_of (certified all)) × (b.known ≡ Some [])
  certify_known all is run =
      let taken = takes_all-known a b all run.taken run.octets is in
      let put : Grows c d (certificates_file_of (certified run.taken)) = subst (λ (xs : List ℕ). Grows c d xs) run.comes run.put in (
        subst IsCapture (sym taken.1) run.input,
        subst (λ (octets : List ℕ). Grows c d (certificates_file_of (certified octets))) (sym taken.1) put,
        taken.0,
      )

  -- an empty sink that is known afterwards holds what was put
  pub put_whole : (text held : List ℕ) → c.known ≡ Some [] → d.known ≡ Some held → Grows c d text → held ≡ text
  put_whole text held empty full grows =
      let first : KnownGrown (Some []) d.known text = subst (λ (k : Option (List ℕ)). KnownGrown k d.known text) empty grows in
      subst (λ (k : Option (List ℕ)). KnownGrown (Some []) k text) full first

-- from run to run
module _ (all output : List ℕ) (a b c d e f g h : Device ℕ) (bytes : AreBytes all) (is : a.known ≡ Some all) (empty : c.known ≡ Some [])
    (full : d.known ≡ Some output) (first : Answered (Some Certify) a b c d Done) (read : e.known ≡ Some output) where
  written : IsCapture all × CertifiesTo all output
  written =
      let known = certify_known a b c d all is first in
      (known.0, put_whole a b c d (certificates_file_of (certified all)) output empty full known.1)

  pub run_accepted : Answered (Some Check) e f g h Done → Grows g h (all_yes_text (length (certified all)))
  run_accepted second =
      let w = written in
      subst (λ (xs : List ℕ). Grows g h xs) (is_accepted all output bytes w.0 w.1) (text_known certificates check_text check_lines e f g h output read second).1

  pub run_not_refused : Answered (Some Check) e f g h Refused → ⊥
  run_not_refused second =
      let w = written in
      let file = is_file all output bytes w.0 w.1 in
      let same : (meaning certificates certificates.start 0 output).items ≡ certified all =
      ap (λ (m : Meaning Record). m.items) (met certificates output (certified all) File file) in
      (text_known_refused certificates check_text check_lines e f g h output read second).0
      (subst (λ (rs : List Record). IsFile certificates output rs) (sym same) file)
