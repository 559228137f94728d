-- The text of a file whose certificates all hold.
use Rattle.std.proofs.Common.{◌≡◌, ℕ, ◌+◌, List, [], ◌∷◌, ◌++◌, length, Option, is_none, if◌then◌else◌, refl, ap, ◌∙◌, arith}
use Rattle.std.specs.List.{AllByRecursion}
use Rattle.ht_fields.specs.Cases.{File, IsFile}
use Rattle.ht_fields.specs.Meanings.{Meaning}
use Rattle.ht_fields.proofs.Answered.{met}
use Rattle.ht_runs.specs.Formats.{last_text}
use Rattle.ht_text.specs.Lines.{checked_text, yes_text}
use Rattle.ht_witness.specs.Certificates.{Checked}
use Rattle.ht_witness.specs.declared.check_fault.CheckFault.{CheckFault}
use Rattle.ht_witness.proofs.Faults.{no_fault}
use Rattle.ht_cert.specs.declared.record.Record.{Record}
use Rattle.ht_cert.specs.Formats.{certificates}
use Rattle.ht_certify.specs.Checks.{all_yes_text, answer_line, check_end_of, check_line, check_lines_from, check_lines_of, check_text, yes_count}
use Rattle.ht_certify.specs.Checks.{yes_lines_from, yes_of}

abbrev pub Holds : Record → Type 0
Holds r = Checked r.job r.certificate

line_yes : (number : ℕ) (r : Record) → Holds r → check_line number r ≡ yes_text number
unfolding check_line
line_yes number r holds = ap (answer_line number) (no_fault r.job r.certificate holds)

one_yes : (r : Record) → Holds r → yes_count r ≡ 1
unfolding yes_count
one_yes r holds = ap (λ (fault : Option CheckFault). if is_none fault then 1 else 0) (no_fault r.job r.certificate holds)

lines_yes : (number : ℕ) (records : List Record) → AllByRecursion Holds records → check_lines_from number records ≡ yes_lines_from number (length records)
lines_yes number [] all = refl
lines_yes number (r ∷ records) all =
    ap (λ (line : List ℕ). line ++ check_lines_from (number + 1) records) (line_yes number r all.0)
    ∙ ap (λ (rest : List ℕ). yes_text number ++ rest) (lines_yes (number + 1) records all.1)

all_counted : (records : List Record) → AllByRecursion Holds records → yes_of records ≡ length records
all_counted [] all = refl
all_counted (r ∷ records) all = omega (arith, one_yes r all.0, all_counted records all.1)

pub accepts : (octets : List ℕ) (records : List Record) → IsFile certificates octets records → AllByRecursion Holds records
    → check_text octets ≡ all_yes_text (length records)
accepts octets records file all =
    ap (λ (m : Meaning Record). check_lines_of m.items ++ last_text m.fault (check_end_of m.items)) (met certificates octets records File file)
    ∙ (ap (λ (lines : List ℕ). lines ++ check_end_of records) (lines_yes 0 records all)
    ∙ ap (λ n. yes_lines_from 0 (length records) ++ checked_text (length records) n) (all_counted records all))
