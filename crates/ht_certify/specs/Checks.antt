-- The lines of a file of certificates, and its text. A line says whether a certificate holds, and if not, what is wrong.
use Rattle.std.specs.Prelude.{ℕ, zero, suc, ◌+◌, List, [], ◌∷◌, ◌++◌, length, Option, Some, None, is_none, if◌then◌else◌}
use Rattle.ht_cert.specs.declared.record.Record.{Record}
use Rattle.ht_cert.specs.Formats.{certificates}
use Rattle.ht_runs.specs.Filters.{Filter}
use Rattle.ht_runs.specs.Formats.{filter, lines_by, text_by}
use Rattle.ht_text.specs.Lines.{checked_text, no_text, yes_text}
use Rattle.ht_witness.specs.Certificates.{fault_of}
use Rattle.ht_witness.specs.Kinds.{carried_by, name_of}
use Rattle.ht_witness.specs.declared.check_fault.CheckFault.{CheckFault}

-- what is wrong with the certificate of a record, if anything is
abbrev pub fault_in : Record → Option CheckFault
fault_in r = fault_of r.job r.certificate

-- `job N yes`, or `job N no NAME at M` with what is wrong and the number that this carries
abbrev pub answer_line : ℕ → Option CheckFault → List ℕ
answer_line number None = yes_text number
answer_line number (Some fault) = no_text number (name_of fault) (carried_by fault)

-- the line of the record of this number
unfoldable pub check_line : ℕ → Record → List ℕ
check_line number r = answer_line number (fault_in r)

-- the lines of records, of which the first has this number
abbrev pub check_lines_from : ℕ → List Record → List ℕ
check_lines_from number [] = []
check_lines_from number (r ∷ records) = check_line number r ++ check_lines_from (number + 1) records

-- the lines of all records, numbered from 0
abbrev pub check_lines_of : List Record → List ℕ
check_lines_of records = check_lines_from 0 records

-- 1 where the certificate of a record holds, else 0
unfoldable pub yes_count : Record → ℕ
yes_count r = if is_none (fault_in r) then 1 else 0

-- how many certificates hold
abbrev pub yes_of : List Record → ℕ
yes_of [] = 0
yes_of (r ∷ records) = yes_count r + yes_of records

-- the line behind all records
abbrev pub check_end_of : List Record → List ℕ
check_end_of records = checked_text (length records) (yes_of records)

-- the lines of octets: of the records that are whole in them, before their first fault
abbrev pub check_lines : List ℕ → List ℕ
check_lines octets = lines_by certificates check_lines_of octets

-- these, and behind them the last line: how many certificates hold, or the octets' first fault
abbrev pub check_text : List ℕ → List ℕ
check_text octets = text_by certificates check_lines_of check_end_of octets

-- the text where each of a number of certificates holds: `job N yes` for each, and `end J jobs yes J`
abbrev pub yes_lines_from : ℕ → ℕ → List ℕ
yes_lines_from number zero = []
yes_lines_from number (suc n) = yes_text number ++ yes_lines_from (number + 1) n

abbrev pub all_yes_text : ℕ → List ℕ
all_yes_text count = yes_lines_from 0 count ++ checked_text count count

-- a file of certificates is read, and a line for each is put
abbrev pub checking : Filter
checking = filter certificates check_text check_lines
