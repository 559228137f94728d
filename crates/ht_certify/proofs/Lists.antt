-- The lines of records behind others, and how many of them hold.
use Rattle.std.proofs.Common.{◌≡◌, ℕ, ◌+◌, ◌≤◌, List, [], ◌∷◌, ◌++◌, length, Bool, true, false, sym, ap, ◌∙◌, append_assoc, arith, if◌then◌else◌}
use Rattle.std.proofs.lemmas.List.{append-nil}
use Rattle.std.specs.Prelude.{is_none}
use Rattle.ht_cert.specs.declared.record.Record.{Record}
use Rattle.ht_certify.specs.Checks.{check_line, check_lines_from, check_lines_of, fault_in, yes_count, yes_of}

-- the lines of more records stand behind those of the first
pub lines_append : (number : ℕ) (records more : List Record)
    → check_lines_from number (records ++ more) ≡ check_lines_from number records ++ check_lines_from (number + length records) more
lines_append number [] more = let same : number ≡ number + 0 = omega arith in ap (λ n. check_lines_from n more) same
lines_append number (r ∷ records) more =
    let line : List ℕ = check_line number r in
    let rest : List ℕ = check_lines_from (number + 1) records in
    let place : number + 1 + length records ≡ number + length (r ∷ records) = omega arith in
    ap (λ (xs : List ℕ). line ++ xs) (lines_append (number + 1) records more ∙ ap (λ n. rest ++ check_lines_from n more) place)
    ∙ sym (append_assoc line rest (check_lines_from (number + length (r ∷ records)) more))

-- the line of one record more
pub line_behind : (records : List Record) (r : Record) → check_lines_of (records ++ r ∷ []) ≡ check_lines_of records ++ check_line (length records) r
line_behind records r =
    let place : 0 + length records ≡ length records = omega arith in
    lines_append 0 records (r ∷ [])
    ∙ ap (λ (xs : List ℕ). check_lines_of records ++ xs) (append-nil (check_line (0 + length records) r) ∙ ap (λ n. check_line n r) place)

pub yes_behind : (records : List Record) (r : Record) → yes_of (records ++ r ∷ []) ≡ yes_of records + yes_count r
yes_behind [] r = omega arith
yes_behind (q ∷ records) r = omega (arith, yes_behind records r)

one_at_most : (is : Bool) → (if is then 1 else 0) ≤ 1
one_at_most true = omega arith
one_at_most false = omega arith

yes_few : (r : Record) → yes_count r ≤ 1
unfolding yes_count
yes_few r = one_at_most (is_none (fault_in r))

-- at most all of them hold
pub yes_at_most : (records : List Record) → yes_of records ≤ length records
yes_at_most [] = omega arith
yes_at_most (r ∷ records) = omega (arith, yes_few r, yes_at_most records)
