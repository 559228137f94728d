-- The file of records as a file of certificates.
use Rattle.std.proofs.Common.{◌≡◌, suc, ◌-◌, ◌^◌, ◌<◌, List, [], ◌∷◌, ◌++◌, length, map, flat_map, Bool, refl, sym, ap, subst, ◌∙◌, arith}
use Rattle.byteorder.specs.Endian.{big_bytes}
use Rattle.ht_fields.specs.Cases.{IsFile}
use Rattle.ht_fields.proofs.Routes.{Route, route_file, route_from, route_none, route_then}
use Rattle.ht_heads.specs.Starts.{Body, Over}
use Rattle.ht_heads.proofs.Started.{route_started}
use Rattle.ht_cert.specs.declared.record.Record.{Record}
use Rattle.ht_cert.specs.declared.turn.Turn.{Turn}
use Rattle.ht_cert.specs.Records.{claimed, code_of, with_marks}
use Rattle.ht_cert.specs.Formats.{Modulated, Streams, Claim, Marks, Mark, certificates, first_due, marks_due, marks_given, next_turn, recorded, records_due}
use Rattle.ht_cert.specs.Files.{AreNumbered, AreRecords, IsRecord, certificates_file_of, claim_octets, front_octets, mark_octet, record_octets, records_start}
use Rattle.ht_cert.proofs.Decoded.{bare, claim_back, claim_size}
use Rattle.ht_cert.proofs.Reading.{marks_then, no_marks_more}
use Rattle.ht_cert.proofs.Routes.{mark_is, none_given, one_given, one_mark, over_is, record_is, route_claim, route_mark, route_marks, route_modulation}
use Rattle.ht_cert.proofs.Routes.{route_streams, whole_is}

-- the marks of a record, whatever is there so far
record MarksRoute (turn : Turn) (r : Record) (marks : List Bool) : Type 0 where
  items : List Record
  route : Route certificates (marks_due turn r (length marks)) (records_due (next_turn turn)) (map mark_octet marks) items
  given : marks_given r (length marks) ++ items ≡ with_marks r marks ∷ []

marks_route : (marks : List Bool) (turn : Turn) (r : Record) → MarksRoute turn r marks
marks_route [] turn r = record {
  items = [];
  route = route_none certificates (marks_due turn r 0) (records_due (next_turn turn)) (whole_is turn r 0 refl);
  given = ap (λ (xs : List Record). xs ++ []) (one_given r 0 refl) ∙ ap (λ (x : Record). x ∷ []) (sym (no_marks_more r));
}
marks_route (m ∷ ms) turn r =
    let n = length ms in
    let one = one_mark r m in
    let rest = marks_route ms turn one in
    let less : suc n - 1 ≡ n = omega arith in
    let first : Route certificates (Body (Mark turn r (suc n))) (marks_due turn one n) (mark_octet m ∷ []) (marks_given one n) =
    subst (λ k. Route certificates (Body (Mark turn r (suc n))) (marks_due turn one k) (mark_octet m ∷ []) (marks_given one k)) less
    (route_mark turn r (suc n) m) in
    record {
      items = marks_given one n ++ rest.items;
      route = route_from certificates (marks_due turn r (suc n)) (Body (Mark turn r (suc n))) (records_due (next_turn turn)) _ _
          (mark_is turn r (suc n) (omega arith))
          (route_then certificates (Body (Mark turn r (suc n))) (marks_due turn one n) (records_due (next_turn turn))
          (mark_octet m ∷ []) (map mark_octet ms) (marks_given one n) rest.items first rest.route);
      given = ap (λ (xs : List Record). xs ++ (marks_given one n ++ rest.items)) (none_given r (suc n) (omega arith))
          ∙ (rest.given ∙ ap (λ (x : Record). x ∷ []) (marks_then r (m ∷ []) ms));
    }

-- a record
front_route : (turn : Turn) (r : Record) → 0 < turn.left → IsRecord turn.number r
    → Route certificates (records_due turn) (marks_due turn (bare r) (length r.certificate.marks)) (front_octets r)
    (marks_given (bare r) (length r.certificate.marks))
unfolding front_octets
front_route turn r left fits =
    let f = certificates in
    let m = r.modulation in
    let n = length r.job.system in
    let x = claim_octets r in
    let read = claimed turn.number m n x in
    let count = length r.certificate.marks in
    let head : Route f (records_due turn) (Body (Claim turn m n)) (code_of m ∷ n ∷ []) [] =
    route_from f (records_due turn) (Body (Modulated turn)) (Body (Claim turn m n)) (code_of m ∷ n ∷ []) [] (record_is turn left)
    (route_then f (Body (Modulated turn)) (Body (Streams turn m)) (Body (Claim turn m n)) (code_of m ∷ []) (n ∷ []) [] []
    (route_modulation turn m) (route_streams turn m n fits.some fits.few)) in
    let claim : Route f (Body (Claim turn m n)) (Body (Marks turn (bare r))) x [] =
    subst (λ (z : Record). Route f (Body (Claim turn m n)) (Body (Marks turn z)) x []) (claim_back turn.number r fits)
    (route_claim turn m n x (claim_size turn.number r fits)) in
    route_then f (records_due turn) (Body (Claim turn m n)) (marks_due turn (bare r) count) (code_of m ∷ n ∷ []) (x ++ big_bytes 4 count) [] _ head
    (route_then f (Body (Claim turn m n)) (Body (Marks turn (bare r))) (marks_due turn (bare r) count) x (big_bytes 4 count) [] _ claim
    (route_marks turn (bare r) count fits.marks))

marks_again : (r : Record) → with_marks (bare r) r.certificate.marks ≡ r
unfolding with_marks
marks_again r = refl

pub record_route : (turn : Turn) (r : Record) → 0 < turn.left → IsRecord turn.number r
    → Route certificates (records_due turn) (records_due (next_turn turn)) (record_octets r) (r ∷ [])
unfolding record_octets
record_route turn r left fits =
    let f = certificates in
    let marks = r.certificate.marks in
    let rest = marks_route marks turn (bare r) in
    subst (λ (items : List Record). Route f (records_due turn) (records_due (next_turn turn)) (front_octets r ++ map mark_octet marks) items)
    (rest.given ∙ ap (λ (x : Record). x ∷ []) (marks_again r))
    (route_then f (records_due turn) (marks_due turn (bare r) (length marks)) (records_due (next_turn turn)) (front_octets r) (map mark_octet marks)
    (marks_given (bare r) (length marks)) rest.items (front_route turn r left fits) rest.route)

-- the records that are due
records_route : (rs : List Record) (turn : Turn) → length rs ≡ turn.left → AreNumbered turn.number rs
    → Route certificates (records_due turn) Over (flat_map record_octets rs) rs
unfolding next_turn
records_route [] turn size fit = route_none certificates (records_due turn) Over (over_is turn (sym size))
records_route (r ∷ rs) turn size fit =
    let less : length rs ≡ (next_turn turn).left = omega (arith, size) in
    route_then certificates (records_due turn) (records_due (next_turn turn)) Over (record_octets r) (flat_map record_octets rs) (r ∷ []) rs
    (record_route turn r (omega (arith, size)) fit.0) (records_route rs (next_turn turn) less fit.1)

-- the file of records
pub file_written : (rs : List Record) → AreRecords rs → IsFile certificates (certificates_file_of rs) rs
unfolding certificates_file_of
file_written rs are =
    let f = certificates in
    let count = length rs in
    let small : count < 256 ^ 8 = omega (arith, are.few) in
    route_file f Over _ rs
    (route_then f f.start (first_due count) Over (records_start count) (flat_map record_octets rs) [] rs
    (route_started recorded count (omega arith) small (omega arith) are.few) (records_route rs (record { left = count; number = 0 }) refl are.numbered)) tt
