use Rattle.ht_fields.proofs.FormatLaws.{each_written}
use Rattle.ht_cert.proofs.Back.{file_back}
use Rattle.ht_cert.proofs.laws.each_of_records.Goals as goal

pub returns : goal.returns
returns c = each_written _ _ _ file_back
