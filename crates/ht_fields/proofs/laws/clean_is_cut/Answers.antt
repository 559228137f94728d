use Rattle.ht_fields.proofs.Cuts.{cut_clean, clean_cut}
use Rattle.ht_fields.proofs.laws.clean_is_cut.Goals as goal

pub returns : goal.returns
returns g c = record { cut = cut_clean; clean = clean_cut }
