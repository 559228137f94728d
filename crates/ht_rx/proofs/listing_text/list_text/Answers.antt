use Rattle.ht_rx.proofs.Texts.{detected}
use Rattle.ht_rx.proofs.listing_text.list_text.Goals as goal

pub returns : goal.returns
returns g c =
    detected c.list_jobs-ended.ensures c.put_end.ensures
