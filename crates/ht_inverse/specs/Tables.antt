-- The shares of all encoders.
use Rattle.std.specs.Prelude.{◌≡◌, ℕ, Option}
use Rattle.std.specs.Option.{ForNone, ForSome}
use Rattle.ht_rate.specs.declared.rates.Rate.{Rate}
use Rattle.ht_rate.specs.Rates.{encoders_of}
use Rattle.ht_inverse.specs.declared.share.Share.{Share}

-- the share of this encoder, for a rate and erased subcarriers
pub record IsShareOf (r : Rate) (erased j : ℕ) (share : Share) : Type 0 where
  pub rate : share.rate ≡ r
  pub erased_are : share.erased ≡ erased
  pub encoder : share.encoder ≡ j

-- the share of encoder 1, exactly where the rate has two encoders
pub record IsSecond (r : Rate) (erased : ℕ) (second : Option Share) : Type 0 where
  pub none : ForNone second (encoders_of r ≡ 1)
  pub two : ForSome second (λ share. encoders_of r ≡ 2)
  pub some : ForSome second (λ share. IsShareOf r erased 1 share)
