-- Deques that were just made, and the takers at them.
use Rattle.std.specs.Prelude.{◌≡◌, ◌-◌, ◌≤◌, ℕ, List, length, map}
use Rattle.std.specs.List.{All}
use Rattle.std.specs.Global.{Vec}
use Rattle.ht_pool.specs.Takers.{DequeId, TakerView, OwnView, fresh_taker, fresh_own}

module _ {T : Type 0} where
  -- which deques these are
  abbrev pub own_deques : List (OwnView T) → List DequeId
  own_deques owners = map (λ (o : OwnView T). o.deque) owners

  -- this number of takers at each deque was made
  abbrev pub lent : ℕ → List (OwnView T) → List (OwnView T)
  lent takers owners = map (λ (o : OwnView T). record o { parts = o.parts - takers }) owners

  -- nothing was pushed or taken, and each row has a taker at each of these deques, of which as many parts are out
  pub record AreReady (deques : List DequeId) (owners : List (OwnView T)) (rows : List (Vec (TakerView T))) : Type 0 where
    pub owners_are : All (λ (o : OwnView T). o ≡ fresh_own (1024 - length deques) o.capacity o.deque) owners
    pub rows_are : All (λ (takers : Vec (TakerView T)). takers.items ≡ map fresh_taker deques) rows
    pub few : length deques ≤ 64
