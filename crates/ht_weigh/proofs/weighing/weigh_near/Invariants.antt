use Rattle.ht_weigh.proofs.weighing.weigh_near.Given as goal

abbrev pub ghosts-weigh_near_by : goal.ghosts-weigh_near_by
ghosts-weigh_near_by a = record { name = a.blank.name; parts = a.blank.parts }
