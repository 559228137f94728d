use Rattle.ht_weigh.proofs.weighing.weigh.Given as goal

abbrev pub ghosts-weigh_by : goal.ghosts-weigh_by
ghosts-weigh_by a = record { name = a.blank.name; parts = a.blank.parts }
