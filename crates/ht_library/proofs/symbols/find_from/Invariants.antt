use Rattle.ht_library.proofs.symbols.find_from.Given as goal

abbrev pub ghosts-find_by : goal.ghosts-find_by
ghosts-find_by a = record { name = a.blank.name; parts = a.blank.parts }
