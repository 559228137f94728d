use Rattle.ht_receiver_tests.proofs.pam.ties.Given as goal

abbrev pub ghosts-levels : goal.ghosts-levels
ghosts-levels l a = record { name = a.blank.name; parts = a.blank.parts }
