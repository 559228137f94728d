use Rattle.ht_feed.proofs.hits.detect.Given as goal

abbrev pub ghosts-detect_by : goal.ghosts-detect_by
ghosts-detect_by a = record { name = a.blank.name; parts = a.blank.parts }
