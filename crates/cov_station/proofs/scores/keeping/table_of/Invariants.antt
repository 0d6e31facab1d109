use Rattle.cov_station.proofs.scores.keeping.table_of.Given as goal

abbrev pub ghosts-keep_tests : goal.ghosts-keep_tests
ghosts-keep_tests a = record { name = a.blank.name; parts = a.blank.parts }
