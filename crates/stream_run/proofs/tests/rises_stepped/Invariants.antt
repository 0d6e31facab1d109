use Rattle.stream_run.proofs.tests.rises_stepped.Given as goal

abbrev pub ghosts-stepped : goal.ghosts-stepped
ghosts-stepped g a = record { name = a.blank.name; parts = a.blank.parts }
