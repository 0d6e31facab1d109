use Rattle.stream_run.proofs.tests.held.Given as goal

abbrev pub ghosts-holds_over : goal.ghosts-holds_over
ghosts-holds_over g a = record { name = a.blank.name; parts = a.blank.parts }
