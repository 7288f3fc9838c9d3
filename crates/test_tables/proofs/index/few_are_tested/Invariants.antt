use Rattle.test_tables.proofs.index.few_are_tested.Given as goal

abbrev pub ghosts-hears : goal.ghosts-hears
ghosts-hears g a = record { name = a.blank.name; parts = a.blank.parts }
