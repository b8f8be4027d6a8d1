use Rattle.tests_world.proofs.entering.entries_are_whole.Given as goal

abbrev pub ghosts-hundred : goal.ghosts-hundred
ghosts-hundred g a = record { book = a.blank.front.seen.book }
