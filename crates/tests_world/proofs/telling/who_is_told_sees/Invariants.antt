use Rattle.tests_world.proofs.telling.who_is_told_sees.Given as goal

abbrev pub ghosts-tell : goal.ghosts-tell
ghosts-tell g a = record { book = a.blank.front.seen.book }
