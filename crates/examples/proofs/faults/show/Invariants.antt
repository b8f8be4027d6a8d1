use Rattle.examples.proofs.faults.show.Given as goal

abbrev pub ghosts-judge_shared : goal.ghosts-judge_shared
ghosts-judge_shared g a = record { book = a.blank.front.seen.book }
