use Rattle.examples.proofs.bench.shared.SharedCase.hundredths.Given as goal

abbrev pub ghosts-share : goal.ghosts-share
ghosts-share g a = record { book = a.blank.front.seen.book }
