use Rattle.eco_checker.proofs.Common.{◌≡◌, map, take, view, command_in, numbers_without}
use Rattle.eco_checker.proofs.search.commands_not_read.Given as goal

-- the numbers so far are those of the values so far
abbrev pub invariant-loop-number : goal.invariant-loop-number
invariant-loop-number l = l.numbers.items ≡ numbers_without (command_in l.edition) 0 (map view (take l.number l.values))
