use Rattle.eco_scan.proofs.Common.{◌-◌, ◌≤◌, length, Reached}
use Rattle.eco_scan.specs.Reader.Machine as machine
use Rattle.eco_scan.proofs.skip.white_end.Given as goal

-- the machine stays between tokens
abbrev pub invariant-loop-end : goal.invariant-loop-end
invariant-loop-end l = record {
  behind : l.at ≤ l.end;
  within : l.end ≤ length l.text;
  reached : (start : machine.Point) (s : machine.Spot) → Reached start l.text l.at (machine.at s) → Reached start l.text l.end (machine.at s);
}

abbrev pub decreases-loop-end : goal.decreases-loop-end
decreases-loop-end l = length l.text - l.end
