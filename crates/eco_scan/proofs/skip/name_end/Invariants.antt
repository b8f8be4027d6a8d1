use Rattle.eco_scan.proofs.Common.{◌-◌, ◌≤◌, length, slice_range, Reached}
use Rattle.eco_scan.specs.Reader.Machine as machine
use Rattle.eco_scan.proofs.skip.name_end.Given as goal

-- the machine stays in the name
abbrev pub invariant-loop-end : goal.invariant-loop-end
invariant-loop-end l = record {
  behind : l.at ≤ l.end;
  within : l.end ≤ length l.text;
  reached : (start : machine.Point) (o : machine.Role) → Reached start l.text l.at (machine.name_of o l.from (slice_range l.text l.from l.at))
      → Reached start l.text l.end (machine.name_of o l.from (slice_range l.text l.from l.end));
}

abbrev pub decreases-loop-end : goal.decreases-loop-end
decreases-loop-end l = length l.text - l.end
