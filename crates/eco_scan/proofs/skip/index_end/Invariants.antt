use Rattle.eco_scan.proofs.Common.{ℕ, ◌-◌, ◌≤◌, length, Reached}
use Rattle.eco_scan.specs.Reader.Machine as machine
use Rattle.eco_scan.proofs.skip.index_end.Given as goal

-- the machine stays in the index
abbrev pub invariant-loop-end : goal.invariant-loop-end
invariant-loop-end l = record {
  behind : l.at ≤ l.end;
  within : l.end ≤ length l.text;
  reached : (start : machine.Point) (o : machine.Role) (from : ℕ) → Reached start l.text l.at (machine.index o from l.index)
      → Reached start l.text l.end (machine.index o from l.number);
}

abbrev pub decreases-loop-end : goal.decreases-loop-end
decreases-loop-end l = length l.text - l.end
