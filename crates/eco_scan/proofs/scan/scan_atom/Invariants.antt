use Rattle.eco_scan.proofs.Common.{◌-◌, ◌≤◌, [], length, Draft, IsBegunAt, point_view, spot_view, Reached}
use Rattle.eco_scan.specs.Reader.Machine as machine
use Rattle.eco_scan.proofs.scan.scan_atom.Given as goal

-- the machine has read the bytes so far, whatever was put down
abbrev pub invariant-loop-at : goal.invariant-loop-at
invariant-loop-at l = record {
  run : (d : Draft) × Reached (machine.at (spot_view (record { slots = []; others = [] }) l.fn.start)) l.text l.at (point_view l.text l.at d l.point);
  within : l.at ≤ length l.text;
  begun : IsBegunAt l.at l.point;
}

abbrev pub decreases-loop-at : goal.decreases-loop-at
decreases-loop-at l = length l.text - l.at
