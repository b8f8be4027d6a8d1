use Rattle.eco_scan.proofs.Common.{◌≡◌, ◌-◌, ◌≤◌, true, [], length, query_start, Reached, Draft, IsBegunAt, point_view, is_bare}
use Rattle.eco_scan.proofs.Stored.{HoldsDraft}
use Rattle.eco_scan.proofs.scan.scan_query.Given as goal

-- the machine has read the bytes so far, and the atoms are held
abbrev pub invariant-loop-at : goal.invariant-loop-at
invariant-loop-at l = record {
  run : (d : Draft) × Reached query_start l.text l.at (point_view l.text l.at d l.point) × HoldsDraft l.terms d
      × (is_bare l.point ≡ true → d.others ≡ []);
  within : l.at ≤ length l.text;
  begun : IsBegunAt l.at l.point;
}

abbrev pub decreases-loop-at : goal.decreases-loop-at
decreases-loop-at l = length l.text - l.at
