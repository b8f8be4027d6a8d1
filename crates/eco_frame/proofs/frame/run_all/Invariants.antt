use Rattle.eco_frame.proofs.Common.{◌≡◌, length, map, take, vec_capacity, model_at, model_of, HaveRun}
use Rattle.eco_frame.proofs.frame.run_all.Given as goal

-- the batches so far
abbrev pub invariant-loop-places : goal.invariant-loop-places
invariant-loop-places g l =
    let b = g.B.SystemBody in
    record {
      count : length l.done.reports.items ≡ l.places-index;
      room : vec_capacity l.done.reports ≡ vec_capacity l.initial.done.reports;
      run : HaveRun l.workers l.initial.world
          (map (λ p. map (model_at (map (model_of b.reads_of b.writes_of b.kills_of b.taken b.commands) l.systems)) p.items)
          (take l.places-index l.batches)) l.done l.world;
    }
