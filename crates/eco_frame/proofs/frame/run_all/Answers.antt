use Rattle.eco_frame.proofs.Common.{◌≡◌, ◌+◌, ◌<◌, ◌∷◌, ◌++◌, [], ℕ, Global, List, Some, Vec, length, length-append, map, option_map}
use Rattle.eco_frame.proofs.Common.{slice_get, take, vec_capacity, vec_len, refl, sym, ap, ◌∙◌, subst, arith, All, map_push, take_more}
use Rattle.eco_frame.proofs.Common.{err_from_is_err_and, slice_get-get_or, slice_get-map, Progress, model_at, model_of, HasRun, HaveRun}
use Rattle.eco_frame.proofs.Turns.{none_run, run_more, run_stays}
use Rattle.eco_frame.proofs.frame.run_all.Goals as goal

pub loop-places-init : goal.loop-places-init
loop-places-init g c =
    let none = c.requires.none in
    record { count = ap length none.0; room = refl; run = none_run c.args.workers c.args.world.now c.args.done.now none.0 none.1 none.2 }

pub run_next-requires : goal.run_next-requires
run_next-requires g c =
    let inv = c.loop-places.invariant in
    let before = c.loop-places.done in
    let less = c.loop-places-test.true in
    let Within : List ℕ → Type 0 = λ ps. All (λ k. k < length c.args.systems.now) ps in
    let own = subst (λ (v : Vec ℕ Global). Within v.items) (sym c.places-item.is) (c.requires.places c.loop-places.places-index _ less) in
    let room : vec_len before.reports < vec_capacity before.reports = omega (arith, inv.count, inv.room, c.requires.room, less, before.reports.ok) in
    (c.type_bounds.sync-B, (c.type_bounds.sync-R, (c.requires.workers, (subst Within (sym c.deref.ensures.value) own, room))))

pub loop-places-preserved : goal.loop-places-preserved
loop-places-preserved g c =
    let b = g.B.SystemBody in
    let at = model_at (map (model_of b.reads_of b.writes_of b.kills_of b.taken b.commands) c.args.systems.now) in
    let batches = c.args.batches.now in
    let k = c.loop-places.places-index in
    let own = c.places-item.result in
    let before = c.loop-places.done in
    let after = c.run_next.new.done in
    let inv = c.loop-places.invariant in
    let ran = subst (λ ps. HasRun c.args.workers c.loop-places.world (map at ps) before after c.run_next.new.world)
    c.deref.ensures.value c.in_ok-run_next.ensures.ok in
    let less = c.loop-places-test.true in
    let more : take (k + 1) batches ≡ take k batches ++ own ∷ [] = take_more batches k own less
    ∙ ap (λ v. take k batches ++ v ∷ []) (sym c.places-item.is) in
    let shape : map (λ p. map at p.items) (take (k + 1) batches) ≡ map (λ p. map at p.items) (take k batches) ++ map at own.items ∷ [] =
    ap (map (λ p. map at p.items)) more ∙ map_push (λ p. map at p.items) (take k batches) own in
    let long = ap length ran.reports ∙ length-append before.reports.items (ran.outcomes ∷ []) in
    let count = inv.count in
    record {
      count = omega (arith, long, count);
      room = ran.room ∙ inv.room;
      run = subst (λ bs. HaveRun c.args.workers c.args.world.now bs after c.run_next.new.world) (sym shape)
          (run_more c.args.workers c.args.world.now c.loop-places.world c.run_next.new.world (map (λ p. map at p.items) (take k batches)) (map at own.items)
          before after inv.run ran);
    }

pub returns-in_err-run_next-clause-out : goal.returns-in_err-run_next-clause-out
returns-in_err-run_next-clause-out g c =
    let k = c.loop-places.places-index in
    let batches = c.args.batches.now in
    let own = c.places-item.result in
    let items : Vec ℕ Global → List ℕ = λ v. v.items in
    let at : slice_get batches k ≡ Some own = slice_get-get_or batches k own c.loop-places-test.true ∙ ap Some (sym c.places-item.is) in
    let here = slice_get-map items batches k ∙ ap (option_map items) at ∙ ap Some (sym c.deref.ensures.value) in
    let count = c.loop-places.invariant.count in
    let same : vec_len c.loop-places.done.reports ≡ k = omega (arith, count, c.loop-places.done.reports.ok) in
    let there = subst (λ (d : Progress). slice_get (map items batches) (vec_len d.reports) ≡ Some c.deref.result.now) (sym c.in_err-run_next.ensures.err.1)
    (ap (slice_get (map items batches)) same ∙ here) in
    let p = err_from_is_err_and c.from_residual.result c.from_residual.ensures.1 in
    rw (p.1, p.2) (λ no. (c.deref.result.now, there, c.in_err-run_next.ensures.out no))

pub returns-in_err-run_next-clause-left : goal.returns-in_err-run_next-clause-left
returns-in_err-run_next-clause-left g c =
    let count = c.loop-places.invariant.count in
    let before : vec_len c.loop-places.done.reports < length c.args.batches.now =
    omega (arith, count, c.loop-places.done.reports.ok, c.loop-places-test.true) in
    let p = err_from_is_err_and c.from_residual.result c.from_residual.ensures.1 in
    rw p.1 (subst (λ (d : Progress). vec_len d.reports < length c.args.batches.now) (sym c.in_err-run_next.ensures.err.1) before)

pub returns-in_err-run_next-clause-so_far : goal.returns-in_err-run_next-clause-so_far
returns-in_err-run_next-clause-so_far g c =
    let b = g.B.SystemBody in
    let at = model_at (map (model_of b.reads_of b.writes_of b.kills_of b.taken b.commands) c.args.systems.now) in
    let inv = c.loop-places.invariant in
    let err = c.in_err-run_next.ensures.err in
    run_stays c.args.workers c.args.world.now c.loop-places.world c.run_next.new.world (λ p. map at p.items) c.args.batches.now c.loop-places.places-index
    c.loop-places.done c.run_next.new.done err.1 err.0 inv.count inv.run

pub returns-clause-so_far : goal.returns-clause-so_far
returns-clause-so_far g c =
    let b = g.B.SystemBody in
    let at = model_at (map (model_of b.reads_of b.writes_of b.kills_of b.taken b.commands) c.args.systems.now) in
    let inv = c.loop-places.invariant in
    run_stays c.args.workers c.args.world.now c.loop-places.world c.loop-places.world (λ p. map at p.items) c.args.batches.now c.loop-places.places-index
    c.loop-places.done c.loop-places.done refl refl inv.count inv.run
