use Rattle.eco_script.proofs.FormatsCommon.{Ok, ◌+◌, ◌∙◌, ap, arith, flat_map, refl, subst, sym, take, err_from_is_err_and, commands_view, stages_view}
use Rattle.eco_script.proofs.FormatsCommon.{all_commands, ReadsCommands}
use Rattle.eco_script.proofs.Recorded.{flat_more, some_within, stage_read, stage_refused}
use Rattle.eco_script.proofs.recording.record_stages.Goals as goal

pub unwrap-requires : goal.unwrap-requires
unwrap-requires c =
    some_within commands_view c.get.result (stages_view c.args.stages) c.loop-place.place c.get.ensures
    (rw c.len-place-end.ensures at c.loop-place-test.true)

pub loop-place-preserved : goal.loop-place-preserved
loop-place-preserved c =
    let ss = stages_view c.args.stages in
    let old = c.loop-place.recorded.items in
    record {
      read = subst (λ xs. ReadsCommands c.args.world.now (flat_map (λ s. s) (take (c.loop-place.place + 1) ss)) (Ok xs))
          (sym (ap all_commands c.push_reserved.ensures.items ∙ flat_more old c.in_ok-stage.stage))
          (stage_read c.args.world.now commands_view ss c.loop-place.place _ _ c.get.ensures c.unwrap.ensures (all_commands old)
          c.loop-place.invariant.read (Ok c.in_ok-stage.stage) (c.in_ok-stage.ensures refl));
      count = omega (arith, c.push_reserved.ensures.len, c.loop-place.invariant.count);
      room = omega (arith, c.push_reserved.ensures.capacity, c.loop-place.invariant.room);
    }

pub returns-in_err-stage-clause-read : goal.returns-in_err-stage-clause-read
returns-in_err-stage-clause-read c =
    let p = err_from_is_err_and c.from_residual-in_err-stage.result c.from_residual-in_err-stage.ensures.1 in
    rw (p.1, p.2) (λ plain.
    stage_refused c.args.world.now commands_view (stages_view c.args.stages) c.loop-place.place _ _ c.get.ensures c.unwrap.ensures
    (all_commands c.loop-place.recorded.items) c.loop-place.invariant.read c.in_err-stage.field-0.0 (c.in_err-stage.ensures plain))
