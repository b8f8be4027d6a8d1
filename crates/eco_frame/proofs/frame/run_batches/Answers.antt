use Rattle.eco_frame.proofs.Common.{Ok, Err, ap, inl, inr, length, map, refl, subst, sym, vec_len, ◌∙◌, length-map, AllByRecursion, System, in_order}
use Rattle.eco_frame.proofs.Common.{order_of, IsLawfulSystem, SystemModel, model_of, IsNextOut, IsWhy, FrameStop}
use Rattle.eco_frame.proofs.Ran.{frame_by, stopped_frame, whole_frame}
use Rattle.eco_frame.proofs.Within.{batches_within}
use Rattle.eco_frame.proofs.frame.run_batches.Goals as goal

pub run_all-requires-clause-places : goal.run_all-requires-clause-places
run_all-requires-clause-places g c κs within =
    let b = g.B.SystemBody in
    let f : System g.row.B.Denot → SystemModel = model_of b.reads_of b.writes_of b.kills_of b.taken b.commands in
    let systems = map f c.args.systems.now in
    batches_within (λ v. v.items) systems (in_order systems) (order_of systems) c.args.batches.now c.requires.placed.0
    (c.systems_are_ordered.ensures.order systems) (length c.as_slice-2.result.now) (length-map c.args.systems.now f ∙ ap length (sym c.as_slice-2.ensures))

pub returns-in_default-clause-frame : goal.returns-in_default-clause-frame
returns-in_default-clause-frame g c = c.stop_at_once.ensures.frame c.args.workers

pub returns-in-Ok-run_all-clause-frame : goal.returns-in-Ok-run_all-clause-frame
returns-in-Ok-run_all-clause-frame g c =
    let b = g.B.SystemBody in
    let f : System g.row.B.Denot → SystemModel = model_of b.reads_of b.writes_of b.kills_of b.taken b.commands in
    let w = c.args.world.now in
    let new = c.run_all.new.world in
    let systems = c.args.systems.now in
    let p = c.run_all.new.done in
    let ran = whole_frame c.args.workers w new f (λ v. v.items) c.as_slice-2.result.now systems c.args.batches.now c.args.batches.now p
    c.as_slice-2.ensures refl c.requires.placed (vec_len p.reports) c.in-Ok-run_all.ensures.so_far c.in-Ok-run_all.ensures.all
    c.into_report.result c.into_report.ensures in
    let lawful = subst (λ ss. AllByRecursion IsLawfulSystem (map f ss)) c.as_slice.ensures c.are_lawful.ensures in
    let laws = c.frames_are_one_by_one.ensures in
    frame_by laws.whole laws.stopped c.args.workers w (map f systems) (Ok c.into_report.result) new c.is_lawful.ensures lawful ran

pub returns-in-Err-clause-frame : goal.returns-in-Err-clause-frame
returns-in-Err-clause-frame g c =
    let b = g.B.SystemBody in
    let f : System g.row.B.Denot → SystemModel = model_of b.reads_of b.writes_of b.kills_of b.taken b.commands in
    let w = c.args.world.now in
    let new = c.run_all.new.world in
    let systems = c.args.systems.now in
    let p = c.run_all.new.done in
    let stop : FrameStop = record { batches = c.len.result; refusal = c.in-Err.refusal } in
    let ran = stopped_frame c.args.workers w new f (λ v. v.items) c.as_slice-2.result.now systems c.args.batches.now c.args.batches.now p
    c.as_slice-2.ensures refl c.requires.placed (vec_len p.reports) c.in-Err.ensures.so_far stop (c.len.ensures ∙ p.reports.ok.0) c.in-Err.ensures.left in
    let lawful = subst (λ ss. AllByRecursion IsLawfulSystem (map f ss)) c.as_slice.ensures c.are_lawful.ensures in
    let laws = c.frames_are_one_by_one.ensures in
    frame_by laws.whole laws.stopped c.args.workers w (map f systems) (Err stop) new c.is_lawful.ensures lawful ran

pub returns-in-Err-clause-why : goal.returns-in-Err-clause-why
returns-in-Err-clause-why g c =
    let b = g.B.SystemBody in
    let f : System g.row.B.Denot → SystemModel = model_of b.reads_of b.writes_of b.kills_of b.taken b.commands in
    let w = c.args.world.now in
    let new = c.run_all.new.world in
    let systems = c.args.systems.now in
    let places = map (λ v. v.items) c.args.batches.now in
    let stop : FrameStop = record { batches = c.len.result; refusal = c.in-Err.refusal } in
    let n = vec_len c.run_all.new.done.reports in
    elim c.in-Err.ensures.why as (λ _. IsWhy b.taken b.commands f w systems stop new) [
      | inl gone ↦
          let own = c.in-Err.ensures.out gone in
          let same = subst (λ ss. IsNextOut b.taken b.commands new ss (map (λ v. v.items) c.args.batches.now) n) c.as_slice-2.ensures own in
          inr (gone, (places, c.requires.placed, subst (λ k. IsNextOut b.taken b.commands new systems places k) (sym c.len.ensures) same))
      | inr want ↦ inl want
    ]
