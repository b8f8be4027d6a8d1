use Rattle.eco_store.proofs.Common.{ap, ◌∙◌, err_from_is_err_and, toggled, typed_table, changed, seen, stepped, with_type}
use Rattle.eco_store.proofs.Coupled.{type_beside}
use Rattle.eco_store.proofs.Laid.{plans_seen, tried_none}
use Rattle.eco_store.proofs.Stepping.{leads_to}
use Rattle.eco_store.proofs.layout.Layout.step_in_turn.Goals as goal

pub returns-in_err-to : goal.returns-in_err-to
returns-in_err-to c =
    let p = err_from_is_err_and c.from_residual.result c.from_residual.ensures.1 in
    record {
      laid = c.step_target.ensures.plans.laid;
      tries = tried_none _ _ c.from_residual.result _ _ p.1 (plans_seen c.args.self.now c.step_target.new.self c.step_target.ensures.plans);
    }

pub returns : goal.returns
returns c =
    let l = c.args.self.now in
    let e = c.args.second.0 in
    let planned = plans_seen l c.step_target.new.self c.step_target.ensures.plans in
    let before = c.in_ok-step_beside.ensures.steps.tries.ok ∙ ap (λ v. stepped v c.args.first) planned in
    let typed =
    typed_table c.step_beside.new.self.archetypes c.in_ok-to.to _ (c.in_ok-step_beside.ensures.kept.types _ c.in_ok-to.ensures.typed) in
    record {
      laid = c.go_to.ensures.carries.laid;
      tries = record {
        ok =
            c.go_to.ensures.seen ∙ (λ t. changed (before t) e (with_type (typed t)))
            ∙ leads_to (stepped (seen l) c.args.first) e _
            (type_beside l.entities l.archetypes c.args.first e _ c.requires.first c.requires.second c.requires.apart c.place_of-place.ensures.typed)
            (λ ids. toggled ids c.args.second.1);
        err = tt;
      };
    }
