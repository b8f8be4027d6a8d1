use Rattle.std.proofs.Common.{[], ◌∷◌, ◌++◌, refl, sym, ap, ◌∙◌}
use Rattle.std.proofs.lemmas.List.{append-nil}
use Rattle.eco_ids.specs.Run.{Set}
use Rattle.eco_frame.specs.Fields.{two}
use Rattle.examples.proofs.Sailing.{if_ok, recorded_here}
use Rattle.examples.proofs.typed.sail.SailSystemBody.record.Goals as goal

pub returns-clause-ok : goal.returns-clause-ok
returns-clause-ok g c =
    let says = (λ t. c.command-command.ensures t ∷ [])
    ∙ (λ t. Set (c.entity.ensures t) c.args.self.now.position.id (two (c.sailed.ensures t).east (c.sailed.ensures t).north) ∷ [])
    ∙ sym (recorded_here c.args.self.now.position.id _ _ _ c.in-Some-Some.at c.in-Some-Some.by (sym c.at.ensures ∙ c.in-Some-Some.is-0)
    (sym c.at-2.ensures ∙ c.in-Some-Some.is-1)) in
    if_ok c.record_command.result c.record_command.ensures.ok
    (λ new done. ([], sym (append-nil _), λ later. (refl, new ∙ ap (λ cs. c.args.stage.now ++ cs) says)))
