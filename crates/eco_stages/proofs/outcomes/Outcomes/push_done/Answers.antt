use Rattle.std.proofs.lemmas.List.{replicate-append-replicate}
use Rattle.std.specs.Prelude.{Ok, Result, flat_map, ◌++◌}
use Rattle.eco_stages.proofs.Common.{Refusal, Written, all_done, ap, append_assoc, sym, until_refused, ◌∙◌}
use Rattle.eco_stages.proofs.outcomes.Outcomes.push_done.Goals as goal

pub returns-clause-written : goal.returns-clause-written
returns-clause-written c =
    let own = c.self.inside in
    let refused = flat_map until_refused own.refused.items in
    ap (λ os. refused ++ os) (sym (replicate-append-replicate {A = Result (Unit {0}) Refusal} own.done c.args.count (Ok tt)))
    ∙ sym (append_assoc refused (all_done own.done) (all_done c.args.count))
    ∙ ap (λ (w : Written). w.outcomes ++ all_done c.args.count) c.self.view_is
