use Rattle.eco_archetypes.proofs.Common.{◌≡◌, Some, ap, ◌∙◌, table_in, exchanged, toggled, type_at}
use Rattle.eco_archetypes.proofs.ArchetypeLemmas.{type_there, typed_table}
use Rattle.eco_archetypes.proofs.Exchanges.{exchanged_apart, in_two_steps}
use Rattle.eco_archetypes.proofs.archetypes.Archetypes.lead_on.Goals.{In_ok-to}
use Rattle.eco_archetypes.proofs.archetypes.Archetypes.lead_on.Goals as goal

led : (c : In_ok-to) → type_at c.args.self.now c.in_ok-to.to
    ≡ Some (exchanged (table_in c.args.self.now c.args.slot).ids c.args.leaving c.args.coming)
led c =
    let s = c.args.self.now in
    let own = (table_in s c.args.slot).ids in
    c.in_ok-to.ensures.typed
    ∙ ap (λ ids. Some (toggled ids c.args.coming)) (typed_table s c.in_ok-between.between (toggled own c.args.leaving) c.in_ok-between.ensures.typed)
    ∙ ap Some (in_two_steps own c.args.leaving c.args.coming c.requires.there c.requires.absent)

pub returns-clause-typed : goal.returns-clause-typed
returns-clause-typed c = led c

pub returns-clause-apart : goal.returns-clause-apart
returns-clause-apart c =
    exchanged_apart c.args.self.now c.args.slot c.in_ok-to.to _ c.args.leaving c.args.coming (type_there c.args.self.now c.args.slot c.requires.slot) (led c)
    c.requires.absent
