use Rattle.eco_archetypes.proofs.Common.{sym, ◌∙◌}
use Rattle.eco_archetypes.proofs.Leads.{lead_there, lead_apart, lead_typed}
use Rattle.eco_archetypes.proofs.archetypes.Archetypes.lead.Goals as goal

pub returns-clause-there : goal.returns-clause-there
returns-clause-there c =
    rw (← c.self.view_is) (lead_there _ _ c.self.invariant.graph c.args.slot c.in_ok-to.to c.args.id (sym c.get.ensures ∙ c.in_ok-to.was))

pub returns-clause-apart : goal.returns-clause-apart
returns-clause-apart c =
    lead_apart _ _ c.self.invariant.graph c.args.slot c.in_ok-to.to c.args.id (sym c.get.ensures ∙ c.in_ok-to.was)

pub returns-clause-typed : goal.returns-clause-typed
returns-clause-typed c =
    rw (← c.self.view_is) (lead_typed _ _ c.self.invariant.graph c.args.slot c.in_ok-to.to c.args.id (sym c.get.ensures ∙ c.in_ok-to.was))
