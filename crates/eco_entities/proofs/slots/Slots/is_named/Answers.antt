use Rattle.eco_entities.proofs.Common.{common_steps, arith, sym, ◌∙◌}
use Rattle.eco_entities.proofs.Marks.{alive_within, unnamed_same}
use Rattle.eco_entities.proofs.slots.Slots.is_named.Goals as goal

pub index-requires : goal.index-requires
index-requires c = grind (arith, common_steps, alive_within)

pub returns : goal.returns
returns c = λ none. unnamed_same c.self.inside c.args.self.now c.self.invariant c.self.view_is c.args.entity c.index.result.now c.requires c.index.ensures
    (sym c.is_named.ensures ∙ none)
