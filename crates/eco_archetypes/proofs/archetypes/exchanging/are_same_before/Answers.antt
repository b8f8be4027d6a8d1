use Rattle.eco_archetypes.proofs.Common.{sym, ◌∙◌}
use Rattle.eco_ids.proofs.SameIds.{same_ids-Decides}
use Rattle.eco_archetypes.proofs.archetypes.exchanging.are_same_before.Goals as goal

pub returns : goal.returns
returns c = λ yes. (same_ids-Decides _ _).0 (sym c.are_same.ensures ∙ yes)
