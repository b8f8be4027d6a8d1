-- Batches of listed systems that are kept.
use Rattle.std.specs.Prelude.{List}
use Rattle.std.specs.List.{AllZip}
use Rattle.eco_systems.specs.Systems.{SystemModel}
use Rattle.eco_frame.specs.Plans.{IsBatchPlan}
use Rattle.eco_frame.specs.declared.plan.Plan.{Plan}
use Rattle.eco_frame.specs.Models.{Declares}

-- they are those of what the systems declare
pub record IsPlanOf {S : Type 0} (f : S → SystemModel) (systems : List S) (p : Plan) : Type 0 where
  pub plan : IsBatchPlan p
  pub declared : AllZip (λ s d. Declares (f s) d) systems p.systems.items
