-- Batches that are kept.
use Rattle.std.specs.Prelude.{◌≡◌, ℕ, List, map}
use Rattle.eco_systems.specs.Phases.{order_of}
use Rattle.eco_frame.specs.Outlines.{cut_of, systems_of}
use Rattle.eco_frame.specs.declared.plan.Plan.{Plan}

-- the positions of declaration, by batch
abbrev pub batches_in : Plan → List (List ℕ)
batches_in p = map (λ b. b.items) p.batches.items

-- the batches are those of the systems, of which so much is worked out
pub record IsBatchPlan (p : Plan) : Type 0 where
  pub order : p.order.items ≡ order_of (systems_of p.systems.items)
  pub cut : batches_in p ≡ cut_of p.outlines p.systems.items p.order.items
