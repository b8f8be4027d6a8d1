use Rattle.eco_world.proofs.Common.{◌≡◌, None, record_of, asked_by, world_with}
use Rattle.eco_world.proofs.Data.{stands_in}
use Rattle.eco_world.proofs.world.World.stand.Goals as goal

pub returns : goal.returns
returns c =
    rw (← c.self.view_is)
    (stands_in c.stand.result
    (record_of (world_with c.self.inside.edition c.self.inside.store.entities (asked_by c.self.inside.queries.items)) c.args.entity ≡ None) _ _ _
    (λ x stands kept. record { stands = stands; kept = kept }) c.stand.ensures.stands c.stand.ensures.kept)
