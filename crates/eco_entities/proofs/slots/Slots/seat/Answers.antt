use Rattle.eco_entities.proofs.Common.{arith, common_steps, subst, ◌∙◌, IsSome}
use Rattle.eco_entities.proofs.Shown.{seat_read, seat_within}
use Rattle.eco_entities.proofs.slots.Slots.seat.Goals as goal

pub index-requires : goal.index-requires
index-requires c = grind (arith, common_steps, seat_within)

pub seat-requires : goal.seat-requires
seat-requires c =
    subst IsSome (seat_read c.self.inside c.args.self.now c.self.view_is c.args.entity c.index.result.now c.requires c.index.ensures) c.requires

pub returns : goal.returns
returns c =
    seat_read c.self.inside c.args.self.now c.self.view_is c.args.entity c.index.result.now c.requires c.index.ensures ∙ c.seat.ensures
