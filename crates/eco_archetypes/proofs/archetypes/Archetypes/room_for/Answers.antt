use Rattle.eco_archetypes.proofs.Common.{subst, FindsRoom}
use Rattle.eco_archetypes.proofs.archetypes.Archetypes.room_for.Goals as goal

pub returns : goal.returns
returns c =
    let made = c.make_with_room in
    subst (λ s. FindsRoom c.args.entities.now s made.new.self c.args.type_list.now c.args.more made.result) c.find.ensures.same
    (subst (λ ids. FindsRoom c.args.entities.now c.find.new.self made.new.self ids c.args.more made.result) c.in_ok-own.ensures.is made.ensures)
