use Rattle.eco_entities.proofs.Common.{common_steps, ◌<◌, arith}
use Rattle.eco_entities.proofs.Levels.{in_flags, flags-with_bit, levelled-set}
use Rattle.eco_entities.proofs.free_set.FreeSet.insert.Goals as goal

pub set-requires : goal.set-requires
set-requires c =
    let l : c.args.index < c.self.inside.len = in_flags _ _ _ _ c.self.view_is c.requires in omega arith

pub set-requires-2 : goal.set-requires-2
set-requires-2 c =
    let l : c.args.index < c.self.inside.len = in_flags _ _ _ _ c.self.view_is c.requires in omega arith

pub set-requires-3 : goal.set-requires-3
set-requires-3 c =
    let l : c.args.index < c.self.inside.len = in_flags _ _ _ _ c.self.view_is c.requires in omega arith

pub invariant_of-self : goal.invariant_of-self
invariant_of-self c =
    let l : c.args.index < c.self.inside.len = in_flags _ _ _ _ c.self.view_is c.requires in
    rw (c.set.ensures, c.set-2.ensures, c.set-3.ensures) (levelled-set _ _ _ _ _ c.self.invariant l)

pub returns : goal.returns
returns c = grind (arith, common_steps, in_flags, flags-with_bit)
