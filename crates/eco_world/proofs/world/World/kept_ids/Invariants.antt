use Rattle.eco_world.proofs.Common.{◌≡◌, [], take, goes_too, with_staying, takes}
use Rattle.eco_world.proofs.world.World.kept_ids.Given as goal

abbrev pub invariant-loop-id : goal.invariant-loop-id
invariant-loop-id l = l.kept ≡ with_staying (goes_too l.self (takes l.loss) l.entity) (take l.id-index l.ids) []
