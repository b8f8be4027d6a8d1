use Rattle.eco_traits.proofs.CleanupCommon.{on_ok, world_of}
use Rattle.eco_traits.proofs.CleanupNoted.{three_come}
use Rattle.eco_traits.proofs.ties.Ties.append_named.Goals as goal

pub returns : goal.returns
returns c =
    on_ok c.append_listed-3.result
    (three_come (world_of c.args.self.now.places.now.entities) c.args.self.now.places.now.slots c.args.entity _ _ _ _ c.in_ok-append_listed.ensures
    c.in_ok-append_listed-2.ensures) c.append_listed-3.ensures
