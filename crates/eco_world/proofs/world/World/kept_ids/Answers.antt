use Rattle.eco_world.proofs.Common.{◌≡◌, [], not, filter, take, length, ap, ◌∙◌, arith, goes_too, all_staying, with_staying, takes}
use Rattle.std.proofs.Math.Seq.{take-length}
use Rattle.eco_world.proofs.world.World.kept_ids.Goals as goal

pub returns : goal.returns
returns c =
    let goes = goes_too c.args.self.now (takes c.args.loss) c.args.entity in
    let ids = c.ids_of-ids.result.now in
    let at_end : c.loop-id.id-index ≡ length ids = omega (arith, c.loop-id-test.false, c.loop-id.auto.id-index-end) in
    let whole : take c.loop-id.id-index ids ≡ ids = ap (λ n. take n ids) at_end ∙ take-length ids in
    c.loop-id.invariant ∙ ap (λ xs. with_staying goes xs []) whole ∙ all_staying goes ids c.ids_of-ids.ensures.ascending
    ∙ ap (filter (λ j. not (goes j))) c.ids_of-ids.ensures.ids
