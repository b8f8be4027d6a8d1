use Rattle.eco_world.proofs.Common.{◌+◌, ◌++◌, ◌∷◌, [], ap, arith, length, length-take-le, refl, sym, take, ◌∙◌}
use Rattle.std.specs.Prelude.{◌%◌}
use Rattle.eco_ids.specs.Run.{Set}
use Rattle.std.proofs.lemmas.Option.{slice_get_read}
use Rattle.eco_stages.specs.Recorded.{in_turn}
use Rattle.eco_world.proofs.world.World.set_each_in_turn.Goals as goal

pub push-requires : goal.push-requires
push-requires g c =
    let k = c.loop-k.k in
    let sets = c.args.sets.now in
    let cs = in_turn c.args.ids.now c.args.first (take k sets) in
    omega (
      arith,
      c.commands_are_done_in_turn.ensures.counted c.args.self.now c.loop-k.self cs c.args.outcomes.now c.loop-k.outcomes c.loop-k.invariant,
      c.loop-k.invariant.room,
      c.loop-k-test.true,
      c.sets_come_in_turn.ensures.counted c.args.ids.now c.args.first (take k sets),
      length-take-le k sets c.loop-k.auto.k-end,
      c.requires.room,
    )

pub loop-k-preserved : goal.loop-k-preserved
loop-k-preserved g c =
    let laws = c.commands_are_done_in_turn.ensures in
    let k = c.loop-k.k in
    let n = c.args.first + k in
    let sets = c.args.sets.now in
    let ids = c.args.ids.now in
    let set = c.index-sets-k.result in
    let i = c.id_at-id.result in
    let new = c.set-outcome.new.self in
    let read = slice_get_read sets (length sets) k set refl c.loop-k-test.true c.index-sets-k.is in
    let one = laws.one c.loop-k.self new (Set set.0 i c.of.result) c.set-outcome.result c.loop-k.outcomes c.push.new.self c.push.ensures.written
    c.push.ensures.room c.set-outcome.ensures in
    let more =
    c.sets_come_in_turn.ensures.more ids c.args.first k (n % length ids) sets set i read refl c.id_at-id.ensures
    ∙ ap (λ v. in_turn ids c.args.first (take k sets) ++ Set set.0 i v ∷ []) (sym c.of.ensures) in
    rw more
    (laws.both c.args.self.now c.loop-k.self new (in_turn ids c.args.first (take k sets)) (Set set.0 i c.of.result ∷ []) c.args.outcomes.now
    c.loop-k.outcomes c.push.new.self c.loop-k.invariant one)
