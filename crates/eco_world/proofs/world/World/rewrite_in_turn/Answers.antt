use Rattle.eco_world.proofs.Common.{◌≡◌, ◌+◌, ◌++◌, ◌∷◌, [], Ok, One, ap, arith, get_or, length}
use Rattle.eco_world.proofs.Common.{length-take-le, sym, take, ◌∙◌}
use Rattle.std.specs.Prelude.{◌%◌}
use Rattle.eco_ids.specs.Run.{Set}
use Rattle.eco_ids.specs.declared.entity.TheConstants.{CHILD_OF}
use Rattle.std.proofs.lemmas.Option.{slice_get_read}
use Rattle.eco_stages.specs.Recorded.{in_turn}
use Rattle.eco_world.proofs.Common.{refl}
use Rattle.eco_world.proofs.world.World.rewrite_in_turn.Goals as goal

pub push-requires : goal.push-requires
push-requires g c =
    let k = c.loop-k.k in
    let sets = c.args.sets.now in
    let cs = in_turn c.args.ids.now c.args.first (take k sets) in
    let was = c.loop-k.invariant.are_done in
    omega (
      arith,
      c.commands_are_done_in_turn.ensures.counted c.args.self.now c.loop-k.self cs c.args.outcomes.now c.loop-k.outcomes was,
      was.room,
      c.loop-k-test.true,
      c.sets_come_in_turn.ensures.counted c.args.ids.now c.args.first (take k sets),
      length-take-le k sets c.loop-k.auto.k-end,
      c.requires.room,
    )

pub loop-k-preserved : goal.loop-k-preserved
loop-k-preserved g c =
    let laws = c.commands_are_done_in_turn.ensures in
    let k = c.loop-k.k in
    let n = c.args.first + k in
    let sets = c.args.sets.now in
    let ids = c.args.ids.now in
    let set = c.index-sets-k.result in
    let i = c.id_at-id.result in
    let new = c.rewrite.new.self in
    let read = slice_get_read sets (length sets) k set refl c.loop-k-test.true c.index-sets-k.is in
    let one = laws.one c.loop-k.self new (Set set.0 i c.of-value.result) (Ok tt) c.loop-k.outcomes c.push.new.self c.push.ensures.written
    c.push.ensures.room (c.if-not-rewrite.ensures.met refl) in
    let more =
    c.sets_come_in_turn.ensures.more ids c.args.first k c.loop-k.turn sets set i read c.loop-k.invariant.turn c.id_at-id.ensures
    ∙ ap (λ v. in_turn ids c.args.first (take k sets) ++ Set set.0 i v ∷ []) (sym c.of-value.ensures) in
    let on : n + 1 ≡ c.args.first + (k + 1) = omega arith in
    record {
      are_done =
          rw more
          (laws.both c.args.self.now c.loop-k.self new (in_turn ids c.args.first (take k sets)) (Set set.0 i c.of-value.result ∷ []) c.args.outcomes.now
          c.loop-k.outcomes c.push.new.self c.loop-k.invariant.are_done one);
      known =
          λ j less. c.loop-k.invariant.known j less ∙ sym (c.rewrite.ensures.others (get_or ids j (One CHILD_OF)));
      turn = c.next_in_turn-turn.ensures n c.loop-k.invariant.turn ∙ ap (λ m. m % length ids) on;
    }
