use Rattle.eco_world.proofs.Common.{◌≡◌, ◌-◌, map, list_any, range_with_len, Entity, is_builtins, builtin_count, has}
use Rattle.eco_world.proofs.world.World.is_builtins.Given as goal

abbrev pub invariant-loop-index : goal.invariant-loop-index
invariant-loop-index l =
    is_builtins l.self l.id
    ≡ list_any (λ (e : Entity). has l.self e l.id)
    (map (λ k. record { index = k; generation = 0 }) (range_with_len l.index (builtin_count l.self.edition - l.index)))
