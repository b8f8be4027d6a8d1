use Rattle.eco_world.proofs.Common.{◌≡◌, ◌+◌, ◌-◌, ◌<◌, ◌||◌, map, sym, ap, ◌∙◌, arith, subst, list_any, range_with_len, Entity}
use Rattle.eco_world.proofs.Common.{is_builtins, builtin_count, WorldState, has}
use Rattle.eco_world.proofs.Removals.{first_of_rest}
use Rattle.eco_world.proofs.world.World.is_builtins.Goals.{After-has}
use Rattle.eco_world.proofs.world.World.is_builtins.Goals as goal

-- one index more
next : (c : goal.After-has) → is_builtins c.args.self.now c.args.id ≡ (c.has.result || list_any (λ (e : Entity). has c.args.self.now e c.args.id)
    (map (λ k. record { index = k; generation = 0 })
    (range_with_len (c.loop-index.index + 1) (builtin_count c.args.self.now.edition - (c.loop-index.index + 1)))))
next c =
    let n = builtin_count c.args.self.now.edition in
    let count = c.builtin_count-index-end.ensures ∙ ap (λ (x : WorldState). builtin_count x.edition) c.self.view_is in
    rw c.has.ensures
    (c.loop-index.invariant
    ∙ first_of_rest (λ (e : Entity). has c.args.self.now e c.args.id) c.loop-index.index n
    (subst (λ m. c.loop-index.index < m) count c.loop-index-test.true))

pub returns-then-has : goal.returns-then-has
returns-then-has c = sym (rw c.if-has.true at (next (goal.at.returns-then-has c).After-has))

pub loop-index-preserved : goal.loop-index-preserved
loop-index-preserved c = rw c.if-has.false at (next (goal.at.loop-index-preserved c).After-has)

pub returns : goal.returns
returns c =
    let i = c.loop-index.index in
    let n = builtin_count c.args.self.now.edition in
    let count = c.builtin_count-index-end.ensures ∙ ap (λ (x : WorldState). builtin_count x.edition) c.self.view_is in
    let none : n - i ≡ 0 = omega (arith, count, c.loop-index-test.false) in
    sym (c.loop-index.invariant
    ∙ ap (λ m. list_any (λ (e : Entity). has c.args.self.now e c.args.id) (map (λ k. record { index = k; generation = 0 }) (range_with_len i m))) none)
