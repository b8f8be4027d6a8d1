use Rattle.eco_world.proofs.Common.{ℕ, ◌≤◌, ◌||◌, nat_le, IsTrue, Some, le-leb, arith, rules, option_copied, First, Second, Edition, largest_arity}
use Rattle.eco_world.proofs.Common.{Makes, MakesComponent, component_record, is_proper_arity, both, record_name, asked_by}
use Rattle.std.proofs.lemmas.Grind.{common_steps}
use Rattle.eco_world.proofs.Steps.{lifted, met_lawful}
use Rattle.eco_world.proofs.world.World.component.Goals as goal

proper : (edition : Edition) (n : ℕ) → 1 ≤ n → IsTrue (nat_le n (largest_arity First) || nat_le n (largest_arity edition)) →
    IsTrue (is_proper_arity edition (Some n))
proper First n more most = both (nat_le 1 n) (nat_le n 4) (le-leb 1 n more) (search (rules, most))
proper Second n more most = both (nat_le 1 n) (nat_le n 8) (le-leb 1 n more) (grind (arith, common_steps, most))

pub returns : goal.returns
returns c =
    let qs = asked_by c.self.inside.queries.items in
    rw (← c.self.view_is)
    (lifted c.self.inside.edition qs (λ v. Makes record_name v
    (component_record (option_copied c.args.name) c.args.arity)) _ c.self.inside.store.entities c.create.new.self.entities c.create.result
    (rw c.component_type-ids.ensures at c.create.ensures.step))

pub invariant_of-self : goal.invariant_of-self
invariant_of-self c =
    met_lawful (MakesComponent c.args.self.now (option_copied c.args.name) c.args.arity) _ _ c.args.self.now _ _ c.self.view_is c.self.invariant
    (c.steps_keep_lawful.ensures.component (option_copied c.args.name) c.args.arity _ _ _
    (proper c.args.self.now.edition c.args.arity c.requires.at_least c.requires.at_most)) (returns c)
