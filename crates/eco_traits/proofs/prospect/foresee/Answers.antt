use Rattle.eco_traits.proofs.Common.{common_steps, arith, sym, ◌∙◌, subst, true≢false, IsPlain}
use Rattle.eco_traits.proofs.Plain.{not_told, plain_unmirrored}
use Rattle.eco_traits.proofs.Targets.{plain_target}
use Rattle.eco_traits.proofs.Walks.{has_listed}
use Rattle.eco_traits.proofs.prospect.foresee.Goals as goal

pub returns-then-has : goal.returns-then-has
returns-then-has g c = (grind (arith, common_steps), grind (arith, common_steps, has_listed))

pub returns-then-is_plain : goal.returns-then-is_plain
returns-then-is_plain g c = (
  grind (arith, common_steps, has_listed),
  grind (arith, common_steps, plain_target, has_listed),
  grind (arith, common_steps, plain_unmirrored),
)

pub returns : goal.returns
returns g c =
    let w = g.H.Holdings.world c.args.holdings.now in
    let other : IsPlain w.edition c.args.id c.in-Some.traits.now → ⊥ =
    λ plain. true≢false (sym (c.is_plain.ensures.1
    (subst (λ x. IsPlain x c.args.id c.in-Some.traits.now) (sym c.edition.ensures) plain)) ∙ c.if-is_plain.false)
    in (
      grind (arith, common_steps),
      grind (arith, common_steps, has_listed),
      not_told w c.args.id c.in-Some.traits.now c.in-Some.ensures.traits other,
    )
