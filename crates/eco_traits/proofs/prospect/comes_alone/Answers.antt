use Rattle.eco_traits.proofs.Common.{common_steps, arith, ◌≡◌, ◌↔◌, refl, sym, subst, true≢false, Bool, true, false, IsTrue, MatchBool, List, Ok}
use Rattle.eco_traits.proofs.Common.{WorldState, Entity, Id, has, names_living, FindsTarget, IsPlain}
use Rattle.eco_traits.specs.declared.prospect.Prospect.TheVariants.{Alone, Open}
use Rattle.eco_traits.specs.declared.target.Target.TheVariants.{With}
use Rattle.eco_traits.specs.Prospect.{Foresees}
use Rattle.eco_traits.proofs.Plain.{AreTraitsOf, not_told, plain_unmirrored}
use Rattle.eco_traits.proofs.Targets.{plain_target}
use Rattle.eco_traits.proofs.prospect.comes_alone.Goals as goal

told : (w : WorldState) (e : Entity) (i : Id) (ids : List Id) (b : Bool) → names_living w i ≡ true → has w e i ≡ false → AreTraitsOf w i ids
    → (IsTrue b ↔ IsPlain w.edition i ids) → (IsPlain w.edition i ids → FindsTarget w e i (Ok With))
    → MatchBool b (Foresees w e i Alone) (Foresees w e i Open)
told w e i ids true lives absent own is finds = let plain = is.0 refl in (absent, finds plain, plain_unmirrored w e i ids own plain)
told w e i ids false lives absent own is finds = (lives, absent, not_told w i ids own (λ plain. true≢false (sym (is.1 plain))))

pub returns : goal.returns
returns g c =
    let w = g.H.Holdings.world c.args.holdings.now in
    let ids = c.unwrap-traits.result.now in
    let own : AreTraitsOf w c.args.id ids = grind (arith, common_steps) in
    told w c.args.entity c.args.id ids c.is_plain.result c.requires.living c.requires.absent own
    (subst (λ x. IsTrue c.is_plain.result ↔ IsPlain x c.args.id ids) c.edition.ensures c.is_plain.ensures)
    (λ plain. grind (arith, common_steps, plain_target))
