use Rattle.eco_world.proofs.Common.{◌∙◌, None, One, arith, get_or, inl, inr, sym}
use Rattle.std.proofs.Common.{length-set}
use Rattle.std.proofs.lemmas.Bool.{cases_eq}
use Rattle.std.proofs.lemmas.Grind.{get_or-set_at}
use Rattle.std.proofs.lemmas.List.{get_or-set_other}
use Rattle.eco_ids.specs.declared.entity.TheConstants.{CHILD_OF}
use Rattle.eco_world.proofs.Setting.{told_exactly}
use Rattle.eco_world.specs.Setting.{fields_at}
use Rattle.eco_world.proofs.world.World.settable_each.Goals as goal

pub loop-k-preserved : goal.loop-k-preserved
loop-k-preserved c =
    let was = c.loop-k.invariant in
    let k = c.loop-k.k in
    let ids = c.args.ids.now in
    let id = get_or ids k (One CHILD_OF) in
    let now = told_exactly c.args.self.now id c.settable.result c.settable.ensures.ok c.settable.ensures.err in
    record {
      told = λ j less. elim (cases_eq j k) [
        | inl here ↦
            get_or-set_at c.loop-k.known k j c.ok.result None here (omega (arith, was.long, c.loop-k-test.true, c.requires))
            ∙ c.ok.ensures.value ∙ now ∙ (λ t. fields_at c.args.self.now (get_or ids (sym here t) (One CHILD_OF)))
        | inr other ↦ get_or-set_other c.loop-k.known k j c.ok.result None other ∙ was.told j (omega (arith, less, other))
      ];
      long = length-set c.loop-k.known k c.ok.result ∙ was.long;
    }
