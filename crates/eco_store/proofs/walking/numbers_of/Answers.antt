use Rattle.eco_store.proofs.AnswersCommon.{arith, refl, subst, ◌∙◌, ◌+◌, length-set, IsNumbering}
use Rattle.eco_store.proofs.IndexWalk.{one_numbered}
use Rattle.eco_store.proofs.walking.numbers_of.Goals as goal

pub loop-place-preserved : goal.loop-place-preserved
loop-place-preserved c = record {
  numbering = one_numbered c.args.slots.now c.loop-place.place c.loop-place.numbers.items _ refl
      (rw c.loop-place.invariant.long (c.requires c.loop-place.place 0 c.loop-place-test.true)) c.loop-place.invariant.numbering;
  long = length-set c.loop-place.numbers.items _ (c.loop-place.place + 1) ∙ c.loop-place.invariant.long;
}

pub returns-clause-numbering : goal.returns-clause-numbering
returns-clause-numbering c = let end = c.loop-place-test.false in
    subst (λ n. IsNumbering c.args.slots.now n c.loop-place.numbers.items) (omega (arith, end, c.loop-place.auto.place-end)) c.loop-place.invariant.numbering
