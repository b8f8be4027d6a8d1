use Rattle.eco_entities.proofs.Common.{◌∙◌, ap, sym, slice_get, subst, IsIn}
use Rattle.eco_entities.proofs.Listed.{in_left}
use Rattle.eco_entities.proofs.bucket.Bucket.remove.Goals as goal

pub loop-place-preserved : goal.loop-place-preserved
loop-place-preserved c = record {
  others = λ other apart h.
      let there = ap (λ cs. slice_get cs c.in-Some.place) (sym c.as_slice.ensures.value) ∙ c.in-Some.ensures in
      subst (IsIn other) (sym c.remove.ensures.items)
      (in_left c.args.cell other c.loop-place.self-inside.cells.items c.in-Some.place there apart (c.loop-place.invariant.others other apart h));
  marks = c.loop-place.invariant.marks;
}
