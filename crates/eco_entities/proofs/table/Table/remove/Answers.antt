use Rattle.eco_entities.proofs.Common.{◌≡◌, ◌∙◌, subst, true, set, IsAt, IsIn, HasMark, HasMarkAt, mark_of, slice_get, sym, true, Some, ◌≡◌}
use Rattle.eco_entities.proofs.Picked.{picked_still, read_bucket}
use Rattle.eco_entities.proofs.table.Table.remove.Goals as goal

pub returns-clause-cells : goal.returns-clause-cells
returns-clause-cells c = λ other apart.
    let counted = c.len.ensures ∙ c.self.inside.buckets.ok.0 in
    let there = read_bucket _ _ _ _ c.bucket_of-place.ensures.within counted c.index_mut.ensures.value in
    subst (λ bs. IsAt bs other → IsAt (set c.self.inside.buckets.items c.bucket_of-place.result c.remove.new.self) other) c.self.view_is
    (picked_still _ _ _ c.remove.new.self there (λ b. IsIn other b.0) other.tag (c.remove.ensures.others other apart))

pub returns-clause-marks : goal.returns-clause-marks
returns-clause-marks c = λ tag.
    let counted = c.len.ensures ∙ c.self.inside.buckets.ok.0 in
    let there = read_bucket _ _ _ _ c.bucket_of-place.ensures.within counted c.index_mut.ensures.value in
    subst (λ bs. HasMarkAt bs tag → HasMarkAt (set c.self.inside.buckets.items c.bucket_of-place.result c.remove.new.self) tag) c.self.view_is
    (picked_still _ _ _ c.remove.new.self there (λ b. HasMark b tag) tag
    (subst (λ ms. slice_get ms (mark_of tag) ≡ Some true) (sym c.remove.ensures.marks)))
