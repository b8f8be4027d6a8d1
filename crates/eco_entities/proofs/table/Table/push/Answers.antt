use Rattle.eco_entities.proofs.Common.{◌∙◌, ap, subst, bucket_of, set, IsIn, KeepsAll, IsFullAt, slice_get, sym}
use Rattle.eco_entities.proofs.Picked.{cells_kept, keeps_all, marks_kept, picked_here, read_bucket, taken}
use Rattle.eco_entities.proofs.table.Table.push.Goals as goal

pub returns-clause-here : goal.returns-clause-here
returns-clause-here c = λ done.
    let counted = c.len.ensures ∙ c.self.inside.buckets.ok.0 in
    let there = read_bucket _ _ _ _ c.bucket_of-place.ensures.within counted c.index_mut.ensures.value in
    picked_here _ _ _ c.push.new.self there (λ b. IsIn c.args.cell b.0) c.args.cell.tag
    (c.bucket_of-place.ensures.value ∙ ap (bucket_of c.args.cell.tag) counted)
    (taken c.args.cell c.index_mut.result.now c.push.new.self c.push.result c.push.ensures.done done)

pub returns-clause-all : goal.returns-clause-all
returns-clause-all c =
    let counted = c.len.ensures ∙ c.self.inside.buckets.ok.0 in
    let there = read_bucket _ _ _ _ c.bucket_of-place.ensures.within counted c.index_mut.ensures.value in
    subst (λ bs. KeepsAll bs (set c.self.inside.buckets.items c.bucket_of-place.result c.push.new.self)) c.self.view_is
    (keeps_all _ _ _ c.push.new.self there (cells_kept c.args.cell c.index_mut.result.now c.push.new.self c.push.result c.push.ensures.done)
    (marks_kept c.args.cell c.index_mut.result.now c.push.new.self c.push.result c.push.ensures.done))

pub returns-clause-full : goal.returns-clause-full
returns-clause-full c = λ refused.
    let counted = c.len.ensures ∙ c.self.inside.buckets.ok.0 in
    let there = read_bucket _ _ _ _ c.bucket_of-place.ensures.within counted c.index_mut.ensures.value in
    let picked = c.bucket_of-place.ensures.value ∙ ap (bucket_of c.args.cell.tag) counted in
    let full : IsFullAt c.self.inside.buckets.items c.args.cell.tag =
    (c.index_mut.result.now, ap (slice_get c.self.inside.buckets.items) (sym picked) ∙ there, sym c.push.ensures.room ∙ refused) in
    subst (λ bs. IsFullAt bs c.args.cell.tag) c.self.view_is full
