use Rattle.eco_entities.proofs.Common.{◌∙◌, ap, sym, subst, bucket_of, set, IsIn, HasMark, KeepsAll}
use Rattle.eco_entities.proofs.Picked.{keeps_all, picked_here, read_bucket}
use Rattle.eco_entities.proofs.table.Table.mark.Goals as goal

pub returns-clause-here : goal.returns-clause-here
returns-clause-here c =
    let counted = c.len.ensures ∙ c.self.inside.buckets.ok.0 in
    let there = read_bucket _ _ _ _ c.bucket_of-place.ensures.within counted c.index_mut.ensures.value in
    picked_here _ _ _ c.mark.new.self there (λ b. HasMark b c.args.tag) c.args.tag (c.bucket_of-place.ensures.value ∙ ap (bucket_of c.args.tag) counted)
    c.mark.ensures.here

pub returns-clause-all : goal.returns-clause-all
returns-clause-all c =
    let counted = c.len.ensures ∙ c.self.inside.buckets.ok.0 in
    let there = read_bucket _ _ _ _ c.bucket_of-place.ensures.within counted c.index_mut.ensures.value in
    subst (λ bs. KeepsAll bs (set c.self.inside.buckets.items c.bucket_of-place.result c.mark.new.self)) c.self.view_is
    (keeps_all _ _ _ c.mark.new.self there (λ d. subst (IsIn d) (sym c.mark.ensures.cells)) c.mark.ensures.others)
