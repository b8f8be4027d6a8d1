use Rattle.eco_world.proofs.Common.{◌++◌, ◌∷◌, [], take, sym, ap, ◌∙◌, map_more, map_push, take_all, asked, asked_by}
use Rattle.eco_world.specs.declared.kept_query.KeptQuery.{KeptQuery}
use Rattle.eco_world.proofs.world.copying.copies_of.Goals as goal

pub loop-kept-preserved : goal.loop-kept-preserved
loop-kept-preserved c =
    let i = c.loop-kept.kept-index in
    let qs = c.args.queries.now in
    let x = c.kept-item.result in
    let copy : KeptQuery = record { query = c.in_ok-query.query; cache = x.cache } in
    let asks = λ (k : KeptQuery). asked k.query in
    ap asked_by c.in_ok-push.ensures.items ∙ map_push asks c.loop-kept.copies.items copy ∙ ap (λ xs. xs ++ asked copy.query ∷ []) c.loop-kept.invariant
    ∙ ap (λ q. asked_by (take i qs) ++ asked q ∷ []) c.in_ok-query.ensures ∙ ap (λ k. asked_by (take i qs) ++ asks k ∷ []) c.kept-item.is
    ∙ sym (map_more asks qs i x c.loop-kept-test.true)

pub returns : goal.returns
returns c = c.loop-kept.invariant ∙ ap asked_by (take_all c.loop-kept.kept-index c.args.queries.now c.loop-kept-test.false)
