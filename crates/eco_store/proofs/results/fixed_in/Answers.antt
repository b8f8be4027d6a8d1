use Rattle.eco_store.proofs.AnswersCommon.{length, ap, ◌∙◌, map, replicate, shown, subst, AllAscend}
use Rattle.std.proofs.lemmas.List.{length-replicate}
use Rattle.eco_store.proofs.FixedEntries.{fixed_shown}
use Rattle.eco_store.proofs.results.fixed_in.Goals as goal

pub alone_in-requires-clause-only : goal.alone_in-requires-clause-only
alone_in-requires-clause-only c = ap length c.same.ensures ∙ length-replicate c.len-count.result c.args.choice.items ∙ c.len-count.ensures.value

pub returns : goal.returns
returns c =
    let found = c.args.found in
    c.alone_in.ensures
    ∙ ap (λ cs. map (shown cs) found.list) (c.same.ensures ∙ ap (λ n. replicate n c.args.choice.items) c.len-count.ensures.value)
    ∙ fixed_shown found.tables.now found.slots.items c.args.query.now c.args.choice.items c.requires.fixed
    (subst AllAscend c.tables.ensures.same c.types_ascend.ensures) found.list c.requires.places c.requires.fit
