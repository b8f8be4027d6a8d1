use Rattle.eco_index.proofs.EntriesCommon.{◌∙◌, ids_search_says}
use Rattle.eco_index.proofs.SeenIds.{found_says}
use Rattle.eco_index.proofs.seen.is_among.Goals as goal

pub returns : goal.returns
returns c =
    c.is_ok.ensures.value
    ∙ found_says c.args.run.now c.args.id c.binary_search.result
    (ids_search_says c.args.run.now c.args.id c.binary_search.result c.requires c.binary_search.ensures.bound c.binary_search.ensures.position)
