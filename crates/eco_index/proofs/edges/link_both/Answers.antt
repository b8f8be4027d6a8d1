use Rattle.eco_index.proofs.EdgeLists.{put_taken}
use Rattle.eco_index.proofs.edges.link_both.Goals as goal

pub returns-in-Err-clause-err : goal.returns-in-Err-clause-err
returns-in-Err-clause-err c =
    put_taken _ _ _ _ _ c.args.from c.args.id c.args.to c.requires.from c.cover.ensures.same c.in_ok-put.ensures.ok c.in-Err.ensures.err c.take.ensures.taken
