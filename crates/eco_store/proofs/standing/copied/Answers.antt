use Rattle.eco_store.proofs.AnswersCommon.{◌≡◌, ◌+◌, ◌≤◌, ◌++◌, length, drop, rules}
use Rattle.std.specs.Prelude.{take}
use Rattle.eco_store.proofs.Ranking.{chunk_more}
use Rattle.eco_store.proofs.standing.copied.Goals as goal

pub loop-list-preserved : goal.loop-list-preserved
loop-list-preserved c =
    let at = c.loop-list in
    let es = c.args.entities.now in
    let n = c.len-from.result in
    let m = c.min.result in
    let from : n ≡ length at.list.items = search rules in
    let within : n + m ≤ length es = search rules in
    let begun : at.list.items ≡ take n es = rw from at.invariant.begun in
    let more : c.extend_from_slice.new.self.items ≡ at.list.items ++ take m (drop n es) = search rules in
    let longer = chunk_more es at.list.items c.extend_from_slice.new.self.items n m begun within more in
    rw longer.0 (record {
      begun = longer.1;
      within = within;
      up = search rules;
    })
