use Rattle.eco_index.proofs.EntriesCommon.{◌<◌, ap, length, arith}
use Rattle.eco_index.proofs.Chunked.{length_chunks, chunk_within}
use Rattle.eco_index.proofs.choices.Choices.get.Goals as goal

pub chunk-requires-clause-there : goal.chunk-requires-clause-there
chunk-requires-clause-there c =
    rw (length_chunks c.self.inside.count c.self.inside.width c.self.inside.entries.items) at (rw (← c.self.view_is) at c.requires)

pub chunk-requires-clause-within : goal.chunk-requires-clause-within
chunk-requires-clause-within c =
    let there : c.args.place < c.self.inside.count =
    rw (length_chunks c.self.inside.count c.self.inside.width c.self.inside.entries.items) at (rw (← c.self.view_is) at c.requires) in
    let h = chunk_within c.args.place c.self.inside.count c.self.inside.width there in
    let l = c.self.invariant in
    let v = ap length c.deref.ensures.value in
    omega (arith, h, l, v)
