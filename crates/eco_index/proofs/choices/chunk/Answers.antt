use Rattle.eco_index.proofs.EntriesCommon.{Some, take, drop, ap, ◌∙◌, ◌*◌, ◌+◌, ◌-◌, ◌≡◌, arith}
use Rattle.eco_index.proofs.Chunked.{chunk_read}
use Rattle.eco_index.proofs.choices.chunk.Goals as goal

pub returns : goal.returns
returns c =
    let a = c.args in
    let e : a.width ≡ a.place * a.width + a.width - a.place * a.width = omega arith in
    chunk_read a.count a.width a.place a.entries.now c.requires.there ∙ ap (λ k. Some (take k (drop (a.place * a.width) a.entries.now))) e
