use Rattle.eco_frame.proofs.Common.{◌++◌, ◌∷◌, [], ap, ◌∙◌, arith, append-nil, flat_map, length, length-append, sym}
use Rattle.std.proofs.lemmas.Grind.{flat_map-append}
use Rattle.eco_frame.specs.Chunks.{chunk_pieces}
use Rattle.eco_frame.proofs.Between.{take_both}
use Rattle.eco_frame.proofs.chunk.chunks.Goals as goal

pub loop-first-preserved : goal.loop-first-preserved
loop-first-preserved g c =
    let all = c.args.pieces.now in
    let first = c.loop-first.first in
    let test = c.loop-first-test.true in
    let least = c.min-count.ensures in
    let was = c.loop-first.invariant in
    let size = c.chunk_size-size.ensures.most in
    let long = ap length c.in_ok-push.ensures.items ∙ length-append c.loop-first.chunks.items (c.of.result ∷ []) in
    record {
      within = omega (arith, test, least);
      so_far = ap (flat_map chunk_pieces) c.in_ok-push.ensures.items ∙ flat_map-append chunk_pieces c.loop-first.chunks.items (c.of.result ∷ [])
          ∙ (λ i. c.loop-first.invariant.so_far i ++ (append-nil (chunk_pieces c.of.result) ∙ c.of.ensures) i)
          ∙ sym (take_both first c.min-count.result all);
      alone = λ one. (let before = was.alone one in omega (arith, test, least, long, one, before));
      many = λ some.
          let before = (was.many some).1 test in
          (omega (arith, test, least, long, some, before), λ less. omega (arith, test, least, long, some, before, less));
      most = (let before = was.most in omega (arith, test, least, long, size, before));
    }
