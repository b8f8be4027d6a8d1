use Rattle.eco_index.proofs.Common.{◌≡◌, ◌++◌, ◌∷◌, [], arith, ap, ◌∙◌, length, take, lookup, same_id}
use Rattle.std.proofs.Math.Seq.{take-length}
use Rattle.eco_index.proofs.SlotEdges.{added, added_next}
use Rattle.eco_index.proofs.edges.edge_list.widened.Goals as goal

pub loop-own-preserved : goal.loop-own-preserved
loop-own-preserved c =
    added_next c.args.few.now c.loop-own.many.entries c.insert.new.self.entries c.loop-own.own-index _ c.requires.distinct (omega arith)
    c.loop-own.invariant c.in_ok-insert.ensures.entries

pub returns : goal.returns
returns c =
    let end : c.loop-own.own-index ≡ length c.args.few.now = omega arith in
    let all : c.loop-own.many.entries ≡ c.args.few.now = c.loop-own.invariant ∙ ap (λ k. take k c.args.few.now) end ∙ take-length c.args.few.now in
    ap (λ m. m.entries) c.in_ok-new.ensures.ok
    ∙ added c.loop-own.many.entries c.insert-2.new.self.entries c.args.id c.args.to c.in_ok-insert-2.ensures.entries
    (ap (lookup (same_id c.args.id)) all ∙ c.requires.absent)
    ∙ ap (λ es. es ++ (c.args.id, c.args.to) ∷ []) all
