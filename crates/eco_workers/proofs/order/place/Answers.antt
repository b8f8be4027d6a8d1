use Rattle.eco_workers.proofs.Common.{◌≡◌, ◌∷◌, [], ◌++◌, List, sym, ap, ◌∙◌, append_assoc, arith, replicate, set, append-nil}
use Rattle.eco_workers.proofs.Common.{nil_from_length, into_iter_items, Command, placed_stages}
use Rattle.eco_workers.proofs.Placed.{number_within, placed_push}
use Rattle.eco_workers.proofs.order.place.Goals as goal

pub index_mut-requires : goal.index_mut-requires
index_mut-requires c =
    let at = c.loop-piece in
    let p = c.in-Some.piece in
    let steps : into_iter_items at.piece-iterator ≡ p ∷ into_iter_items c.next.new.self = c.in-Some.ensures.steps.0 in
    let within = number_within c.args.count c.args.pieces.items at.yielded (into_iter_items c.next.new.self) p at.stages.items
    (sym (ap (λ ps. at.yielded ++ ps) steps) ∙ at.invariant.left) c.requires at.invariant.placed in
    omega (arith, within, at.stages.ok)

pub loop-piece-preserved : goal.loop-piece-preserved
loop-piece-preserved c =
    let at = c.loop-piece in
    let p = c.in-Some.piece in
    let steps : into_iter_items at.piece-iterator ≡ p ∷ into_iter_items c.next.new.self = c.in-Some.ensures.steps.0 in
    record {
      can = tt;
      ends = tt;
      left = append_assoc at.yielded (p ∷ []) _ ∙ rw (← steps) at.invariant.left;
      placed = ap (λ (l : List (List Command)). set l p.number p.stage) at.invariant.placed ∙ sym (placed_push at.yielded p (replicate c.args.count []));
    }

pub returns : goal.returns
returns c =
    let at = c.loop-piece in
    let none : into_iter_items at.piece-iterator ≡ [] =
    nil_from_length (into_iter_items at.piece-iterator) (omega (arith, at.piece-iterator.rest.ok, c.in-None.ensures.steps.0)) in
    at.invariant.placed
    ∙ ap (λ ps. placed_stages ps (replicate c.args.count [])) (sym (append-nil at.yielded) ∙ ap (λ ps. at.yielded ++ ps) (sym none) ∙ at.invariant.left)
