use Rattle.eco_workers.proofs.Common.{◌≡◌, ◌+◌, ◌-◌, List, [], refl, sym, ◌∙◌, subst, arith, All, All-push, All-nil, Seat, share}
use Rattle.eco_workers.proofs.Common.{IsNewSeatOf}
use Rattle.eco_workers.proofs.round.Round.part_all.Goals as goal

pub loop-k-init : goal.loop-k-init
loop-k-init c =
    let round = c.args.self.now in
    let all : round.seats ≡ round.seats + 1 - 1 = omega arith in
    record {
      claim_of = c.requires.claim_of;
      claim = subst (λ n. c.args.claim.me ≡ (share round.pieces n [] 0, [])) all c.requires.claim;
      draw_of = c.requires.draw_of;
      draw = subst (λ n. c.args.draw.me ≡ (share round.limit n [] 0, [])) all c.requires.draw;
      count = omega (arith, c.in_ok-list.ensures.len);
      new = subst (All (IsNewSeatOf round)) (sym c.in_ok-list.ensures.items) (All-nil (IsNewSeatOf round));
    }

pub part-requires-clause-claim : goal.part-requires-clause-claim
part-requires-clause-claim c =
    let i = c.loop-k.invariant in
    (i.claim_of, rw i.claim (omega (arith, c.loop-k-test.true)), rw i.claim refl, rw i.claim refl)

pub part-requires-clause-draw : goal.part-requires-clause-draw
part-requires-clause-draw c =
    let i = c.loop-k.invariant in
    (i.draw_of, rw i.draw (omega (arith, c.loop-k-test.true)), rw i.draw refl, rw i.draw refl)

pub loop-k-preserved : goal.loop-k-preserved
loop-k-preserved c =
    let i = c.loop-k.invariant in
    let round = c.args.self.now in
    let list = c.loop-k.list.items in
    let less : round.seats + 1 - c.loop-k._k - 1 ≡ round.seats + 1 - (c.loop-k._k + 1) = omega arith in
    record {
      claim_of = c.part.ensures.claim.0 ∙ i.claim_of;
      claim = subst (λ n. c.part.new.claim.me ≡ (share round.pieces n [] 0, [])) less (rw i.claim at c.part.ensures.claim.1);
      draw_of = c.part.ensures.draw.0 ∙ i.draw_of;
      draw = subst (λ n. c.part.new.draw.me ≡ (share round.limit n [] 0, [])) less (rw i.draw at c.part.ensures.draw.1);
      count = omega (arith, i.count, c.push_reserved.ensures.len);
      new = subst (All (IsNewSeatOf round)) (sym {A = List Seat} c.push_reserved.ensures.items)
          (All-push (IsNewSeatOf round) list c.part.result i.new c.part.ensures.seat);
    }
