use Rattle.eco_workers.proofs.Common.{◌≡◌, ◌+◌, ◌++◌, length, length-append, [], ◌∷◌, sym, ap, ◌∙◌, append_assoc, arith, flat_map, Share, claimed, drawn}
use Rattle.eco_workers.proofs.Common.{is_done, is_dry, IsSeatOf}
use Rattle.eco_workers.proofs.Popped.{popped_all, popped_count, popped_list}
use Rattle.eco_workers.proofs.round.Round.gather.Goals as goal

pub loop-seat-init : goal.loop-seat-init
loop-seat-init c =
    let all = c.args.seats.items in
    let rest = c.pop.new.self.items in
    let seat = c.in-Some.seat in
    let e = c.in-Some.ensures.items in
    let h = c.into_hands-claim.ensures in
    let own = popped_all (IsSeatOf c.args.self.now) all rest seat e c.requires.all.1 in
    let n : length all ≡ length rest + 1 = ap length e ∙ length-append rest (seat ∷ []) in
    let done = popped_count is_done all rest seat e in
    let dry = popped_count is_dry all rest seat e in
    record {
      claim_of = ap (λ t. t.table_id) h.claim.0 ∙ own.1.0;
      draw_of = ap (λ t. t.table_id) h.draw.0 ∙ own.1.2;
      claim_parts = omega (arith, h.claim.1, n, c.requires.all.0);
      draw_parts = omega (arith, h.draw.1, n, c.requires.all.0);
      empty = (h.claim.2, h.draw.2);
      claimed_is = ap (λ (t : _). flat_map claimed rest ++ t.me.0.numbers) h.claim.0 ∙ sym (popped_list claimed all rest seat e);
      drawn_is = ap (λ (t : _). flat_map drawn rest ++ t.me.0.numbers) h.draw.0 ∙ sym (popped_list drawn all rest seat e);
      done_is = omega (arith, done, h.claim.3);
      dry_is = omega (arith, dry, h.draw.3);
      own = own.0;
    }

pub loop-seat-preserved : goal.loop-seat-preserved
loop-seat-preserved c =
    let i = c.loop-seat.invariant in
    let left = c.loop-seat.seats.items in
    let rest = c.pop-in-loop-seat.new.self.items in
    let seat = c.in-Some-pop.seat in
    let e = c.in-Some-pop.ensures.items in
    let h = c.into_hands-one.ensures in
    let own = popped_all (IsSeatOf c.args.self.now) left rest seat e i.own in
    let n = ap length e ∙ length-append rest (seat ∷ []) in
    let a = c.join_hands-claim.ensures in
    let b = c.join_hands-draw.ensures in
    let claim = ap (λ m. m.0) a.joined in
    let draw = ap (λ m. m.0) b.joined in
    let claim_parts = ap (λ (v : Share). v.parts) claim in
    let draw_parts = ap (λ (v : Share). v.parts) draw in
    let done = popped_count is_done left rest seat e in
    let dry = popped_count is_dry left rest seat e in
    record {
      claim_of = a.own ∙ ap (λ t. t.table_id) h.claim.0 ∙ own.1.0;
      draw_of = b.own ∙ ap (λ t. t.table_id) h.draw.0 ∙ own.1.2;
      claim_parts = omega (arith, claim_parts, h.claim.1, n, i.claim_parts);
      draw_parts = omega (arith, draw_parts, h.draw.1, n, i.draw_parts);
      empty = (ap (λ m. m.1) a.joined ∙ h.claim.2, ap (λ m. m.1) b.joined ∙ h.draw.2);
      claimed_is = ap (λ (v : Share). flat_map claimed rest ++ v.numbers) claim
          ∙ sym (append_assoc (flat_map claimed rest) c.into_hands-one.result.0.me.0.numbers c.loop-seat.claim.me.0.numbers)
          ∙ ap (λ (t : _). (flat_map claimed rest ++ t.me.0.numbers) ++ c.loop-seat.claim.me.0.numbers) h.claim.0
          ∙ ap (λ l. l ++ c.loop-seat.claim.me.0.numbers) (sym (popped_list claimed left rest seat e)) ∙ i.claimed_is;
      drawn_is = ap (λ (v : Share). flat_map drawn rest ++ v.numbers) draw
          ∙ sym (append_assoc (flat_map drawn rest) c.into_hands-one.result.1.me.0.numbers c.loop-seat.draw.me.0.numbers)
          ∙ ap (λ (t : _). (flat_map drawn rest ++ t.me.0.numbers) ++ c.loop-seat.draw.me.0.numbers) h.draw.0
          ∙ ap (λ l. l ++ c.loop-seat.draw.me.0.numbers) (sym (popped_list drawn left rest seat e)) ∙ i.drawn_is;
      done_is = let u = ap (λ (v : Share). v.refusals) claim in omega (arith, done, u, h.claim.3, i.done_is);
      dry_is = let u = ap (λ (v : Share). v.refusals) draw in omega (arith, dry, u, h.draw.3, i.dry_is);
      own = own.0;
    }
