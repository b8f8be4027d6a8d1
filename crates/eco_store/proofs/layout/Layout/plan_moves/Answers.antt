use Rattle.eco_store.proofs.Common.{◌≡◌, ◌+◌, ◌++◌, ◌∷◌, [], take, length, ap, sym, ◌∙◌, subst, arith, take_all, take_more}
use Rattle.eco_store.proofs.Common.{there_as_typed, AreMovesReady}
use Rattle.eco_store.proofs.Coming.{ready_more, ready_none}
use Rattle.eco_store.proofs.Laid.{plans_none, plans_reserved, plans_then}
use Rattle.eco_store.proofs.layout.Layout.plan_moves.Goals as goal

pub loop-next-init : goal.loop-next-init
loop-next-init c =
    let l = c.args.self.now in
    record {
      plans = plans_none l c.requires;
      ready = subst (AreMovesReady l.archetypes l.staying.targets []) (sym c.new-slots.ensures.items) (ready_none l.archetypes l.staying.targets);
    }

pub reserve_more-requires : goal.reserve_more-requires
reserve_more-requires c = there_as_typed c.target.new.self.archetypes c.in_ok-slot.slot _ c.in_ok-slot.ensures.typed

pub returns-in_err-slot-clause-nothing : goal.returns-in_err-slot-clause-nothing
returns-in_err-slot-clause-nothing c = λ none. let here = c.loop-next-test.true in let empty = ap length none in absurd (omega (arith, here, empty))

pub returns-in_err-slot-clause-plans : goal.returns-in_err-slot-clause-plans
returns-in_err-slot-clause-plans c = plans_then _ _ _ c.loop-next.invariant.plans c.target.ensures.plans

pub returns-in_err-reserve_more-clause-nothing : goal.returns-in_err-reserve_more-clause-nothing
returns-in_err-reserve_more-clause-nothing c = λ none.
    let here = c.loop-next-test.true in let empty = ap length none in absurd (omega (arith, here, empty))

pub returns-in_err-reserve_more-clause-plans : goal.returns-in_err-reserve_more-clause-plans
returns-in_err-reserve_more-clause-plans c =
    plans_reserved _ c.target.new.self (plans_then _ _ _ c.loop-next.invariant.plans c.target.ensures.plans) c.reserve_more.new.self
    c.reserve_more.ensures.rows (c.reserve_more.ensures.widths _) c.reserve_more.ensures.rowless

pub returns-in_err-push-clause-nothing : goal.returns-in_err-push-clause-nothing
returns-in_err-push-clause-nothing c = λ none. let here = c.loop-next-test.true in let empty = ap length none in absurd (omega (arith, here, empty))

pub returns-in_err-push-clause-plans : goal.returns-in_err-push-clause-plans
returns-in_err-push-clause-plans c =
    plans_reserved _ c.target.new.self (plans_then _ _ _ c.loop-next.invariant.plans c.target.ensures.plans) c.reserve_more.new.self
    c.reserve_more.ensures.rows (c.reserve_more.ensures.widths _) c.reserve_more.ensures.rowless

pub loop-next-preserved : goal.loop-next-preserved
loop-next-preserved c =
    let l = c.loop-next.self in
    let l1 = c.target.new.self in
    let s2 = c.reserve_more.new.self in
    let targets = l1.staying.targets in
    let done = take c.loop-next.next-index c.args.moves.now in
    let ns = c.loop-next.slots.items in
    let m = c.next-item.result in
    let n = c.in_ok-slot.slot in
    let more : take (c.loop-next.next-index + 1) c.args.moves.now ≡ done ++ m ∷ [] =
    take_more c.args.moves.now c.loop-next.next-index m c.loop-next-test.true ∙ ap (λ x. done ++ x ∷ []) (sym c.next-item.is) in
    record {
      plans =
          plans_reserved _ l1 (plans_then _ _ _ c.loop-next.invariant.plans c.target.ensures.plans) s2 c.reserve_more.ensures.rows
          (c.reserve_more.ensures.widths _) c.reserve_more.ensures.rowless;
      ready =
          subst (AreMovesReady s2 targets (take (c.loop-next.next-index + 1) c.args.moves.now)) (sym c.in_ok-push.ensures.items)
          (subst (λ ms. AreMovesReady s2 targets ms (ns ++ n ∷ [])) (sym more)
          (ready_more l.archetypes l1.archetypes s2 l.staying.targets targets done ns m n _ c.loop-next.invariant.ready c.target.ensures.plans.targets
          c.in_ok-slot.ensures.kept c.in_ok-slot.ensures.room c.in_ok-slot.ensures.typed c.in_ok-slot.ensures.named c.reserve_more.ensures.types
          c.reserve_more.ensures.sets c.in_ok-reserve_more.ensures.room));
    }

pub returns-clause-ready : goal.returns-clause-ready
returns-clause-ready c =
    let l = c.loop-next.self in
    subst (λ ms. AreMovesReady l.archetypes l.staying.targets ms c.loop-next.slots.items)
    (take_all c.loop-next.next-index c.args.moves.now c.loop-next-test.false) c.loop-next.invariant.ready
