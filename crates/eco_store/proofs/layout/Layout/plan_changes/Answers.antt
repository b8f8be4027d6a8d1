use Rattle.eco_store.proofs.Common.{◌≡◌, ◌+◌, ◌≤◌, ◌++◌, ◌∷◌, [], take, length, ap, sym, ◌∙◌, subst, arith, take_all}
use Rattle.eco_store.proofs.Common.{take_more, table_in, there_as_typed, Transfer, AreTransfersReady}
use Rattle.eco_store.proofs.Laid.{plans_none, plans_reserved, plans_then}
use Rattle.eco_store.proofs.Pouring.{ready_kept, ready_more, ready_none}
use Rattle.eco_store.proofs.layout.Layout.plan_changes.Goals as goal

pub loop-change-init : goal.loop-change-init
loop-change-init c =
    let l = c.args.self.now in
    record {
      plans = plans_none l c.requires;
      ready =
          subst (λ ts. AreTransfersReady l.archetypes l.staying.targets ts []) (sym c.new-transfers.ensures.items)
          (ready_none l.archetypes l.staying.targets);
    }

pub reserve_more-requires : goal.reserve_more-requires
reserve_more-requires c = there_as_typed c.target-in-loop-change.new.self.archetypes c.in_ok-to.to _ c.in_ok-to.ensures.typed

pub returns-in_err-from-clause-plans : goal.returns-in_err-from-clause-plans
returns-in_err-from-clause-plans c = plans_then _ _ _ c.loop-change.invariant.plans c.target.ensures.plans

pub returns-in_err-to-clause-plans : goal.returns-in_err-to-clause-plans
returns-in_err-to-clause-plans c =
    plans_then _ _ _ c.loop-change.invariant.plans (plans_then _ _ _ c.target.ensures.plans c.target-in-loop-change.ensures.plans)

pub returns-in_err-reserve_more-clause-plans : goal.returns-in_err-reserve_more-clause-plans
returns-in_err-reserve_more-clause-plans c =
    plans_reserved _ c.target-in-loop-change.new.self
    (plans_then _ _ _ c.loop-change.invariant.plans (plans_then _ _ _ c.target.ensures.plans c.target-in-loop-change.ensures.plans))
    c.reserve_more.new.self c.reserve_more.ensures.rows (c.reserve_more.ensures.widths _) c.reserve_more.ensures.rowless

pub returns-in_err-push-clause-plans : goal.returns-in_err-push-clause-plans
returns-in_err-push-clause-plans c =
    plans_reserved _ c.target-in-loop-change.new.self
    (plans_then _ _ _ c.loop-change.invariant.plans (plans_then _ _ _ c.target.ensures.plans c.target-in-loop-change.ensures.plans))
    c.reserve_more.new.self c.reserve_more.ensures.rows (c.reserve_more.ensures.widths _) c.reserve_more.ensures.rowless

pub loop-change-preserved : goal.loop-change-preserved
loop-change-preserved c =
    let l = c.loop-change.self in
    let l1 = c.target.new.self in
    let l2 = c.target-in-loop-change.new.self in
    let s2 = l2.archetypes in
    let s3 = c.reserve_more.new.self in
    let targets = l2.staying.targets in
    let done = take c.loop-change.change-index c.args.changes.now in
    let ts = c.loop-change.transfers.items in
    let change = c.change-item.result in
    let t : Transfer = record { from = c.in_ok-from.from; to = c.in_ok-to.to } in
    let changes : take (c.loop-change.change-index + 1) c.args.changes.now ≡ done ++ change ∷ [] =
    take_more c.args.changes.now c.loop-change.change-index change c.loop-change-test.true ∙ ap (λ x. done ++ x ∷ []) (sym c.change-item.is) in
    let rows : c.row_count-rows.result ≡ length (table_in s2 t.from).rows =
    c.row_count-rows.ensures ∙ ap (λ z. length (table_in z t.from).rows) c.tables.ensures.same in
    let more : (table_in s2 t.to).room + length (table_in s2 t.from).rows ≤ (table_in s3 t.to).room =
    omega (arith, rows, c.in_ok-reserve_more.ensures.room) in
    let first = c.target.ensures.plans in
    let both = c.target-in-loop-change.ensures.plans in
    record {
      plans =
          plans_reserved _ l2 (plans_then _ _ _ c.loop-change.invariant.plans (plans_then _ _ _ first both)) s3 c.reserve_more.ensures.rows
          (c.reserve_more.ensures.widths _) c.reserve_more.ensures.rowless;
      ready =
          subst (λ us. AreTransfersReady s3 targets us (take (c.loop-change.change-index + 1) c.args.changes.now)) (sym c.in_ok-push.ensures.items)
          (subst (AreTransfersReady s3 targets (ts ++ t ∷ [])) (sym changes)
          (ready_more s2 s3 targets ts done t change _
          (ready_kept l1.archetypes s2 l1.staying.targets targets ts done
          (ready_kept l.archetypes l1.archetypes l.staying.targets l1.staying.targets ts done c.loop-change.invariant.ready first.targets
          c.in_ok-from.ensures.kept c.in_ok-from.ensures.room first.rows)
          both.targets c.in_ok-to.ensures.kept c.in_ok-to.ensures.room both.rows)
          (c.in_ok-to.ensures.kept t.from change.from c.in_ok-from.ensures.typed) c.in_ok-to.ensures.typed
          (both.targets t.from c.in_ok-from.ensures.named, c.in_ok-to.ensures.named) c.reserve_more.ensures.types c.reserve_more.ensures.rows
          c.reserve_more.ensures.sets more));
    }

pub returns-clause-ready : goal.returns-clause-ready
returns-clause-ready c =
    let l = c.loop-change.self in
    subst (AreTransfersReady l.archetypes l.staying.targets c.loop-change.transfers.items)
    (take_all c.loop-change.change-index c.args.changes.now c.loop-change-test.false) c.loop-change.invariant.ready
