use Rattle.eco_store.proofs.Common.{sym, subst, ◌∙◌, map, after_changes, change_of, IsOneWay, AreTransfersReady}
use Rattle.eco_store.proofs.Thinning.{ready_thinned, same_changes}
use Rattle.eco_store.proofs.layout.Layout.carry_out.Goals as goal

pub move_all-requires-clause-ready : goal.move_all-requires-clause-ready
move_all-requires-clause-ready c =
    let l = c.args.self.now in
    let s1 = c.kill_all.new.self.archetypes in
    let ts = c.args.transfers.now in
    let loses = c.kill_all.ensures.loses in
    subst (λ targets. AreTransfersReady s1 targets ts (map (change_of s1) ts)) (sym loses.targets)
    (ready_thinned l.archetypes s1 l.staying.targets ts loses.thins c.requires.ready.named _ c.requires.ready)

pub move_all-requires-clause-one_way : goal.move_all-requires-clause-one_way
move_all-requires-clause-one_way c =
    let l = c.args.self.now in
    subst IsOneWay
    (sym (same_changes l.archetypes c.kill_all.new.self.archetypes l.staying.targets c.args.transfers.now c.kill_all.ensures.loses.thins
    c.requires.ready.named)) c.requires.one_way

pub returns-clause-seen : goal.returns-clause-seen
returns-clause-seen c =
    let l = c.args.self.now in
    let types =
    same_changes l.archetypes c.kill_all.new.self.archetypes l.staying.targets c.args.transfers.now c.kill_all.ensures.loses.thins
    c.requires.ready.named in
    c.move_all.ensures.seen ∙ (λ t. after_changes (c.kill_all.ensures.seen t) (types t))
