use Rattle.eco_frame.proofs.BatchesCommon.{◌++◌, map, ap, ◌∙◌, insert_all, unrepeated, key_pattern, same_pattern}
use Rattle.eco_frame.proofs.Brings.{closed_alone}
use Rattle.eco_frame.proofs.Done.{if_done}
use Rattle.eco_frame.proofs.Once.{lists_closed, once_is_distinct}
use Rattle.eco_systems.specs.Writes as writes
use Rattle.eco_frame.proofs.closed.list_closed.Goals as goal

pub returns-then-bring_nothing-clause-closed : goal.returns-then-bring_nothing-clause-closed
returns-then-bring_nothing-clause-closed g c =
    let w = g.H.Holdings.world c.args.holdings.now in
    if_done
    (λ made. lists_closed w c.args.writes.now c.args.writes.now c.add_few.new.closed.items
    (closed_alone w c.args.writes.now (c.bring_nothing.ensures.0 c.if-bring_nothing.true))
    (made ∙ ap (λ ks. insert_all same_pattern ks (map (writes.widened w) c.args.writes.now)) c.clear.ensures.items))
    c.add_few.result c.add_few.ensures

pub returns-then-bring_nothing-clause-once : goal.returns-then-bring_nothing-clause-once
returns-then-bring_nothing-clause-once g c =
    let w = g.H.Holdings.world c.args.holdings.now in
    if_done
    (λ made. once_is_distinct c.add_few.new.closed.items (map (writes.widened w) c.args.writes.now)
    (made ∙ ap (λ ks. insert_all same_pattern ks (map (writes.widened w) c.args.writes.now)) c.clear.ensures.items))
    c.add_few.result c.add_few.ensures

pub returns-clause-closed : goal.returns-clause-closed
returns-clause-closed g c =
    let w = g.H.Holdings.world c.args.holdings.now in
    if_done
    (λ made. lists_closed w c.args.writes.now (map key_pattern c.in_ok-all.all.keys) c.append.new.closed.items c.in_ok-all.ensures
    (made ∙ ap (λ ks. ks ++ map key_pattern c.as_slice-2.result.now) c.clear.ensures.items ∙ ap (map key_pattern) c.as_slice-2.ensures.keys
    ∙ c.in_ok-widened.ensures ∙ ap (λ ks. unrepeated (map (writes.widened w) (map key_pattern ks))) c.as_slice.ensures.keys))
    c.append.result c.append.ensures

pub returns-clause-once : goal.returns-clause-once
returns-clause-once g c =
    let w = g.H.Holdings.world c.args.holdings.now in
    if_done
    (λ made. once_is_distinct c.append.new.closed.items (map (writes.widened w) (map key_pattern c.in_ok-all.all.keys))
    (made ∙ ap (λ ks. ks ++ map key_pattern c.as_slice-2.result.now) c.clear.ensures.items ∙ ap (map key_pattern) c.as_slice-2.ensures.keys
    ∙ c.in_ok-widened.ensures ∙ ap (λ ks. unrepeated (map (writes.widened w) (map key_pattern ks))) c.as_slice.ensures.keys))
    c.append.result c.append.ensures
