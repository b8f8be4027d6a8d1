use Rattle.eco_store.proofs.Common.{subst, AllHaveIds, there_by_row}
use Rattle.eco_store.proofs.Coupled.{may_turn}
use Rattle.eco_archetypes.proofs.Seated.{row_within}
use Rattle.eco_store.proofs.layout.Layout.turn.Goals as goal

pub step_alone-requires : goal.step_alone-requires
step_alone-requires c =
    let l = c.args.self.now in
    let p = c.args.place in
    there_by_row _ p.table p.row (row_within l.entities l.archetypes c.args.step.0 p c.requires.laid.store c.requires.own)

pub returns : goal.returns
returns c =
    let had = subst AllHaveIds c.tables.ensures.same c.rows_have_ids.ensures in
    may_turn c.args.self.now c.step_alone.new.self c.args.step.0 c.args.place c.args.step.1 c.requires.laid c.requires.own had
    c.step_alone.ensures.widths c.step_alone.result c.step_alone.ensures.ok c.step_alone.ensures.err
