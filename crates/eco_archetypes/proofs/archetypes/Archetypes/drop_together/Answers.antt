use Rattle.eco_archetypes.proofs.Common.{lists_of}
use Rattle.eco_index.specs.Contents.{slots_by_mark}
use Rattle.eco_archetypes.proofs.Sweeping.{found_swept, less_kept}
use Rattle.eco_archetypes.proofs.Widths.{kept_widths}
use Rattle.eco_archetypes.proofs.archetypes.Archetypes.drop_together.Goals as goal

pub invariant_of-self : goal.invariant_of-self
invariant_of-self c =
    let own = c.self.inside in
    found_swept own.tables c.drop_tables.new.tables c.drop_tables.ensures.less (slots_by_mark own.by_type)
    (slots_by_mark c.keep_there.new.self)
    (lists_of own.by_id.slots) (lists_of c.keep_there-2.new.self.slots) own.edges.lists.items c.keep_there-3.new.self.lists.items c.self.invariant
    c.keep_there.ensures c.keep_there-2.ensures c.keep_there-3.ensures (c.drop_tables.ensures.exact c.self.invariant.cached)

pub returns : goal.returns
returns c = rw (← c.self.view_is) record {
  dropped = c.drop_tables.ensures.dropped;
  rowless = c.drop_tables.ensures.rowless;
  rows = c.drop_tables.ensures.rows;
  widths = kept_widths c.self.inside.tables c.drop_tables.new.tables (less_kept _ _ c.drop_tables.ensures.less);
}
