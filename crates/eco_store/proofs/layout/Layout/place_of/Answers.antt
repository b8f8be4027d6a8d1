use Rattle.eco_store.proofs.Common.{subst, AllHaveIds, there_by_row}
use Rattle.eco_store.proofs.Stepping.{standing_type}
use Rattle.eco_archetypes.proofs.Seated.{row_within}
use Rattle.eco_store.proofs.layout.Layout.place_of.Goals as goal

pub returns : goal.returns
returns c =
    let l = c.args.self.now in
    let p = c.seat_of.result in
    let own = c.seat_of.ensures in
    let row = row_within l.entities l.archetypes c.args.e p c.requires.laid.store own in
    record {
      own = own;
      row = row;
      there = there_by_row l.archetypes p.table p.row row;
      typed =
          standing_type l.entities l.archetypes c.args.e p c.requires.laid.store own (subst AllHaveIds c.tables.ensures.same c.rows_have_ids.ensures);
    }
