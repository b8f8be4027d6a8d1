use Rattle.eco_store.proofs.Common.{arith, length, length-swap_remove, no_row, no_table, unwrap_or}
use Rattle.eco_store.proofs.Common.{refl, ap, ◌∙◌, changed, Place, placed, there_by_room, there_by_row, rows_in, all_staying, read}
use Rattle.eco_store.proofs.Coming.{admits_row}
use Rattle.eco_store.proofs.Laid.{seen_alike}
use Rattle.eco_store.proofs.LaidRows.{row_moves}
use Rattle.eco_store.proofs.Needing.{fixed_covers, placed_covers}
use Rattle.eco_store.proofs.RowCounts.{own_fits, end_fits}
use Rattle.eco_store.proofs.Rowless.{rowless_moved}
use Rattle.eco_store.proofs.StoreChanges as changes
use Rattle.eco_archetypes.proofs.Seated.{row_within}
use Rattle.eco_store.proofs.layout.Layout.carry.Goals as goal

pub move_row-filler-requires-clause-row : goal.move_row-filler-requires-clause-row
move_row-filler-requires-clause-row c =
    row_within c.args.self.now.entities c.args.self.now.archetypes c.args.e c.args.place c.requires.laid.store c.requires.own

pub fix_place-requires-clause-living : goal.fix_place-requires-clause-living
fix_place-requires-clause-living c =
    let l = c.args.self.now in
    let n = c.args.to in
    let to : Place = record { table = n; row = c.row_count-row.result } in
    let end = c.row_count-row.ensures ∙ ap (λ s. length (rows_in s n)) c.tables.ensures.same in
    let moves =
    row_moves l.archetypes _ c.args.place to n _ _ c.requires.apart refl (λ t. record { table = n; row = end t }) c.move_row-filler.ensures.moves
    c.move_row-filler.ensures.moved in
    changes.movers_live l.entities l.archetypes _ c.args.e c.args.place _ c.requires.laid.store c.requires.own moves.source moves.filled

pub fix_place-requires-clause-fits : goal.fix_place-requires-clause-fits
fix_place-requires-clause-fits c =
    own_fits c.args.self.now.entities c.args.self.now.archetypes c.args.e c.args.place c.rules.ensures c.requires.laid.store c.requires.own

pub set_place-requires-clause-alive : goal.set_place-requires-clause-alive
set_place-requires-clause-alive c =
    let l = c.args.self.now in
    let n = c.args.to in
    let to : Place = record { table = n; row = c.row_count-row.result } in
    let end = c.row_count-row.ensures ∙ ap (λ s. length (rows_in s n)) c.tables.ensures.same in
    let moves =
    row_moves l.archetypes _ c.args.place to n _ _ c.requires.apart refl (λ t. record { table = n; row = end t }) c.move_row-filler.ensures.moves
    c.move_row-filler.ensures.moved in
    rw c.fix_place.ensures
    (changes.still_lives l.entities l.archetypes _ c.args.e c.args.place _ c.requires.laid.store c.requires.own moves.source moves.filled)

pub set_place-requires-clause-fits : goal.set_place-requires-clause-fits
set_place-requires-clause-fits c =
    end_fits c.args.self.now.entities c.args.self.now.archetypes c.args.to _ c.rules.ensures c.requires.laid.store
    (c.row_count-row.ensures ∙ ap (λ s. length (rows_in s c.args.to)) c.tables.ensures.same)

pub release_row-requires-clause-beside : goal.release_row-requires-clause-beside
release_row-requires-clause-beside c =
    let l = c.args.self.now in
    let n = c.args.to in
    let p = c.args.place in
    let to : Place = record { table = n; row = c.row_count-row.result } in
    let end = c.row_count-row.ensures ∙ ap (λ s. length (rows_in s n)) c.tables.ensures.same in
    let moves =
    row_moves l.archetypes _ p to n _ _ c.requires.apart refl (λ t. record { table = n; row = end t }) c.move_row-filler.ensures.moves
    c.move_row-filler.ensures.moved in
    record {
      store =
          rw (c.set_place.ensures, c.fix_place.ensures)
          (changes.to_store l.entities l.archetypes _ c.args.e p _ c.requires.laid.store c.requires.own moves.source moves.filled to _ moves);
      covers =
          placed_covers c.needs_never_grow.ensures _ _ _ c.args.e to c.set_place.ensures
          (fixed_covers c.needs_never_grow.ensures l.entities c.fix_place.new.entities _ c.move_row-filler.result p c.fix_place.ensures
          (c.move_row-filler.ensures.widths _ c.requires.laid.covers));
      tidy = rowless_moved l.archetypes _ p.table p.row n (all_staying l.staying) c.move_row-filler.ensures.moves c.requires.laid.tidy;
    }

pub release_row-requires-clause-behind : goal.release_row-requires-clause-behind
release_row-requires-clause-behind c =
    let l = c.args.self.now in
    let p = c.args.place in
    let within = row_within l.entities l.archetypes c.args.e p c.requires.laid.store c.requires.own in
    let left = ap (λ o. length (unwrap_or o no_table).rows) c.move_row-filler.ensures.moves.source in
    omega (arith, within, left, length-swap_remove (rows_in l.archetypes p.table) p.row no_row)

pub returns : goal.returns
returns c =
    let l = c.args.self.now in
    let s = l.archetypes in
    let n = c.args.to in
    let p = c.args.place in
    let s1 = c.move_row-filler.new.self in
    let there = row_within l.entities s c.args.e p c.requires.laid.store c.requires.own in
    let to : Place = record { table = n; row = c.row_count-row.result } in
    let end = c.row_count-row.ensures ∙ ap (λ s. length (rows_in s n)) c.tables.ensures.same in
    let moves =
    row_moves s s1 p to n _ _ c.requires.apart refl (λ t. record { table = n; row = end t }) c.move_row-filler.ensures.moves
    c.move_row-filler.ensures.moved in
    record {
      carries = record {
        laid = c.release_row.ensures.laid;
        staying = c.release_row.ensures.staying;
        admits =
            admits_row s s1 c.release_row.new.self.archetypes p.table p.row n l.staying.targets (there_by_row s p.table p.row there)
            (there_by_room s n c.requires.room) c.move_row-filler.ensures.moves c.release_row.ensures.targets;
      };
      seen =
          seen_alike c.set_place.new.self s1 c.release_row.new.self c.release_row.ensures.entities c.release_row.ensures.rows
          ∙ ap (λ v. read v s1) (c.set_place.ensures ∙ ap (λ v. changed v c.args.e (placed to)) c.fix_place.ensures)
          ∙ changes.to_read l.entities s s1 c.args.e p _ c.requires.laid.store c.requires.own moves.source moves.filled to _ moves;
    }
