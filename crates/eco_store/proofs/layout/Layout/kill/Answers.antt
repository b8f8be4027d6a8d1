use Rattle.eco_store.proofs.Common.{refl, ap, ◌∙◌, arith, with_death, length-swap_remove, Kill, no_row, table_in, without_row, rows_in, StayingState}
use Rattle.eco_store.proofs.Common.{all_staying, read}
use Rattle.eco_store.proofs.Laid.{seen_alike}
use Rattle.eco_store.proofs.LaidRows.{row_takes}
use Rattle.eco_store.proofs.Needing.{called, fixed_covers}
use Rattle.eco_store.proofs.RowCounts.{own_fits}
use Rattle.eco_store.proofs.Rowless.{rowless_emptied}
use Rattle.eco_store.proofs.Thinning.{thins_without}
use Rattle.eco_store.proofs.StoreChanges as changes
use Rattle.eco_store.proofs.layout.Layout.kill.Goals as goal

pub fix_place-requires-clause-living : goal.fix_place-requires-clause-living
fix_place-requires-clause-living c =
    let l = c.args.self.now in
    let p = c.place_of-place.result in
    let takes = row_takes l.archetypes _ p c.swap_out-moved.result c.swap_out-moved.ensures.rows c.swap_out-moved.ensures.moved in
    changes.movers_live l.entities l.archetypes _ c.args.entity p _ c.requires.laid.store c.place_of-place.ensures.own takes.rows.changed takes.filled

pub fix_place-requires-clause-fits : goal.fix_place-requires-clause-fits
fix_place-requires-clause-fits c =
    let l = c.args.self.now in
    own_fits l.entities l.archetypes c.args.entity c.place_of-place.result c.rules.ensures c.requires.laid.store
    c.place_of-place.ensures.own

pub kill-requires : goal.kill-requires
kill-requires c =
    let l = c.args.self.now in
    let p = c.place_of-place.result in
    let takes = row_takes l.archetypes _ p c.swap_out-moved.result c.swap_out-moved.ensures.rows c.swap_out-moved.ensures.moved in
    rw c.fix_place.ensures
    (changes.still_lives l.entities l.archetypes _ c.args.entity p _ c.requires.laid.store c.place_of-place.ensures.own takes.rows.changed takes.filled)

pub release-requires : goal.release-requires
release-requires c =
    let l = c.args.self.now in
    let s = l.archetypes in
    let p = c.place_of-place.result in
    let own = c.place_of-place.ensures.own in
    let takes = row_takes s _ p c.swap_out-moved.result c.swap_out-moved.ensures.rows c.swap_out-moved.ensures.moved in
    record {
      store =
          rw (c.kill.ensures, c.fix_place.ensures)
          (changes.out_store l.entities s _ c.args.entity p _ c.requires.laid.store own takes.rows.changed takes.filled takes.rows.others);
      covers =
          called c.needs_never_grow.ensures (Kill c.args.entity) _ _ _ (
            rw c.fix_place.ensures (changes.still_lives l.entities s _ c.args.entity p _ c.requires.laid.store own takes.rows.changed takes.filled),
            c.kill.ensures,
          )
          (fixed_covers c.needs_never_grow.ensures l.entities c.fix_place.new.entities _ c.swap_out-moved.result p c.fix_place.ensures
          (c.swap_out-moved.ensures.widths _ c.requires.laid.covers));
      tidy = rowless_emptied s _ p.table (all_staying l.staying) _ c.swap_out-moved.ensures.rows c.requires.laid.tidy;
    }

pub returns : goal.returns
returns c =
    let l = c.args.self.now in
    let s = l.archetypes in
    let s1 = c.swap_out-moved.new.self in
    let p = c.place_of-place.result in
    let less = length-swap_remove (rows_in s p.table) p.row no_row in
    let takes = row_takes s s1 p c.swap_out-moved.result c.swap_out-moved.ensures.rows c.swap_out-moved.ensures.moved in
    record {
      loses = record {
        laid = c.release.ensures.laid;
        targets = ap (λ (q : StayingState). q.targets) c.release.ensures.staying;
        thins =
            thins_without s s1 c.release.new.self.archetypes p.table (without_row (table_in s p.table) p.row) l.staying.targets
            c.place_of-place.ensures.there c.swap_out-moved.ensures.rows refl (omega (arith, less)) (omega arith) c.release.ensures.targets;
      };
      seen =
          seen_alike c.kill.new.self s1 c.release.new.self c.release.ensures.entities c.release.ensures.rows
          ∙ ap (λ v. read v s1) (c.kill.ensures ∙ ap (λ v. with_death v c.args.entity) c.fix_place.ensures)
          ∙ changes.out_read l.entities s s1 c.args.entity p _ c.requires.laid.store c.place_of-place.ensures.own takes.rows.changed takes.filled
          takes.rows.others;
      staying = c.release.ensures.staying;
    }
