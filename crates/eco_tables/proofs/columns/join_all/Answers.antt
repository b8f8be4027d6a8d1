use Rattle.eco_tables.proofs.Common.{◌≡◌, ◌≤◌, ◌<◌, ◌++◌, arith, ap, sym, ◌∙◌, get_or, length, map, take, drop, refl, take_all}
use Rattle.eco_tables.proofs.Common.{ColumnState, contents, lengthened, rows_from}
use Rattle.eco_tables.proofs.Held.{joined_more, mapped_all, place_id, place_within, rest_at, rest_more, room_more}
use Rattle.eco_tables.proofs.Rows.{values_absent, values_at, values_held}
use Rattle.eco_tables.proofs.columns.join_all.Goals.{in-Some, in-None}
use Rattle.eco_tables.proofs.columns.join_all.Goals as goal

pub find_column-requires : goal.find_column-requires
find_column-requires c = c.requires.ascending

pub bounds-source-place : goal.bounds-source-place
bounds-source-place c = place_within _ _ _ c.in-Some.ensures.found

pub join-requires-clause-room : goal.join-requires-clause-room
join-requires-clause-room c =
    let same = rest_at c.args.columns.now c.loop-column.columns c.loop-column.column-index c.column-item.result c.loop-column.invariant.rest in
    let long : length c.index-source-place.result.values ≡ length c.args.entities.now =
    ap (λ x. length x.values) c.index-source-place.is ∙ c.requires.even _ _ (place_within _ _ _ c.in-Some.ensures.found) in
    let room : length c.args.entities.now ≤ (get_or c.args.columns.now c.loop-column.column-index c.column-item.result).room =
    c.requires.room _ _ (omega arith) in
    rw (long, same) room

pub join-requires-clause-width : goal.join-requires-clause-width
join-requires-clause-width c =
    let same = rest_at c.args.columns.now c.loop-column.columns c.loop-column.column-index c.column-item.result c.loop-column.invariant.rest in
    ap (λ x. x.width) same
    ∙ c.requires.widths c.loop-column.column-index c.column-item.result (omega arith) c.in-Some.place c.index-source-place.result
    (place_within _ _ _ c.in-Some.ensures.found)
    (ap (λ x. x.id) (sym same) ∙ sym c.id.ensures
    ∙ place_id c.args.source.now c.in-Some.place c.id.result c.in-Some.ensures.found c.index-source-place.result)
    ∙ sym (ap (λ x. x.width) c.index-source-place.is)

pub join_zeros-requires : goal.join_zeros-requires
join_zeros-requires c =
    let same = rest_at c.args.columns.now c.loop-column.columns c.loop-column.column-index c.column-item.result c.loop-column.invariant.rest in
    let room : length c.args.entities.now ≤ (get_or c.args.columns.now c.loop-column.column-index c.column-item.result).room =
    c.requires.room _ _ (omega arith) in
    rw same room

pub loop-column-preserved : goal.loop-column-preserved
loop-column-preserved c =
    let columns = c.loop-column.columns in
    let k = c.loop-column.column-index in
    let here = get_or columns k c.column-item.result in
    let rows = rows_from c.args.source.now 0 c.args.entities.now in
    let same = rest_at c.args.columns.now columns k c.column-item.result c.loop-column.invariant.rest in
    let within : k < length columns = omega arith in
    let inside : k < length c.args.columns.now = omega arith in
    elim c.match-find_column.branch [
      | in-Some w ↦
          let long : length w.index-source-place.result.values ≡ length c.args.entities.now =
          ap (λ x. length x.values) w.index-source-place.is ∙ c.requires.even _ _ (place_within _ _ _ w.in-Some.ensures.found) in
          let held : w.index-source-place.result.values ≡ values_held rows here.id =
          ap (λ x. x.values) w.index-source-place.is
          ∙ values_at c.args.source.now c.args.entities.now w.in-Some.place c.id.result w.index-source-place.result w.in-Some.ensures.found c.requires.ascending
          c.requires.even
          ∙ ap (values_held rows) c.id.ensures in
          rw w.columns-is record {
            same = joined_more (λ x. lengthened x (values_held rows x.id)) c.args.columns.now columns k c.column-item.result w.join.new.self inside
                c.loop-column.auto.columns c.loop-column.invariant.same c.loop-column.invariant.rest
                (ap contents w.join.ensures.values ∙ ap (λ vs. ((here.id, here.width), here.values ++ vs)) held);
            rest = rest_more c.args.columns.now columns k w.join.new.self c.loop-column.invariant.rest;
            room = λ b h. room_more b columns k w.join.new.self within
                (omega (arith, w.join.ensures.room, long, h k c.column-item.result inside, ap (λ x. x.room) same)) (c.loop-column.invariant.room b h);
          }
      | in-None w ↦
          let held = values_absent c.args.source.now c.args.entities.now c.id.result w.in-None.ensures.absent ∙ ap (values_held rows) c.id.ensures in
          rw w.columns-is record {
            same = joined_more (λ x. lengthened x (values_held rows x.id)) c.args.columns.now columns k c.column-item.result w.join_zeros.new.self inside
                c.loop-column.auto.columns c.loop-column.invariant.same c.loop-column.invariant.rest
                (ap contents w.join_zeros.ensures.values ∙ ap (λ vs. ((here.id, here.width), here.values ++ vs)) held);
            rest = rest_more c.args.columns.now columns k w.join_zeros.new.self c.loop-column.invariant.rest;
            room = λ b h. room_more b columns k w.join_zeros.new.self within
                (omega (arith, w.join_zeros.ensures.room, h k c.column-item.result inside, ap (λ x. x.room) same)) (c.loop-column.invariant.room b h);
          }
    ]

pub returns-clause-kept : goal.returns-clause-kept
returns-clause-kept c = λ b h. rw (take_all c.loop-column.column-index c.loop-column.columns (omega arith)) at (c.loop-column.invariant.room b h)

pub returns-clause-same : goal.returns-clause-same
returns-clause-same c =
    let xs = c.args.columns.now in
    let f = λ (x : ColumnState). lengthened x (values_held (rows_from c.args.source.now 0 c.args.entities.now) x.id) in
    let k = c.loop-column.column-index in
    c.loop-column.invariant.same ∙ ap (map contents) (mapped_all f xs (map f (take k xs) ++ drop k xs) k (omega arith) refl)
