use Rattle.eco_tables.proofs.Common.{◌≡◌, ◌<◌, ◌≤◌, ◌∙◌, ap, arith, drop, kind_of, length, length-map, map, padded, slice_get, subst, sym, take, refl}
use Rattle.eco_tables.proofs.Common.{ColumnState, Fits, Some}
use Rattle.std.specs.Prelude.{◌*◌}
use Rattle.eco_tables.specs.Runs.{IsLongestRun, IsRunOf, run_values}
use Rattle.eco_tables.specs.Table.{width_in}
use Rattle.eco_tables.proofs.Held.{has_place, place_within}
use Rattle.eco_tables.proofs.Rows.{ascends, column_width, widthless_in, within_ids}
use Rattle.eco_tables.proofs.Runs.{FitsKinds, run_values_all, run_within, shape_ran, table_ran}
use Rattle.eco_tables.proofs.Shapes.{entities_of_all, row_within}
use Rattle.eco_tables.proofs.table.Table.set_rows.Goals as goal

pub find_column-requires : goal.find_column-requires
find_column-requires g c = rw c.as_slice.ensures.value (ascends _ _ c.self.invariant.kinds)

pub entities_from-entities-requires : goal.entities_from-entities-requires
entities_from-entities-requires g c =
    let there = row_within _ _ _ _ _ c.self.invariant c.args.row (rw (← c.self.view_is) at c.requires.row) in
    rw c.as_slice-2.ensures.value (omega (arith, there))

pub index_mut-requires : goal.index_mut-requires
index_mut-requires g c =
    rw c.self.inside.columns.ok.0
    (place_within c.self.inside.columns.items c.in-Some.place c.args.id (rw c.as_slice.ensures.value at c.in-Some.ensures.found))

pub write_rows-requires : goal.write_rows-requires
write_rows-requires g c =
    let own = c.self.inside in
    let column = c.index_mut.result.now in
    let found : slice_get (map (λ (x : ColumnState). x.id) own.columns.items) c.in-Some.place ≡ Some c.args.id =
    rw c.as_slice.ensures.value at c.in-Some.ensures.found in
    let there = row_within _ _ _ _ _ c.self.invariant c.args.row (rw (← c.self.view_is) at c.requires.row) in
    let place = place_within own.columns.items c.in-Some.place c.args.id found in
    let few : g.row.N ≤ 8 = c.requires.few in
    let size : g.row.N * 8 < 9223372036854775808 = omega (arith, few) in
    let long : length column.values ≡ length own.entities.items =
    ap (λ (x : ColumnState). length x.values) c.index_mut.ensures.value ∙ c.self.invariant.even c.in-Some.place column place in (
      size,
      (
        c.requires.few,
        (
          run_within c.args.sets.now own.entities.items c.entities_from-entities.result.now c.count_rows-count.result c.args.row (length column.values)
              c.count_rows-count.ensures.sets c.count_rows-count.ensures.rows
              (c.entities_from-entities.ensures ∙ ap (drop c.args.row) c.as_slice-2.ensures.value) there long,
          run_values_all (Fits column.width) g.row.N c.args.arity (take c.count_rows-count.result c.args.sets.now) c.requires.few
              (λ v all zeros.
              subst (λ (x : ColumnState). Fits x.width v) (sym c.index_mut.ensures.value)
              ((rw (← c.self.view_is) at c.requires.fits) v all zeros _
              (column_width own.type_list own.columns.items c.self.invariant.kinds c.in-Some.place c.args.id column found)))
              c.count_rows-count.ensures.long c.count_rows-count.ensures.run.few,
        ),
      ),
    )

pub invariant_of-self : goal.invariant_of-self
invariant_of-self g c =
    let own = c.self.inside in
    shape_ran own.type_list own.entities.items _ own.columns.items own.room c.self.invariant c.in-Some.place c.args.row c.args.id
    (run_values (take c.count_rows-count.result c.args.sets.now)) (rw c.as_slice.ensures.value at c.in-Some.ensures.found) c.index_mut.result.now
    c.write_rows.new.self c.index_mut.ensures.value c.write_rows.ensures

pub returns-clause-written : goal.returns-clause-written
returns-clause-written g c =
    let own = c.self.inside in
    let some = take c.count_rows-count.result c.args.sets.now in
    let there = row_within _ _ _ _ _ c.self.invariant c.args.row (rw (← c.self.view_is) at c.requires.row) in
    let within = run_within c.args.sets.now own.entities.items c.entities_from-entities.result.now c.count_rows-count.result c.args.row
    (length own.entities.items) c.count_rows-count.ensures.sets c.count_rows-count.ensures.rows
    (c.entities_from-entities.ensures ∙ ap (drop c.args.row) c.as_slice-2.ensures.value) there refl in
    let long = length-map some (λ s. padded s.1) in
    rw (← c.self.view_is)
    (table_ran own.type_list own.entities.items _ own.columns.items own.room c.self.invariant c.in-Some.place c.args.row c.args.id
    (run_values some) (rw c.as_slice.ensures.value at c.in-Some.ensures.found) c.index_mut.result.now c.write_rows.new.self
    c.index_mut.ensures.value c.write_rows.ensures (omega (arith, within, long))
    (run_values_all (FitsKinds own.type_list (map kind_of own.columns.items) c.args.id) g.row.N c.args.arity some c.requires.few
    (rw (← c.self.view_is) at c.requires.fits) c.count_rows-count.ensures.long c.count_rows-count.ensures.run.few))

pub returns-clause-run : goal.returns-clause-run
returns-clause-run g c =
    let own = c.self.inside in
    rw (← c.self.view_is, entities_of_all own.type_list own.columns.items own.entities.items)
    (subst (λ es. IsRunOf es c.args.arity c.args.least (take c.count_rows-count.result c.args.sets.now))
    (c.entities_from-entities.ensures ∙ ap (drop c.args.row) c.as_slice-2.ensures.value) c.count_rows-count.ensures.run)

pub returns-clause-had : goal.returns-clause-had
returns-clause-had g c = λ some.
    rw (← c.self.view_is)
    (within_ids c.self.inside.type_list c.self.inside.columns.items c.self.invariant.kinds c.args.id
    (has_place c.self.inside.columns.items c.in-Some.place c.args.id (rw c.as_slice.ensures.value at c.in-Some.ensures.found)))

pub returns-in_default-clause-longest : goal.returns-in_default-clause-longest
returns-in_default-clause-longest g c = λ there wide.
    let own = c.self.inside in
    let narrow : width_in c.args.self.now c.args.id ≡ Some 0 =
    rw (← c.self.view_is)
    (widthless_in own.type_list own.columns.items c.self.invariant.kinds c.args.id (rw (← c.self.view_is) at there)
    (rw c.as_slice.ensures.value at c.in_default.ensures.absent)) in
    absurd (let bad = wide 0 narrow in omega (arith, bad))

pub returns-clause-longest : goal.returns-clause-longest
returns-clause-longest g c =
    let own = c.self.inside in
    rw (← c.self.view_is, entities_of_all own.type_list own.columns.items own.entities.items)
    (λ there wide. subst (λ es. IsLongestRun es c.args.arity c.args.least c.args.sets.now c.count_rows-count.result)
    (c.entities_from-entities.ensures ∙ ap (drop c.args.row) c.as_slice-2.ensures.value) c.count_rows-count.ensures.longest)
