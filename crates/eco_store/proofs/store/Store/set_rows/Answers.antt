use Rattle.eco_store.proofs.Common.{◌≡◌, ◌<◌, ◌≤◌, ◌∷◌, [], List, Some, ap, arith, length, no_table, subst, sym, take, unwrap_or, ◌∙◌, all_staying}
use Rattle.eco_store.proofs.Common.{Entity, own_place, read, slice_get_within, take_more}
use Rattle.std.specs.Prelude.{ℤ}
use Rattle.std.proofs.lemmas.Option.{get_or_from_slice_get}
use Rattle.std.specs.Prelude.{◌*◌}
use Rattle.std.proofs.lemmas.List.{length-take}
use Rattle.eco_store.proofs.LaidRows.{sets_rows}
use Rattle.eco_store.proofs.Needing.{fits_in, keeps_fields}
use Rattle.eco_store.proofs.Rowless.{rowless_rewritten}
use Rattle.eco_store.proofs.Runs.{has_there, length_run, rewrites, run_of_one, run_written}
use Rattle.eco_store.specs.Runs.{IsRewrite}
use Rattle.eco_store.proofs.store.Store.set_rows.Goals as goal
use Rattle.eco_tables.specs.Runs.{run_values}

pub set_rows-requires : goal.set_rows-requires
set_rows-requires g c =
    let l = c.self.inside.layout in
    let few : g.row.N ≤ 8 = c.requires.few in
    let size : g.row.N * 8 < 9223372036854775808 = omega (arith, few) in (
      size,
      (
        c.requires.few,
        (
          c.place_of-place.ensures.row,
          λ v full zeros.
              fits_in l.entities l.archetypes c.args.id v c.self.invariant.laid.covers ((rw (← c.self.view_is) at c.requires.fits) v full zeros),
        ),
      ),
    )

pub invariant_of-self : goal.invariant_of-self
invariant_of-self g c =
    let l = c.self.inside.layout in
    let p = c.place_of-place.result in
    let written = c.set_rows.ensures.written in
    let sets = take c.set_rows.result c.args.sets.now in
    record {
      laid = record {
        store = (run_written sets l.entities l.archetypes c.set_rows.new.self p.table p.row c.args.id c.self.invariant.laid.store
            (sets_rows l.archetypes _ p.table _ written) c.set_rows.ensures.run.entities).0;
        covers = c.set_rows.ensures.widths _ c.self.invariant.laid.covers;
        tidy =
            rowless_rewritten l.archetypes c.set_rows.new.self p.table (all_staying l.staying) _ written
            (ap (λ o. length (unwrap_or o no_table).rows) written.changed ∙ length_run _ p.row c.args.id (run_values sets))
            c.place_of-place.ensures.there c.self.invariant.laid.tidy;
      };
      done = c.self.invariant.done;
    }

pub returns-clause-written : goal.returns-clause-written
returns-clause-written g c =
    let l = c.self.inside.layout in
    let p = c.place_of-place.result in
    rw (← c.self.view_is)
    (run_written (take c.set_rows.result c.args.sets.now) l.entities l.archetypes c.set_rows.new.self p.table p.row c.args.id
    c.self.invariant.laid.store (sets_rows l.archetypes _ p.table _ c.set_rows.ensures.written) c.set_rows.ensures.run.entities).1

pub returns-clause-rewrites : goal.returns-clause-rewrites
returns-clause-rewrites g c = λ k x less.
    let l = c.self.inside.layout in
    let p = c.place_of-place.result in
    let some = c.set_rows.ensures.had (omega (arith, less, length-take c.set_rows.result c.args.sets.now)) in
    rw (← c.self.view_is)
    (rewrites l.entities l.archetypes p.table p.row c.args.id c.args.arity c.args.least (take c.set_rows.result c.args.sets.now)
    c.self.invariant.laid.store (rw c.tables.ensures.same at c.rows_have_ids.ensures) some c.set_rows.ensures.run k x less)

pub returns-clause-some : goal.returns-clause-some
returns-clause-some g c = λ x first wide is.
    let l = c.self.inside.layout in
    let p = c.place_of-place.result in
    let store = c.self.invariant.laid.store in
    let shown : IsRewrite (read l.entities l.archetypes) c.args.id c.args.arity c.args.least x = rw (← c.self.view_is) at is in
    let same : c.in-Some.set.now ≡ x = c.in-Some.ensures.item.1 ∙ get_or_from_slice_get c.args.sets.now 0 x c.in-Some.set.now first in
    let own : own_place l.entities x.0 ≡ Some p = subst (λ (y : Entity × List ℤ). own_place l.entities y.0 ≡ Some p) same c.place_of-place.ensures.own in
    let keeps =
    keeps_fields l.entities l.archetypes p.table c.args.id c.args.arity c.self.invariant.laid.covers wide (rw (← c.self.view_is) at c.requires.fits) in
    let have = rw c.tables.ensures.same at c.rows_have_ids.ensures in
    let typed = sym (has_there l.entities l.archetypes x.0 p c.args.id store have own) ∙ shown.had in
    let within = slice_get_within c.args.sets.now 0 x first in
    let one : take 1 c.args.sets.now ≡ x ∷ [] =
    take_more c.args.sets.now 0 x within ∙ ap (λ y. y ∷ []) (get_or_from_slice_get c.args.sets.now 0 x x first) in
    let run = run_of_one l.entities l.archetypes p c.args.id c.args.arity c.args.least x store own shown in
    let most = c.set_rows.ensures.longest typed keeps 1 within (rw one run) in
    omega (arith, most)
