use Rattle.eco_tables.proofs.Common.{arith, ap, sym, ◌∙◌, id_cmp, same_id}
use Rattle.eco_tables.proofs.Held.{before_greater, id_at, nowhere, past_less}
use Rattle.eco_tables.proofs.columns.find_by_halves.Goals as goal

pub loop-low-preserved-in-Less : goal.loop-low-preserved-in-Less
loop-low-preserved-in-Less c = record {
  within = c.loop-low.invariant.within;
  inside = λ k d within is.
      let was = c.loop-low.invariant.inside k d within is in
      let past = past_less c.args.columns.now _ k c.index-columns-middle.result d c.args.id c.requires
      (omega (arith, c.loop-low.invariant.within, c.loop-low-test.true))
      (ap (λ x. id_cmp x c.args.id) (sym (c.id.ensures ∙ ap (λ x. x.id) c.index-columns-middle.is)) ∙ sym c.in-Less.ensures) is within in
      (omega (arith, past), was.1);
}

pub returns-in-Equal-clause-found : goal.returns-in-Equal-clause-found
returns-in-Equal-clause-found c =
    id_at c.args.columns.now _ c.index-columns-middle.result c.args.id (omega (arith, c.loop-low.invariant.within, c.loop-low-test.true))
    (sym (c.id.ensures ∙ ap (λ x. x.id) c.index-columns-middle.is) ∙ same_id c.id.result c.args.id (sym c.in-Equal.ensures))

pub loop-low-preserved : goal.loop-low-preserved
loop-low-preserved c = record {
  within = omega (arith, c.loop-low.invariant.within, c.loop-low-test.true);
  inside = λ k d within is.
      let was = c.loop-low.invariant.inside k d within is in
      let before = before_greater c.args.columns.now _ k c.index-columns-middle.result d c.args.id c.requires
      (omega (arith, c.loop-low.invariant.within, c.loop-low-test.true))
      (ap (λ x. id_cmp x c.args.id) (sym (c.id.ensures ∙ ap (λ x. x.id) c.index-columns-middle.is)) ∙ sym c.in-Greater.ensures) is within in
      (was.0, omega (arith, before));
}

pub returns-clause-absent : goal.returns-clause-absent
returns-clause-absent c =
    nowhere c.args.columns.now c.args.id (λ k d within is.
    let was = c.loop-low.invariant.inside k d within is in
    omega (arith, was.0, was.1, c.loop-low-test.false))
