use Rattle.eco_store.proofs.AnswersCommon.{◌≡◌, ◌++◌, ◌-◌, sym, ap, ◌∙◌, arith, append-nil, standings_from}
use Rattle.eco_store.proofs.Blocked.{rows_step}
use Rattle.eco_store.proofs.blocks.add_rows.Goals as goal

pub loop-place-init : goal.loop-place-init
loop-place-init c =
    let none : 0 ≡ c.args.block.first - c.args.block.first = omega arith in
    record {
      made = sym (append-nil c.args.rows.now.items) ∙ ap (λ n. c.args.rows.now.items ++ standings_from c.args.entity c.args.block.first n) none;
      within = omega arith;
    }

pub loop-place-preserved : goal.loop-place-preserved
loop-place-preserved c = record {
  made = rows_step c.args.entity c.args.block.first c.loop-place.place c.args.rows.now.items c.loop-place.rows.items c.put.new.rows.items
      c.loop-place.auto.place c.loop-place.invariant.made c.in_ok-put.ensures;
  within = omega (arith, c.loop-place.auto.place, c.loop-place-test.true);
}

pub returns : goal.returns
returns c =
    let all : c.loop-place.place - c.args.block.first ≡ c.args.block.end - c.args.block.first =
    omega (arith, c.loop-place.invariant.within, c.loop-place-test.false) in
    c.loop-place.invariant.made ∙ ap (λ n. c.args.rows.now.items ++ standings_from c.args.entity c.args.block.first n) all
