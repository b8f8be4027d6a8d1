use Rattle.eco_store.proofs.Common.{◌≡◌, ◌-◌, drop, get_or, sym, ap, subst, ◌∙◌, arith, unwrap_or, IsTrue, option_copied, drop-length, Kill}
use Rattle.eco_store.proofs.Common.{is_alive, with_death, TableState, entities_of, no_table, table_in, with_deaths}
use Rattle.eco_store.proofs.Clearing.{next_lives, no_entity, one_more_died}
use Rattle.eco_store.proofs.Needing.{called}
use Rattle.eco_store.proofs.deaths.whole_tables.kill_standing.Goals as goal

pub loop-left-init : goal.loop-left-init
loop-left-init c = record {
  within = omega arith;
  dead = sym (ap (with_deaths c.args.entities.now) (drop-length c.rows-standing.result.now));
  covers = λ was. was;
}

pub kill-requires : goal.kill-requires
kill-requires c =
    let es = c.rows-standing.result.now in
    let s = c.args.tables.now in
    let table : table_in s c.args.slot ≡ c.unwrap.result.now = ap (λ o. unwrap_or o no_table) (sym c.get.ensures ∙ ap option_copied c.unwrap.ensures) in
    subst (λ v. IsTrue (is_alive v (get_or es (c.loop-left.left - 1) no_entity))) (sym c.loop-left.invariant.dead)
    (next_lives c.args.entities.now s c.args.slot c.requires.store c.requires.there es c.loop-left.left
    (c.rows-standing.ensures ∙ ap (λ (t : TableState). entities_of t.rows) (sym table)) c.loop-left-test.true c.loop-left.invariant.within)

pub loop-left-preserved : goal.loop-left-preserved
loop-left-preserved c =
    let es = c.rows-standing.result.now in
    let w = c.args.entities.now in
    let s = c.args.tables.now in
    let e = get_or es (c.loop-left.left - 1) no_entity in
    let was = c.loop-left.invariant in
    let table : table_in s c.args.slot ≡ c.unwrap.result.now = ap (λ o. unwrap_or o no_table) (sym c.get.ensures ∙ ap option_copied c.unwrap.ensures) in
    let lives =
    next_lives w s c.args.slot c.requires.store c.requires.there es c.loop-left.left
    (c.rows-standing.ensures ∙ ap (λ (t : TableState). entities_of t.rows) (sym table)) c.loop-left-test.true was.within in
    record {
      within = omega (arith, was.within);
      dead = c.kill.ensures ∙ ap (λ v. with_death v e) was.dead ∙ one_more_died w es c.loop-left.left c.loop-left-test.true was.within;
      covers = λ kept.
          called c.needs_never_grow.ensures (Kill e) _ _ _ (subst (λ v. IsTrue (is_alive v e)) (sym was.dead) lives, c.kill.ensures) (was.covers kept);
    }

pub returns-clause-dead : goal.returns-clause-dead
returns-clause-dead c =
    let w = c.args.entities.now in
    let table : table_in c.args.tables.now c.args.slot ≡ c.unwrap.result.now =
    ap (λ o. unwrap_or o no_table) (sym c.get.ensures ∙ ap option_copied c.unwrap.ensures) in
    let none : c.loop-left.left ≡ 0 = omega (arith, c.loop-left-test.false) in
    c.loop-left.invariant.dead ∙ ap (λ k. with_deaths w (drop k c.rows-standing.result.now)) none
    ∙ ap (with_deaths w) (c.rows-standing.ensures ∙ ap (λ (t : TableState). entities_of t.rows) (sym table))
