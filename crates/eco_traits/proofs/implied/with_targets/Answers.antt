use Rattle.eco_traits.proofs.Common.{common_steps, ◌≡◌, ap, sym, ◌∙◌, subst, arith, IsTrue, take_all, err_from_is_err_and, Id, One, has_item}
use Rattle.eco_traits.proofs.Common.{id_cmp, is_ascending, HasGiven}
use Rattle.eco_traits.proofs.Flat.{ascends_empty, ascends_with, given_first, keeps_given, none_without, put_ascends, put_by}
use Rattle.eco_traits.proofs.implied.with_targets.Goals.{in-Some+in_ok-insert-2, in_default}
use Rattle.eco_traits.proofs.implied.with_targets.Goals as goal

-- what a read past the end of the ids would be
least_id : Id
least_id = One (record { index = 0; generation = 0 })

pub loop-own-preserved : goal.loop-own-preserved
unfolding least_id
loop-own-preserved c =
    let put : c.match-target_by.ids ≡ put_by c.args.id c.loop-own.ids c.target_by.result = grind (arith, common_steps, in-Some+in_ok-insert-2, in_default) in
    record {
      members = λ j. ap (λ xs. has_item id_cmp xs j) put
          ∙ keeps_given c.args.id c.loop-own.ids c.args.traits.now c.loop-own.own-index least_id c.target_by.result c.loop-own-test.true c.target_by.ensures
          c.loop-own.invariant.members j;
      ascending = subst (λ xs. IsTrue (is_ascending id_cmp xs)) (sym put)
          (put_ascends c.args.id c.loop-own.ids c.target_by.result c.loop-own.invariant.ascending);
    }

pub loop-own-init : goal.loop-own-init
loop-own-init c =
    let put = c.in_ok-insert.ensures.ok in
    record {
      members = given_first c.args.id c.empty-ids.result c.insert.new.self c.empty-ids.ensures put;
      ascending = ascends_with c.empty-ids.result c.insert.new.self c.args.id put (ascends_empty c.empty-ids.result c.empty-ids.ensures);
    }

pub returns-in_err-insert-clause-members : goal.returns-in_err-insert-clause-members
returns-in_err-insert-clause-members c = let p = err_from_is_err_and c.from_residual.result c.from_residual.ensures.1 in rw p.1 tt

pub returns-in_err-insert-clause-ascending : goal.returns-in_err-insert-clause-ascending
returns-in_err-insert-clause-ascending c = let p = err_from_is_err_and c.from_residual.result c.from_residual.ensures.1 in rw p.1 tt

pub returns-in_err-insert-2-clause-members : goal.returns-in_err-insert-2-clause-members
returns-in_err-insert-2-clause-members c =
    let p = err_from_is_err_and c.from_residual-in_err-insert-2.result c.from_residual-in_err-insert-2.ensures.1 in rw p.1 tt

pub returns-in_err-insert-2-clause-ascending : goal.returns-in_err-insert-2-clause-ascending
returns-in_err-insert-2-clause-ascending c =
    let p = err_from_is_err_and c.from_residual-in_err-insert-2.result c.from_residual-in_err-insert-2.ensures.1 in rw p.1 tt

pub returns-in_err-insert-2-clause-alone : goal.returns-in_err-insert-2-clause-alone
returns-in_err-insert-2-clause-alone c none = absurd (none_without c.args.traits.now c.loop-own.own-index _ c.in-Some.target c.loop-own-test.true
    (sym c.target_by.ensures ∙ c.in-Some.is) none)

pub returns-clause-members : goal.returns-clause-members
returns-clause-members c =
    let at = c.loop-own in
    subst (HasGiven at.ids c.args.id) (take_all at.own-index c.args.traits.now c.loop-own-test.false) at.invariant.members
