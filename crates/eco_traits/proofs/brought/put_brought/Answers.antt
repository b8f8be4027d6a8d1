use Rattle.eco_traits.proofs.Common.{common_steps, ◌≡◌, ap, ◌∙◌, subst, arith, take_all, Id, One, has_item, id_cmp, HasBrought}
use Rattle.eco_traits.proofs.Flat.{put_by}
use Rattle.eco_traits.proofs.Freely.{brought_first, keeps_brought}
use Rattle.eco_traits.proofs.brought.put_brought.Goals.{in-Some+in_ok-insert-2, in_default}
use Rattle.eco_traits.proofs.brought.put_brought.Goals as goal

-- what a read past the end of the ids would be
least_id : Id
least_id = One (record { index = 0; generation = 0 })

pub loop-id-init : goal.loop-id-init
loop-id-init c = brought_first c.args.single c.args.list.now c.insert.new.self c.in_ok-insert.ensures.ok

pub loop-id-preserved : goal.loop-id-preserved
unfolding least_id
loop-id-preserved c =
    let at = c.loop-id in
    let put : c.match-target_by.list ≡ put_by (One c.args.single) at.list c.target_by.result =
    grind (arith, common_steps, in-Some+in_ok-insert-2, in_default) in
    λ j. ap (λ xs. has_item id_cmp xs j) put
    ∙ keeps_brought c.args.single at.list c.args.list.now c.args.traits.now at.id-index least_id c.target_by.result c.loop-id-test.true
    c.target_by.ensures at.invariant j

pub returns : goal.returns
returns c =
    subst (λ ids. HasBrought c.loop-id.list c.args.list.now c.args.single ids) (take_all c.loop-id.id-index c.args.traits.now c.loop-id-test.false)
    c.loop-id.invariant
