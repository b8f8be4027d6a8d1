use Rattle.eco_traits.proofs.Common.{ap, ◌∙◌, has_item, id_cmp, with_item}
use Rattle.eco_traits.proofs.Flat.{ascends_empty, ascends_with, keeps_heads}
use Rattle.eco_traits.proofs.implied.with_heads.Goals as goal

pub loop-head-init : goal.loop-head-init
loop-head-init c = record {
  members = λ j. ap (λ xs. has_item id_cmp xs j) c.empty-ids.ensures;
  ascending = ascends_empty c.empty-ids.result c.empty-ids.ensures;
}

pub loop-head-preserved : goal.loop-head-preserved
loop-head-preserved c =
    let at = c.loop-head in
    let put = c.in_ok-insert.ensures.ok in
    record {
      members = keeps_heads c.args.id at.ids c.insert.new.self c.args.heads.now at.head-index _ c.loop-head-test.true
          (put ∙ ap (with_item id_cmp at.ids) c.with_head.ensures) at.invariant.members;
      ascending = ascends_with at.ids c.insert.new.self c.with_head.result put at.invariant.ascending;
    }
