use Rattle.eco_traits.proofs.Common.{subst, HasBrought}
use Rattle.eco_traits.proofs.Freely.{put_first}
use Rattle.eco_traits.proofs.brought.with_brought.Goals as goal

pub returns-clause-members : goal.returns-clause-members
returns-clause-members c =
    let same = put_first c.empty-all.result c.as_slice-own.result.now c.put_all.new.list c.args.ids.now c.empty-all.ensures c.as_slice-own.ensures.ids
    c.in_ok-put_all.ensures c.as_slice-own.ensures.ascending in
    subst (λ own. HasBrought c.put_brought-2.new.list own c.args.single c.args.traits.now) same c.in_ok-put_brought-2.ensures
