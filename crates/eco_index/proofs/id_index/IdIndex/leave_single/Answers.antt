use Rattle.eco_index.proofs.Common.{◌∙◌, [], refl, sym, lists_of, Single}
use Rattle.eco_index.proofs.Joinings.{own_both}
use Rattle.eco_index.proofs.TypeTests.{nobody_matched}
use Rattle.eco_index.proofs.id_index.IdIndex.leave_single.Goals as goal

pub returns-else-is_named_in : goal.returns-else-is_named_in
returns-else-is_named_in c =
    let now = lists_of c.take.new.self.slots in
    own_both (Single c.args.entity) [] c.args.others.now (lists_of c.args.self.now.slots) now now c.args.slot
    (nobody_matched c.args.entity c.args.others.now (sym c.is_named_in.ensures ∙ c.if-is_named_in.false)).0 c.take.ensures (λ p n. refl)
