use Rattle.eco_index.proofs.Common.{sym}
use Rattle.eco_index.proofs.Places.{key_at}
use Rattle.eco_index.proofs.id_index.IdIndex.look_up.Goals as goal

pub returns-clause-at : goal.returns-clause-at
returns-clause-at c =
    let e = c.in_ok-place in
    key_at c.args.self.now.slots c.args.key e.field-0-1.now e.place e.slots.now (sym e.ensures.index) e.ensures.entry
