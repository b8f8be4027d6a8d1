use Rattle.eco_store.proofs.Common.{record_of}
use Rattle.eco_store.proofs.Values.{value_found}
use Rattle.eco_store.proofs.store.Store.value.Goals as goal

pub returns : goal.returns
returns c =
    value_found (record_of c.args.self.now.entities c.args.e) c.in_ok-table.table.now c.in_ok-table.row c.args.id c.find_value.result
    c.in_ok-table.ensures.stands c.find_value.ensures
