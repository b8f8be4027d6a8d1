use Rattle.eco_ids.proofs.Clashes.{clash_is_local}
use Rattle.eco_ids.proofs.Common.{record_of}
use Rattle.eco_ids.proofs.Keeps.{some_of}
use Rattle.eco_ids.proofs.laws.clash_is_local.Goals as goal

pub returns : goal.returns
returns c = λ w e i s l alive named closure. let d = some_of (record_of w e) alive in clash_is_local w e i s d.0 d.1 closure named (λ _. l)
