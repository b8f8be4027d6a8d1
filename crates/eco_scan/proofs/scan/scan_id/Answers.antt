use Rattle.eco_scan.proofs.Common.{atom_view}
use Rattle.std.proofs.lemmas.Result.{IfErr-weaker, IfOk-weaker}
use Rattle.eco_scan.proofs.Spelled.{id_ended, id_fault}
use Rattle.eco_scan.proofs.scan.scan_id.Goals as goal

pub returns-clause-found : goal.returns-clause-found
returns-clause-found c = IfOk-weaker c.scan_atom.result _ _ (λ x. id_ended c.args.text.now (atom_view x)) c.scan_atom.ensures.found

pub returns-clause-fault : goal.returns-clause-fault
returns-clause-fault c = IfErr-weaker c.scan_atom.result _ _ (id_fault c.args.text.now) c.scan_atom.ensures.fault
