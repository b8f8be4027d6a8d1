use Rattle.eco_scan.proofs.Common.{◌≡◌, single, named, EndsWith, ref_start, part_view}
use Rattle.eco_scan.proofs.Spelled.{ref_ended, ref_fault}
use Rattle.eco_scan.proofs.scan.scan_ref.Goals as goal

pub unreachable-requires : goal.unreachable-requires
unreachable-requires c =
    let ends = rw c.in-Ok-Pair.field-0-is at c.in-Ok-Pair.ensures.found in
    let (r, s, same) = ref_ended _ _ ends in cc

pub returns-in-Ok-Single-clause-found : goal.returns-in-Ok-Single-clause-found
returns-in-Ok-Single-clause-found c =
    let ends : EndsWith ref_start c.args.text.now (single (part_view c.in-Ok-Single.part)) =
    rw c.in-Ok-Single.field-0-is at c.in-Ok-Single.ensures.found in
    let (r, s, same) = ref_ended _ _ ends in
    let part_is : part_view c.in-Ok-Single.part ≡ named r.at r.reference = cc in
    (r, s, part_is)

pub returns-in-Err-clause-fault : goal.returns-in-Err-clause-fault
returns-in-Err-clause-fault c = ref_fault _ _ c.in-Err.ensures.fault
