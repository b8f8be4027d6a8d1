use Rattle.eco_ids.proofs.Common.{◌≡◌, ◌^◌, ◌≤◌, arith}
use Rattle.eco_ids.specs.Fingerprint.{id_share}
use Rattle.eco_ids.proofs.Fingerprints.{left_sum}
use Rattle.eco_ids.proofs.fingerprint.left_by.Goals as goal

pub returns : goal.returns
returns c = λ ids place there is.
    let share : c.share.result ≡ id_share c.args.id = c.share.ensures in
    let fits : id_share c.args.id ≤ 2 ^ 64 = omega arith in
    rw (is, share) (left_sum ids place c.args.id there fits)
