use Rattle.std.proofs.Common.{rules, ◌≡◌, ◌-◌, pos, replicate, drop}
use Rattle.std.proofs.lemmas.List.{drop-replicate}
use Rattle.eco_ids.proofs.value.Value.of.Goals as goal

-- src/value.rt:24:5
pub returns : goal.returns
returns g c =
    let behind : drop g.row.N (replicate 8 (pos 0)) ≡ replicate (8 - g.row.N) (pos 0) = drop-replicate g.row.N 8 (pos 0) in
    search (rules, behind)
