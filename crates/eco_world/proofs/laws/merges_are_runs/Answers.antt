use Rattle.eco_world.proofs.Exact.{merge_admits, merge_refused, merge_runs, nothing_wanted}
use Rattle.eco_world.proofs.laws.merges_are_runs.Goals as goal

pub returns : goal.returns
returns c = record { run = record { runs = merge_runs; admits = merge_admits }; refused = merge_refused; needless = nothing_wanted }
