use Rattle.eco_scan.proofs.Common.{rules}
use Rattle.eco_scan.proofs.Skipped.{hash_more, dot_more, generation_more}
use Rattle.eco_scan.proofs.skip.handle_end.Goals as goal

pub returns-then-text-end-lt2-clause-reached : goal.returns-then-text-end-lt2-clause-reached
returns-then-text-end-lt2-clause-reached c start d run = search (rules, hash_more)

pub returns-clause-reached : goal.returns-clause-reached
returns-clause-reached c start d run = search (rules, hash_more, dot_more, generation_more)
