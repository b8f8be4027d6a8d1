use Rattle.eco_bodies.proofs.Common.{string_bytes}
use Rattle.eco_bodies.proofs.Called.{name_added}
use Rattle.eco_bodies.proofs.systems.add_name.Goals as goal

pub returns-clause-ok : goal.returns-clause-ok
returns-clause-ok c =
    name_added (string_bytes c.in_ok-own.own) c.args.name.now c.args.names.now c.insert.new.self c.in_ok-own.ensures.ok c.in_ok-insert.ensures.updates
