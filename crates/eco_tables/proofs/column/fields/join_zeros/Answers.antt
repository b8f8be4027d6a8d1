use Rattle.eco_tables.proofs.Common.{◌+◌, ◌≤◌, arith, vec_len, is_ok}
use Rattle.std.proofs.Common.{vec_capacity}
use Rattle.eco_tables.proofs.Packing.{zeros_joined}
use Rattle.eco_tables.proofs.column.fields.join_zeros.Goals as goal

pub returns-clause-values : goal.returns-clause-values
returns-clause-values g c =
    let fits : c.len.result + c.args.count ≤ vec_capacity c.args.rows.now = omega (arith, c.requires.room, c.len.ensures, c.args.rows.now.ok.1) in
    zeros_joined _ (c.len.result + c.args.count) (vec_len c.args.rows.now) c.args.count c.args.rows.now.items c.resize-room.new.self.items
    (is_ok c.resize-room.result) c.requires.few (c.resize-room.ensures.succeeds fits) c.args.rows.now.ok.0
    (omega (arith, c.len.ensures)) c.resize-room.ensures.items
