use Rattle.eco_frame.proofs.Common.{◌≤◌, ◌++◌, ap, append-nil, arith, length, map, sym, ◌∙◌}
use Rattle.std.specs.Prelude.{◌⊎◌}
use Rattle.eco_frame.specs.Rows.{lent_in, shown_in}
use Rattle.eco_frame.proofs.Columns.{none_left}
use Rattle.eco_frame.proofs.row_columns.push_columns.Goals as goal

pub returns : goal.returns
returns c = λ row.
    let slots = c.args.slots.now in
    let entries = c.args.entries.now in
    let k = c.loop-k.k in
    let made = map (shown_in row) c.loop-k.columns.items in
    let test = c.loop-k-test.false in
    let least = c.min-k-end.ensures in
    let last : (length slots ≤ k) ⊎ (length entries ≤ k) = grind arith in
    sym (append-nil made) ∙ ap (λ rest. made ++ rest) (sym (none_left (lent_in c.args.found.now row) slots entries k last)) ∙ c.loop-k.invariant.made row
