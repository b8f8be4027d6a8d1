use Rattle.eco_script.proofs.Common.{◌≡◌, ◌++◌, take, flat_map, string_bytes, row_line}
use Rattle.eco_script.proofs.reply.push_row_lines.Given as goal

-- the lines of the results so far
abbrev pub invariant-loop-place : goal.invariant-loop-place
invariant-loop-place l =
    string_bytes l.text ≡ string_bytes l.fn.text ++ flat_map (λ r. row_line r.entity r.entries) (take l.place l.results)
