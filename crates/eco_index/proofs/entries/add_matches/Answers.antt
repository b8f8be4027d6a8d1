use Rattle.eco_index.proofs.EntriesCommon.{ap, sym, ◌∙◌, pattern_matches}
use Rattle.eco_index.proofs.Filtered.{filtered_in, filtered_out}
use Rattle.eco_index.proofs.entries.add_matches.Goals.{then-matches+in_ok-put, else-matches}
use Rattle.eco_index.proofs.entries.add_matches.Goals as goal

pub loop-id-preserved : goal.loop-id-preserved
loop-id-preserved c =
    elim c.if-matches.branch [
      | then-matches+in_ok-put w ↦
          filtered_in (pattern_matches c.args.pattern) c.args.ids.now c.loop-id.id-index _ c.args.entries.now.items c.loop-id.entries.items
          c.if-matches.entries.items c.loop-id-test.true c.loop-id.invariant (sym c.matches.ensures ∙ w.if-matches.true)
          (ap (λ v. v.items) w.entries-is ∙ w.in_ok-put.ensures)
      | else-matches w ↦
          filtered_out (pattern_matches c.args.pattern) c.args.ids.now c.loop-id.id-index _ c.args.entries.now.items c.loop-id.entries.items
          c.if-matches.entries.items c.loop-id-test.true c.loop-id.invariant (sym c.matches.ensures ∙ w.if-matches.false) (ap (λ v. v.items) w.entries-is)
    ]
