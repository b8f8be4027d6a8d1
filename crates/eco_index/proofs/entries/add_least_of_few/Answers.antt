use Rattle.eco_index.proofs.EntriesCommon.{ap, sym, ◌∙◌, is_least_match}
use Rattle.eco_index.proofs.Filtered.{filtered_in, filtered_out}
use Rattle.eco_index.proofs.entries.add_least_of_few.Goals.{then-is_least+in_ok-push, else-is_least}
use Rattle.eco_index.proofs.entries.add_least_of_few.Goals as goal

pub loop-id-preserved : goal.loop-id-preserved
loop-id-preserved c =
    elim c.if-is_least.branch [
      | then-is_least+in_ok-push w ↦
          filtered_in (is_least_match c.args.pattern c.args.ids.now) c.args.ids.now c.loop-id.id-index _ c.args.entries.now.items c.loop-id.entries.items
          c.if-is_least.entries.items c.loop-id-test.true c.loop-id.invariant (sym c.is_least.ensures ∙ w.if-is_least.true)
          (ap (λ v. v.items) w.entries-is ∙ w.in_ok-push.ensures.items)
      | else-is_least w ↦
          filtered_out (is_least_match c.args.pattern c.args.ids.now) c.args.ids.now c.loop-id.id-index _ c.args.entries.now.items c.loop-id.entries.items
          c.if-is_least.entries.items c.loop-id-test.true c.loop-id.invariant (sym c.is_least.ensures ∙ w.if-is_least.false) (ap (λ v. v.items) w.entries-is)
    ]
