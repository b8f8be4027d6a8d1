use Rattle.eco_index.proofs.EntriesCommon.{ap, sym, ◌∙◌, is_least_match}
use Rattle.eco_index.proofs.Filtered.{filtered_in, filtered_out}
use Rattle.eco_index.proofs.Unseen.{least_is_first, seen_more}
use Rattle.eco_index.proofs.fillings.add_new.Goals.{then-branch+in_ok-put, else-branch}
use Rattle.eco_index.proofs.fillings.add_new.Goals as goal

pub loop-id-preserved : goal.loop-id-preserved
loop-id-preserved c =
    let p = c.args.pattern in
    let ids = c.args.ids.now in
    let k = c.loop-id.id-index in
    let is_least = least_is_first p ids k _ c.loop-id-test.true c.loop-id.seen c.requires c.loop-id.invariant.1.0 ∙ sym c.in_ok-is_first.ensures.is in (
      elim c.if-branch.branch [
        | then-branch+in_ok-put w ↦
            filtered_in (is_least_match p ids) ids k _ c.args.entries.now.items c.loop-id.entries.items c.if-branch.entries.items
            c.loop-id-test.true c.loop-id.invariant.0 (is_least ∙ w.if-branch.true) (ap (λ v. v.items) w.entries-is ∙ w.in_ok-put.ensures)
        | else-branch w ↦
            filtered_out (is_least_match p ids) ids k _ c.args.entries.now.items c.loop-id.entries.items c.if-branch.entries.items
            c.loop-id-test.true c.loop-id.invariant.0 (is_least ∙ w.if-branch.false) (ap (λ v. v.items) w.entries-is)
      ],
      (
        seen_more p ids k _ c.loop-id-test.true c.loop-id.seen c.is_first.new.seen c.loop-id.invariant.1.0 c.in_ok-is_first.ensures.seen,
        c.in_ok-is_first.ensures.apart,
      ),
    )
