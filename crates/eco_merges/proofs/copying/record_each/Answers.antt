use Rattle.eco_merges.proofs.Common.{◌≡◌, ℕ, ◌+◌, ◌<◌, List, [], ◌++◌, length, append_assoc, get_or, take, sym, ap, ◌∙◌}
use Rattle.eco_merges.proofs.Common.{flat_map_more, take_more, all_commands}
use Rattle.eco_ids.specs.Run.{Command}
use Rattle.eco_merges.proofs.copying.record_each.Goals as goal

-- the commands of so many stages, and of one more
stage_more : (stages : List (List Command)) (i : ℕ) (d : List Command) → i < length stages
    → all_commands (take (i + 1) stages) ≡ all_commands (take i stages) ++ get_or stages i d
stage_more stages i d less = ap all_commands (take_more stages i d less) ∙ sym (flat_map_more (λ s. s) [] (take i stages) (get_or stages i d))

pub loop-stage-preserved : goal.loop-stage-preserved
loop-stage-preserved c =
    let i = c.loop-stage.stage-index in
    let ss = c.args.stages.now in
    let s = c.stage-item.result in
    let before = c.args.copy.now in
    let more = stage_more ss i s c.loop-stage-test.true ∙ ap (λ t. all_commands (take i ss) ++ t) (sym c.stage-item.is) in
    c.in_ok-record_copies.ensures.ok
    ∙ (ap (λ t. t ++ s) c.loop-stage.invariant ∙ (append_assoc before (all_commands (take i ss)) s ∙ ap (λ t. before ++ t) (sym more)))
