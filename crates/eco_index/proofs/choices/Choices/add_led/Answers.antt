use Rattle.eco_index.proofs.EntriesCommon.{ap, ◌∙◌, ◌++◌}
use Rattle.eco_index.proofs.Chunked.{led_more}
use Rattle.eco_index.proofs.choices.Choices.add_led.Goals as goal

pub loop-place-preserved : goal.loop-place-preserved
loop-place-preserved c =
    c.in_ok-extend_from_slice.ensures.items ∙ ap (λ zs. zs ++ c.get.result.now) c.in_ok-push.ensures.items
    ∙ led_more c.args.entry c.args.self.now.all c.loop-place.place c.get.result.now c.loop-place.led.items c.args.led.now.items c.get.ensures
    c.loop-place.invariant
