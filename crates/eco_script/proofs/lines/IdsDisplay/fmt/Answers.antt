use Rattle.eco_script.proofs.FormatsCommon.{true, refl, subst, take_all, HasWritten, held_text, joined_by_commas, shown_value}
use Rattle.eco_script.proofs.Joined.{joined_more, next_separator, same_held}
use Rattle.eco_script.proofs.lines.IdsDisplay.fmt.Goals as goal

pub loop-id-preserved : goal.loop-id-preserved
loop-id-preserved g c =
    let self = c.args.self.now in
    record {
      apart = next_separator (λ i. held_text i (shown_value self.world.now self.entity i)) self.ids.now c.loop-id.id-index c.held-held.result.id
          c.loop-id-test.true;
      written = λ plain.
          let before = c.loop-id.invariant.written plain in
          joined_more (λ i. held_text i (shown_value self.world.now self.entity i)) self.ids.now c.loop-id.id-index _ c.loop-id-test.true
          g.W.Write.write_str_gives _ _ _ _ _ c.loop-id.invariant.apart
          (same_held _ _ _ _ c.held-held.ensures.id c.held-held.ensures.value) before (c.in_ok-write.ensures.writes before.plain (refl {a = true}));
    }

pub returns-clause-writes : goal.returns-clause-writes
returns-clause-writes g c = λ plain ok.
    let self = c.args.self.now in
    subst (λ is. HasWritten g.W.Write.write_str_gives c.args.f.now
    (joined_by_commas (λ i. held_text i (shown_value self.world.now self.entity i)) is) c.loop-id.f)
    (take_all c.loop-id.id-index self.ids.now c.loop-id-test.false) (c.loop-id.invariant.written plain)
