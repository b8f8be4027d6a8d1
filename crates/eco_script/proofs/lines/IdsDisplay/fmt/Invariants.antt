use Rattle.eco_script.proofs.FormatsCommon.{◌≡◌, take, HasWritten, IsPlainFormatter, held_text, joined_by_commas, shown_value}
use Rattle.eco_script.proofs.Joined.{separator}
use Rattle.eco_script.proofs.lines.IdsDisplay.fmt.Given as goal

-- the ids so far, each with its value
abbrev pub invariant-loop-id : goal.invariant-loop-id
invariant-loop-id g l = record {
  apart : l.separator ≡ separator (take l.id-index l.self.ids.now);
  written : IsPlainFormatter l.initial.f → HasWritten g.W.Write.write_str_gives l.initial.f
      (joined_by_commas (λ i. held_text i (shown_value l.self.world.now l.self.entity i)) (take l.id-index l.self.ids.now)) l.f;
}
