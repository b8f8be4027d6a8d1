use Rattle.eco_script.proofs.FormatsCommon.{None, true, refl, subst, take_all, HasWritten, entry_text, joined_by_commas}
use Rattle.eco_script.proofs.Joined.{joined_more, next_separator}
use Rattle.eco_script.proofs.lines.EntriesDisplay.fmt.Goals as goal

pub loop-entry-preserved : goal.loop-entry-preserved
loop-entry-preserved g c =
    let all = c.args.self.now.0.now in
    record {
      apart = next_separator entry_text all c.loop-entry.entry-index None c.loop-entry-test.true;
      written = λ plain.
          let before = c.loop-entry.invariant.written plain in
          joined_more entry_text all c.loop-entry.entry-index _ c.loop-entry-test.true g.W.Write.write_str_gives _ _ _ _ _ c.loop-entry.invariant.apart refl
          before (c.in_ok-write.ensures.writes before.plain (refl {a = true}));
    }

pub returns-clause-writes : goal.returns-clause-writes
returns-clause-writes g c = λ plain ok.
    subst (λ es. HasWritten g.W.Write.write_str_gives c.args.f.now (joined_by_commas entry_text es) c.loop-entry.f)
    (take_all c.loop-entry.entry-index c.args.self.now.0.now c.loop-entry-test.false) (c.loop-entry.invariant.written plain)
