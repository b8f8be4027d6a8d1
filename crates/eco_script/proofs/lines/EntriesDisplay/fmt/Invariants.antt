use Rattle.eco_script.proofs.FormatsCommon.{◌≡◌, take, HasWritten, IsPlainFormatter, entry_text, joined_by_commas}
use Rattle.eco_script.proofs.Joined.{separator}
use Rattle.eco_script.proofs.lines.EntriesDisplay.fmt.Given as goal

-- the entries so far
abbrev pub invariant-loop-entry : goal.invariant-loop-entry
invariant-loop-entry g l = record {
  apart : l.separator ≡ separator (take l.entry-index l.self.0.now);
  written : IsPlainFormatter l.initial.f → HasWritten g.W.Write.write_str_gives l.initial.f (joined_by_commas entry_text (take l.entry-index l.self.0.now)) l.f;
}
