use Rattle.eco_index.proofs.EntriesCommon.{take}
use Rattle.eco_index.proofs.FirstMatch.{IsFirst}
use Rattle.eco_index.proofs.only_entry.only_match_of.Given as goal

abbrev pub invariant-loop-id : goal.invariant-loop-id
invariant-loop-id l = IsFirst l.pattern l.ids (take l.id-index l.ids) l.first
