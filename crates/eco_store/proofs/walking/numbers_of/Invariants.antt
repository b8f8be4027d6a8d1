use Rattle.eco_store.proofs.AnswersCommon.{◌≡◌, length, IsNumbering}
use Rattle.eco_store.proofs.walking.numbers_of.Given as goal

abbrev pub invariant-loop-place : goal.invariant-loop-place
invariant-loop-place l = record {
  numbering : IsNumbering l.slots l.place l.numbers.items;
  long : length l.numbers.items ≡ l.bound;
}
