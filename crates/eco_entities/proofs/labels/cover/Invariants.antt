use Rattle.eco_entities.proofs.Common.{length, ◌-◌, KeepsAnswers, name_at}
use Rattle.eco_entities.proofs.labels.cover.Given as goal

abbrev pub invariant-loop-pages : goal.invariant-loop-pages
invariant-loop-pages l = KeepsAnswers (name_at l.fn.pages.items) (name_at l.pages.items)

abbrev pub decreases-loop-pages : goal.decreases-loop-pages
decreases-loop-pages l = l.len - length l.pages.items
