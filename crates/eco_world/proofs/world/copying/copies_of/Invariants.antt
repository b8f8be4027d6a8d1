use Rattle.eco_world.proofs.Common.{◌≡◌, take, asked_by}
use Rattle.eco_world.proofs.world.copying.copies_of.Given as goal

-- the queries so far are copied
abbrev pub invariant-loop-kept : goal.invariant-loop-kept
invariant-loop-kept l = asked_by l.copies.items ≡ asked_by (take l.kept-index l.queries)
