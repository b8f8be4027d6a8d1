use Rattle.eco_world.proofs.Common.{◌≡◌, ◌++◌, map, All, id_cmp, without_item, TypeChange}
use Rattle.eco_world.proofs.world.World.changes_without.Given as goal

abbrev pub invariant-loop-ids : goal.invariant-loop-ids
invariant-loop-ids l = record {
  rest : l.initial.ids-iterator.rest.items ≡ l.yielded ++ l.ids-iterator.rest.items;
  types : map (λ (c : TypeChange). c.from) l.changes.items ≡ l.yielded;
  taken : All (λ (c : TypeChange). c.to ≡ without_item id_cmp c.from l.fn.id) l.changes.items;
}
