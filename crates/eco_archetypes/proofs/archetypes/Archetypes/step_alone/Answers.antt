use Rattle.eco_archetypes.proofs.Common.{◌≡◌, IsFalse, length, table_in, toggled, SomeHasType}
use Rattle.eco_archetypes.proofs.Turnings.{if_ok}
use Rattle.eco_archetypes.proofs.archetypes.Archetypes.step_alone.Goals as goal

pub returns-clause-refused : goal.returns-clause-refused
returns-clause-refused c =
    let s = c.args.self.now in
    let taken = SomeHasType s (toggled (table_in s c.args.slot).ids c.args.id) in
    if_ok (λ takes. IsFalse takes → taken) (λ takes. IsFalse takes → length (table_in s c.args.slot).rows ≡ 1 → taken) c.step_only_row.result
    (λ takes refused no alone. refused no) c.step_only_row.ensures.refused
