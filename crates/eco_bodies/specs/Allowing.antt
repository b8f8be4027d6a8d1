-- That a script records what it declares.
use Rattle.std.proofs.Common.{◌≡◌, Bool, true, false, List, [], ◌∷◌, ◌++◌}
use Rattle.std.proofs.Common.{Option, Some, None, option_to_list, if◌then◌else◌, refl, IsTrue}
use Rattle.std.specs.List.{list_all, AllByRecursion}
use Rattle.eco_ids.specs.declared.entity.Entity.{Entity}
use Rattle.eco_ids.specs.declared.id.Id.{Id}
use Rattle.eco_ids.specs.declared.pattern.Pattern.{Pattern}
use Rattle.eco_ids.specs.declared.value.Value.{Value}
use Rattle.eco_ids.specs.Run.{Set}
use Rattle.eco_ids.proofs.Ascending.{first, second}
use Rattle.eco_systems.specs.Rows.{ValuedRow}
use Rattle.eco_systems.specs.Systems.{IsDeclared, matches_one}
use Rattle.eco_bodies.specs.Lent.{item_at}
use Rattle.eco_bodies.specs.Scripts.{action_commands, draws_of, is_allowed, script_commands, set_of, sum_at}
use Rattle.eco_bodies.specs.declared.action.Action.{Action}
use Rattle.eco_bodies.specs.declared.action.Action.TheVariants.{AddId, RemoveId, Put, Sum, Kill, Spawn}
use Rattle.std.proofs.Common.{drop}

all_append : {A : Type 0} (P : A → Type 0) (xs ys : List A) → AllByRecursion P xs → AllByRecursion P ys → AllByRecursion P (xs ++ ys)
all_append P [] ys h k = k
all_append P (x ∷ xs) ys h k = (h.0, all_append P xs ys h.1 k)

module _ (writes : List Pattern) (kills : Bool) where
  set_declared : (e : Entity) (entry : Option Id) (value : Option Value)
      → AllByRecursion (IsDeclared writes kills) (option_to_list (set_of writes e entry value))
  set_declared e None v = tt
  set_declared e (Some i) None = tt
  set_declared e (Some i) (Some v) =
      let P : Bool → Type 0 = λ b.
      matches_one writes i ≡ b → AllByRecursion (IsDeclared writes kills) (option_to_list (if b then Some (Set e i v) else None)) in
      elim (matches_one writes i) as P [ true ↦ λ h. (h, tt) | false ↦ λ h. tt ] refl

  action_declared : (row : ValuedRow) (a : Action) (draws : List Entity) → IsTrue (is_allowed writes kills a)
      → AllByRecursion (IsDeclared writes kills) (action_commands writes row a draws)
  action_declared row (AddId i) draws h = (h, tt)
  action_declared row (RemoveId i) draws h = (h, tt)
  action_declared row (Put slot value) draws h = set_declared row.entity (item_at row.entries slot) (Some value)
  action_declared row (Sum into from) draws h = set_declared row.entity (item_at row.entries into) (sum_at row into from)
  action_declared row Kill draws h = (h, tt)
  action_declared row (Spawn None) [] h = tt
  action_declared row (Spawn None) (e ∷ draws) h = (tt, tt)
  action_declared row (Spawn (Some i)) [] h = tt
  action_declared row (Spawn (Some i)) (e ∷ draws) h = (tt, (h, tt))

  -- a script whose actions keep to what is declared records what is declared
  pub script_declared : (actions : List Action) (row : ValuedRow) (draws : List Entity) → IsTrue (list_all (is_allowed writes kills) actions)
      → AllByRecursion (IsDeclared writes kills) (script_commands writes actions row draws)
  script_declared [] row draws h = tt
  script_declared (a ∷ actions) row draws h =
      all_append (IsDeclared writes kills) (action_commands writes row a draws) (script_commands writes actions row (drop (draws_of a) draws))
      (action_declared row a draws (first (is_allowed writes kills a) _ h))
      (script_declared actions row (drop (draws_of a) draws) (second (is_allowed writes kills a) _ h))
