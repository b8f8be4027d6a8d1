-- That a script looks at no more of the handles that are there to draw than it takes.
use Rattle.std.proofs.Common.{◌≡◌, ◌+◌, ◌≤◌, List, [], ◌∷◌, ◌++◌, Some, None, drop, length, refl, ap, ◌∙◌, arith}
use Rattle.eco_ids.specs.declared.entity.Entity.{Entity}
use Rattle.eco_ids.specs.declared.pattern.Pattern.{Pattern}
use Rattle.eco_systems.specs.Rows.{ValuedRow}
use Rattle.eco_bodies.specs.Scripts.{action_commands, draws_of, script_commands, script_taken}
use Rattle.eco_bodies.specs.declared.action.Action.{Action}
use Rattle.eco_bodies.specs.declared.action.Action.TheVariants.{AddId, RemoveId, Put, Sum, Kill, Spawn}

-- it takes as many, whichever they are
pub same_count : (actions : List Action) (row : ValuedRow) (xs ys : List Entity) → script_taken actions row xs ≡ script_taken actions row ys
same_count [] row xs ys = refl
same_count (a ∷ actions) row xs ys = ap (λ n. draws_of a + n) (same_count actions row (drop (draws_of a) xs) (drop (draws_of a) ys))

module _ (writes : List Pattern) (row : ValuedRow) (later : List Entity) where
  -- what an action records with enough of them, it records whatever stands behind
  same_action : (a : Action) (mine : List Entity) → draws_of a ≤ length mine
      → (action_commands writes row a (mine ++ later) ≡ action_commands writes row a mine)
      × (drop (draws_of a) (mine ++ later) ≡ drop (draws_of a) mine ++ later)
      × (length mine ≡ draws_of a + length (drop (draws_of a) mine))
  same_action (AddId i) mine h = (refl, refl, omega arith)
  same_action (RemoveId i) mine h = (refl, refl, omega arith)
  same_action (Put slot value) mine h = (refl, refl, omega arith)
  same_action (Sum into from) mine h = (refl, refl, omega arith)
  same_action Kill mine h = (refl, refl, omega arith)
  same_action (Spawn i) [] h = absurd (omega (arith, h))
  same_action (Spawn None) (e ∷ mine) h = (refl, refl, omega arith)
  same_action (Spawn (Some i)) (e ∷ mine) h = (refl, refl, omega arith)

  same_commands : (actions : List Action) (mine : List Entity) → script_taken actions row mine ≤ length mine
      → script_commands writes actions row (mine ++ later) ≡ script_commands writes actions row mine
  same_commands [] mine h = refl
  same_commands (a ∷ actions) mine h =
      let left = drop (draws_of a) mine in
      let one = same_action a mine (omega (arith, h)) in
      let len = one.2 in
      ap (λ l. l ++ script_commands writes actions row (drop (draws_of a) (mine ++ later))) one.0
      ∙ ap (λ l. action_commands writes row a mine ++ script_commands writes actions row l) one.1
      ∙ ap (λ l. action_commands writes row a mine ++ l) (same_commands actions left (omega (arith, h, len)))

-- what a script takes it takes alone, and then it records the same
pub script_settled : (writes : List Pattern) (actions : List Action) (row : ValuedRow) (mine later : List Entity)
    → script_taken actions row (mine ++ later) ≡ length mine
    → (script_taken actions row mine ≡ length mine) × (script_commands writes actions row (mine ++ later) ≡ script_commands writes actions row mine)
script_settled writes actions row mine later h =
    let taken = same_count actions row mine (mine ++ later) ∙ h in (taken, same_commands writes row later actions mine (omega (arith, taken)))
