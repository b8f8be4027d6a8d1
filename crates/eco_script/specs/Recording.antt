-- What the commands and actions of a script name on a world.
use Rattle.std.specs.Prelude.{◌≡◌, Bool, true, false, List, [], ◌∷◌, Some, None, Result, Ok, Err, MatchResult}
use Rattle.eco_ids.specs.declared.refusal.Refusal.{Refusal}
use Rattle.eco_ids.specs.Run as run
use Rattle.eco_ids.specs.World.{WorldState}
use Rattle.eco_grammar.specs.Readings.{ok_map}
use Rattle.eco_bodies.specs.declared.action.Action.{Action}
use Rattle.eco_bodies.specs.declared.action.Action.TheVariants.{AddId, RemoveId, Put, Sum, Kill, Spawn}
use Rattle.eco_steps.specs.Actions as texts
use Rattle.eco_steps.specs.Commands.{WrittenChange, WrittenCommand, create, change, add, remove, set, clear, rename, delete, delete_with, remove_all}
use Rattle.eco_script.specs.References.{ReadsBoth, ReadsEntity, ReadsId}

-- what is read is named, and this is made of it; or it is refused
abbrev pub MakesOfNamed : {A C : Type 0} → (Result A Refusal → Type 0) → (A → C) → Result C Refusal → Type 0
MakesOfNamed {A} Reads make r = (x : Result A Refusal) × Reads x × (r ≡ ok_map make x)

-- texts are read one after another in this way: all of them, or the refusal of the first that is refused
module _ {T C : Type 0} (One : T → Result C Refusal → Type 0) where
  abbrev pub ReadsEach : List T → Result (List C) Refusal → Type 0
  ReadsEach [] r = r ≡ Ok []
  ReadsEach (t ∷ ts) r =
      (first : Result C Refusal) × One t first
      × MatchResult first (λ x. (rest : Result (List C) Refusal) × ReadsEach ts rest × (r ≡ ok_map (λ xs. x ∷ xs) rest)) (λ why. r ≡ Err why)

-- the command that the texts of a change name on a world, or the refusal of the first text that is refused
abbrev pub ReadsChange : WorldState → WrittenChange → Result run.Command Refusal → Type 0
ReadsChange w (add e i) = MakesOfNamed (ReadsBoth w e i) (λ p. run.Add p.0 p.1)
ReadsChange w (remove e i) = MakesOfNamed (ReadsBoth w e i) (λ p. run.Remove p.0 p.1)
ReadsChange w (set e i v) = MakesOfNamed (ReadsBoth w e i) (λ p. run.Set p.0 p.1 v)
ReadsChange w (clear e) = MakesOfNamed (ReadsEntity w e) (λ x. run.Clear x)
ReadsChange w (rename e name) = MakesOfNamed (ReadsEntity w e) (λ x. run.Rename x name)
ReadsChange w (delete e) = MakesOfNamed (ReadsEntity w e) (λ x. run.Delete x)
ReadsChange w (delete_with i) = MakesOfNamed (ReadsId w i) (λ y. run.DeleteWith y)
ReadsChange w (remove_all i) = MakesOfNamed (ReadsId w i) (λ y. run.RemoveAll y)

-- likewise of a command of a stage
abbrev pub ReadsCommand : WorldState → WrittenCommand → Result run.Command Refusal → Type 0
ReadsCommand w (create handle) = MakesOfNamed (ReadsEntity w handle) (λ x. run.Create x)
ReadsCommand w (change c) = ReadsChange w c

-- the commands that texts name, all on this world
abbrev pub ReadsCommands : WorldState → List WrittenCommand → Result (List run.Command) Refusal → Type 0
ReadsCommands w = ReadsEach (ReadsCommand w)

-- the action that the texts name on a world, or the refusal of its text
abbrev pub ReadsAction : WorldState → texts.WrittenAction → Result Action Refusal → Type 0
ReadsAction w (texts.add i) = MakesOfNamed (ReadsId w i) (λ y. AddId y)
ReadsAction w (texts.remove i) = MakesOfNamed (ReadsId w i) (λ y. RemoveId y)
ReadsAction w (texts.put slot v) = λ r. r ≡ Ok (Put slot v)
ReadsAction w (texts.sum into from) = λ r. r ≡ Ok (Sum into from)
ReadsAction w texts.kill = λ r. r ≡ Ok Kill
ReadsAction w (texts.spawn None) = λ r. r ≡ Ok (Spawn None)
ReadsAction w (texts.spawn (Some i)) = MakesOfNamed (ReadsId w i) (λ y. Spawn (Some y))

-- the actions that texts name, all on this world
abbrev pub ReadsActions : WorldState → List texts.WrittenAction → Result (List Action) Refusal → Type 0
ReadsActions w = ReadsEach (ReadsAction w)

-- there is a stage
abbrev pub has_stages : List (List WrittenCommand) → Bool
has_stages [] = false
has_stages (s ∷ ss) = true
