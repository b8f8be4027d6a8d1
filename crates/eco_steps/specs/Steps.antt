-- The steps of a script, and how each is written.
use Rattle.std.specs.Prelude.{◌≡◌, ℕ, ◌≤◌, ℤ, List, [], ◌∷◌, length, codes, Option, Some, None, FitsSigned, ⊤}
use Rattle.std.specs.Int.{w64}
use Rattle.std.specs.List.{AllZip}
use Rattle.serde_json.specs.Data.{Data, null, number, unsigned, string, array}
use Rattle.serde_json.specs.Find.{of_integer}
use Rattle.serde_json.specs.View.{items_of}
use Rattle.eco_ids.specs.declared.edition.Edition.{Edition}
use Rattle.eco_ids.specs.declared.value.Value.{Value}
use Rattle.eco_ids.specs.Edition.{largest_arity}
use Rattle.eco_ids.specs.World.{padded}
use Rattle.eco_systems.specs.declared.phase.Phase.{Phase}
use Rattle.eco_systems.specs.declared.phase.Phase.TheVariants.{OnLoad, PostLoad, PreUpdate, OnUpdate, OnValidate, PostUpdate, PreStore, OnStore}
use Rattle.eco_steps.specs.Actions.{WrittenAction}
use Rattle.eco_steps.specs.Actions as action
use Rattle.eco_steps.specs.Commands.{WrittenChange, WrittenCommand, add, remove, set, clear, rename, delete, delete_with, remove_all}
use Rattle.eco_steps.specs.Commands as command

-- what a script may ask for, with its texts as they are written: an entity by its name or handle, an id likewise or a pair,
-- a name, or a query; a change; a query that was added before, by its number; a merge of stages, with how many more indices it
-- makes known; a system with its name, its phase, its query and its actions; and a frame of the systems declared so far
pub data WrittenStep : Type 0 where
  create : Option (List ℕ) → WrittenStep
  component : List ℕ → ℕ → WrittenStep
  change : WrittenChange → WrittenStep
  has : List ℕ → List ℕ → WrittenStep
  get : List ℕ → List ℕ → WrittenStep
  show : List ℕ → WrittenStep
  list : WrittenStep
  query : List ℕ → WrittenStep
  cache : List ℕ → WrittenStep
  cached : ℕ → WrittenStep
  merge : ℕ → List (List WrittenCommand) → WrittenStep
  system : List ℕ → Phase → List ℕ → List WrittenAction → WrittenStep
  frame : WrittenStep

-- a list of JSON values
abbrev pub list_data : List Data → Data
list_data ds = array (items_of ds)

-- a name, or `null`
abbrev pub name_data : Option (List ℕ) → Data
name_data None = null
name_data (Some name) = string name

-- the JSON value is this whole number, and it is one of 64 bits
abbrev pub IsIntegerData : Data → ℤ → Type 0
IsIntegerData d z = (d ≡ number (of_integer z)) × FitsSigned w64 z

-- the JSON value is a list of the first fields of this value, one at least and no more than the largest arity of the
-- edition; those that are missing are 0
pub record IsValueData (edition : Edition) (d : Data) (v : Value) : Type 0 where
  pub items : List Data
  pub fields : List ℤ
  pub is_list : d ≡ list_data items
  pub are_integers : AllZip IsIntegerData items fields
  pub at_least : 1 ≤ length fields
  pub at_most : length fields ≤ largest_arity edition
  pub filled : v ≡ padded fields

-- a list that begins with the step's word
abbrev pub written_list : List ℕ → List Data → Data
written_list word arguments = list_data (string word ∷ arguments)

-- the word of a phase
abbrev pub phase_word : Phase → List ℕ
phase_word OnLoad = codes "OnLoad"
phase_word PostLoad = codes "PostLoad"
phase_word PreUpdate = codes "PreUpdate"
phase_word OnUpdate = codes "OnUpdate"
phase_word OnValidate = codes "OnValidate"
phase_word PostUpdate = codes "PostUpdate"
phase_word PreStore = codes "PreStore"
phase_word OnStore = codes "OnStore"

-- the JSON value is the number of this slot, which is one that a query may have: of 32 terms at most, counted from 0
abbrev pub IsSlotData : Data → ℕ → Type 0
IsSlotData d slot = (d ≡ number (unsigned slot)) × (slot ≤ 31)

-- what a script of an edition may hold
module _ (edition : Edition) where
  -- the JSON value is this change
  abbrev pub IsChangeData : Data → WrittenChange → Type 0
  IsChangeData d (add entity id) = d ≡ written_list (codes "add") (string entity ∷ string id ∷ [])
  IsChangeData d (remove entity id) = d ≡ written_list (codes "remove") (string entity ∷ string id ∷ [])
  IsChangeData d (set entity id v) =
      (value : Data) × (d ≡ written_list (codes "set") (string entity ∷ string id ∷ value ∷ [])) × IsValueData edition value v
  IsChangeData d (clear entity) = d ≡ written_list (codes "clear") (string entity ∷ [])
  IsChangeData d (rename entity name) = d ≡ written_list (codes "rename") (string entity ∷ name_data name ∷ [])
  IsChangeData d (delete entity) = d ≡ written_list (codes "delete") (string entity ∷ [])
  IsChangeData d (delete_with id) = d ≡ written_list (codes "delete_with") (string id ∷ [])
  IsChangeData d (remove_all id) = d ≡ written_list (codes "remove_all") (string id ∷ [])

  -- the JSON value is this command
  abbrev pub IsCommandData : Data → WrittenCommand → Type 0
  IsCommandData d (command.create handle) = d ≡ written_list (codes "create") (string handle ∷ [])
  IsCommandData d (command.change c) = IsChangeData d c

  -- the JSON value is the list of these commands
  abbrev pub IsStageData : Data → List WrittenCommand → Type 0
  IsStageData d commands = (items : List Data) × (d ≡ list_data items) × AllZip IsCommandData items commands

  -- the JSON value is the list of these stages
  abbrev pub IsStagesData : Data → List (List WrittenCommand) → Type 0
  IsStagesData d stages = (items : List Data) × (d ≡ list_data items) × AllZip IsStageData items stages

  -- the JSON value is this action
  abbrev pub IsActionData : Data → WrittenAction → Type 0
  IsActionData d (action.add id) = d ≡ written_list (codes "add") (string id ∷ [])
  IsActionData d (action.remove id) = d ≡ written_list (codes "remove") (string id ∷ [])
  IsActionData d (action.put slot v) =
      (place : Data) × (value : Data) × (d ≡ written_list (codes "put") (place ∷ value ∷ [])) × IsSlotData place slot × IsValueData edition value v
  IsActionData d (action.sum into from) =
      (place : Data) × (other : Data) × (d ≡ written_list (codes "sum") (place ∷ other ∷ [])) × IsSlotData place into × IsSlotData other from
  IsActionData d action.kill = d ≡ written_list (codes "kill") []
  IsActionData d (action.spawn None) = d ≡ written_list (codes "spawn") []
  IsActionData d (action.spawn (Some id)) = d ≡ written_list (codes "spawn") (string id ∷ [])

  -- the JSON value is the list of these actions
  abbrev pub IsActionsData : Data → List WrittenAction → Type 0
  IsActionsData d actions = (items : List Data) × (d ≡ list_data items) × AllZip IsActionData items actions

  -- the JSON value is this step
  abbrev pub IsStepData : Data → WrittenStep → Type 0
  IsStepData d (create None) = d ≡ written_list (codes "create") []
  IsStepData d (create (Some name)) = d ≡ written_list (codes "create") (string name ∷ [])
  IsStepData d (component name arity) =
      (d ≡ written_list (codes "component") (string name ∷ number (unsigned arity) ∷ [])) × (1 ≤ arity) × (arity ≤ largest_arity edition)
  IsStepData d (change c) = IsChangeData d c
  IsStepData d (has entity id) = d ≡ written_list (codes "has") (string entity ∷ string id ∷ [])
  IsStepData d (get entity id) = d ≡ written_list (codes "get") (string entity ∷ string id ∷ [])
  IsStepData d (show entity) = d ≡ written_list (codes "show") (string entity ∷ [])
  IsStepData d list = d ≡ written_list (codes "list") []
  IsStepData d (query text) = d ≡ written_list (codes "query") (string text ∷ [])
  IsStepData d (cache text) = d ≡ written_list (codes "cache") (string text ∷ [])
  IsStepData d (cached n) = (d ≡ written_list (codes "cached") (number (unsigned n) ∷ [])) × (n ≤ 4294967295)
  IsStepData d (merge admitted stages) =
      (value : Data) × (d ≡ written_list (codes "merge") (number (unsigned admitted) ∷ value ∷ [])) × (admitted ≤ 1048576) × IsStagesData value stages
  IsStepData d (system name phase text actions) =
      (value : Data) × (d ≡ written_list (codes "system") (string name ∷ string (phase_word phase) ∷ string text ∷ value ∷ [])) × IsActionsData value actions
  IsStepData d frame = d ≡ written_list (codes "frame") []

-- the arity of a component that the step makes is one that the edition allows
abbrev pub KeepsTo : Edition → WrittenStep → Type 0
KeepsTo edition (component name arity) = (1 ≤ arity) × (arity ≤ largest_arity edition)
KeepsTo edition _ = ⊤
