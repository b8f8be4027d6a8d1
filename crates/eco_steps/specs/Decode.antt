-- How the program finds the script that a JSON value is, if it is one. The contracts of private functions speak of it;
-- that it finds exactly the scripts is proved over it.
use Rattle.std.specs.Prelude.{ℕ, ◌^◌, ◌==◌, ◌&&◌, ℤ, pos, negsuc, List, [], ◌∷◌, length, codes, Option, Some, None, option_map, option_and_then, map, nat_le}
use Rattle.std.specs.Prelude.{nat_lt}
use Rattle.std.specs.Prelude.{if◌then◌else◌}
use Rattle.std.specs.Option.{option_or}
use Rattle.std.specs.Str.{bytes_eq}
use Rattle.serde_json.specs.Data.{Data, null, boolean, number, string, array, object, Items, no_items, item, Num, unsigned, negative, float}
use Rattle.serde_json.specs.Find.{as_number, as_str, as_array, as_u64}
use Rattle.eco_ids.specs.declared.edition.Edition.{Edition}
use Rattle.eco_ids.specs.declared.edition.Edition.TheVariants.{First, Second}
use Rattle.eco_ids.specs.declared.value.Value.{Value}
use Rattle.eco_ids.specs.Edition.{builtin_count, largest_arity}
use Rattle.eco_ids.specs.World.{padded}
use Rattle.eco_systems.specs.declared.phase.Phase.{Phase}
use Rattle.eco_systems.specs.Phases.{phases}
use Rattle.eco_steps.specs.Steps.{WrittenStep, create, component, change, has, get, show, list, query, cache, cached, merge, system, frame, phase_word}
use Rattle.eco_steps.specs.Actions.{WrittenAction}
use Rattle.eco_steps.specs.Actions as action
use Rattle.eco_steps.specs.Commands.{WrittenChange, WrittenCommand, add, remove, set, clear, rename, delete, delete_with, remove_all}
use Rattle.eco_steps.specs.Commands as command
use Rattle.eco_steps.specs.Script.{WrittenScript}

-- items as a list
abbrev pub items_list : Items → List Data
items_list no_items = []
items_list (item d ds) = d ∷ items_list ds

-- the items of a list
abbrev pub list_in : Data → Option (List Data)
list_in d = option_map items_list (as_array d)

-- what is found in each of some values, if something is in each
abbrev pub each_in : {A : Type 0} → (Data → Option A) → List Data → Option (List A)
each_in find [] = Some []
each_in find (d ∷ ds) = option_and_then (λ x. option_map (λ xs. x ∷ xs) (each_in find ds)) (find d)

-- a whole number in a range
abbrev pub number_in : ℕ → ℕ → Data → Option ℕ
number_in low high d = option_and_then (λ n. if nat_le low n && nat_le n high then Some n else None) (option_and_then as_u64 (as_number d))

-- a number that is whole and has 64 bits
abbrev pub integer_of : Num → Option ℤ
integer_of (unsigned n) = if nat_lt n (2 ^ 63) then Some (pos n) else None
integer_of (negative (pos n)) = None
integer_of (negative (negsuc n)) = if nat_lt n (2 ^ 63) then Some (negsuc n) else None
integer_of (float x) = None

-- a whole number of 64 bits
abbrev pub integer_in : Data → Option ℤ
integer_in d = option_and_then integer_of (as_number d)

-- a name, or `null`
abbrev pub name_in : Data → Option (Option (List ℕ))
name_in null = Some None
name_in (boolean b) = None
name_in (number n) = None
name_in (string s) = Some (Some s)
name_in (array ds) = None
name_in (object ms) = None

-- words, and what each stands for
abbrev pub Words : Type 0 → Type 0
Words A = List (List ℕ × A)

-- what a word stands for, if it is one of these
abbrev pub at_word : {A : Type 0} → Words A → List ℕ → Option A
at_word [] word = None
at_word (row ∷ rows) word = if bytes_eq word row.0 then Some row.1 else at_word rows word

-- the changes with one text, and that of a word
abbrev pub text_changes : List ℕ → Words WrittenChange
text_changes text =
    (codes "clear", clear text) ∷ (codes "delete", delete text) ∷ (codes "delete_with", delete_with text) ∷ (codes "remove_all", remove_all text) ∷ []

abbrev pub change_of_text : List ℕ → List ℕ → Option WrittenChange
change_of_text word text = at_word (text_changes text) word

-- the changes with two texts, and that of a word
abbrev pub texts_changes : List ℕ → List ℕ → Words WrittenChange
texts_changes text other = (codes "add", add text other) ∷ (codes "remove", remove text other) ∷ []

abbrev pub change_of_texts : List ℕ → List ℕ → List ℕ → Option WrittenChange
change_of_texts word text other = at_word (texts_changes text other) word

-- the change with this word, a text and one more argument
abbrev pub change_of_two : List ℕ → List ℕ → Data → Option WrittenChange
change_of_two word text d =
    if bytes_eq word (codes "rename") then option_map (rename text) (name_in d)
    else option_and_then (change_of_texts word text) (as_str d)

-- the command that makes a handle alive, with these arguments
abbrev pub created_of : List Data → Option WrittenCommand
created_of (handle ∷ []) = option_map command.create (as_str handle)
created_of _ = None

-- the steps without arguments, and that of a word
abbrev pub bare_steps : Words WrittenStep
bare_steps = (codes "create", create None) ∷ (codes "list", list) ∷ (codes "frame", frame) ∷ []

abbrev pub step_of_none : List ℕ → Option WrittenStep
step_of_none word = at_word bare_steps word

-- the steps with one text, and that of a word
abbrev pub text_steps : List ℕ → Words WrittenStep
text_steps text =
    (codes "create", create (Some text)) ∷ (codes "show", show text) ∷ (codes "query", query text) ∷ (codes "cache", cache text) ∷ []

abbrev pub step_of_text : List ℕ → List ℕ → Option WrittenStep
step_of_text word text = at_word (text_steps text) word

-- the step with this word and one argument
abbrev pub step_of_one : List ℕ → Data → Option WrittenStep
step_of_one word d =
    if bytes_eq word (codes "cached") then option_map cached (number_in 0 4294967295 d)
    else option_and_then (step_of_text word) (as_str d)

-- the steps with two texts, and that of a word
abbrev pub texts_steps : List ℕ → List ℕ → Words WrittenStep
texts_steps text other = (codes "has", has text other) ∷ (codes "get", get text other) ∷ []

abbrev pub step_of_texts : List ℕ → List ℕ → List ℕ → Option WrittenStep
step_of_texts word text other = at_word (texts_steps text other) word

-- a word, and what stands behind it in its list
abbrev pub words_of : List Data → Option (List ℕ × List Data)
words_of [] = None
words_of (word ∷ arguments) = option_map (λ w. (w, arguments)) (as_str word)

-- these parts of a value
abbrev pub words_in : Data → Option (List ℕ × List Data)
words_in d = option_and_then words_of (list_in d)

-- the phase of a word
abbrev pub phase_of : List ℕ → Option Phase
phase_of word = at_word (map (λ p. (phase_word p, p)) phases) word

-- the actions without arguments, and that of a word
abbrev pub bare_actions : Words WrittenAction
bare_actions = (codes "kill", action.kill) ∷ (codes "spawn", action.spawn None) ∷ []

abbrev pub action_of_none : List ℕ → Option WrittenAction
action_of_none word = at_word bare_actions word

-- the actions with one text, and that of a word
abbrev pub text_actions : List ℕ → Words WrittenAction
text_actions text = (codes "add", action.add text) ∷ (codes "remove", action.remove text) ∷ (codes "spawn", action.spawn (Some text)) ∷ []

abbrev pub action_of_text : List ℕ → List ℕ → Option WrittenAction
action_of_text word text = at_word (text_actions text) word

-- the number of a slot
abbrev pub slot_in : Data → Option ℕ
slot_in = number_in 0 31

-- what is found by the ranges of an edition
module _ (edition : Edition) where
  -- the value whose first fields are in a list of as many items
  abbrev pub value_of_items : List Data → Option Value
  value_of_items ds = if nat_le 1 (length ds) && nat_le (length ds) (largest_arity edition) then option_map padded (each_in integer_in ds) else None

  -- the value of a component
  abbrev pub value_of_data : Data → Option Value
  value_of_data d = option_and_then value_of_items (list_in d)

  -- the change with this word, two texts and one more argument
  abbrev pub change_of_three : List ℕ → List ℕ → List ℕ → Data → Option WrittenChange
  change_of_three word text other d = if bytes_eq word (codes "set") then option_map (set text other) (value_of_data d) else None

  -- the change with this word and these arguments, by how many there are
  abbrev pub change_with : List ℕ → List Data → Option WrittenChange
  change_with w [] = None
  change_with w (d ∷ []) = option_and_then (change_of_text w) (as_str d)
  change_with w (d ∷ e ∷ []) = option_and_then (λ text. change_of_two w text e) (as_str d)
  change_with w (d ∷ e ∷ f ∷ []) = option_and_then (λ text. option_and_then (λ other. change_of_three w text other f) (as_str e)) (as_str d)
  change_with w (d ∷ e ∷ f ∷ g ∷ ds) = None

  -- the command with this word and these arguments
  abbrev pub command_with : List ℕ → List Data → Option WrittenCommand
  command_with w ds = if bytes_eq w (codes "create") then created_of ds else option_map command.change (change_with w ds)

  -- the command that a value is
  abbrev pub command_in : Data → Option WrittenCommand
  command_in d = option_and_then (λ p. command_with p.0 p.1) (words_in d)

  -- the commands that a value lists
  abbrev pub stage_in : Data → Option (List WrittenCommand)
  stage_in d = option_and_then (each_in command_in) (list_in d)

  -- the stages that a value lists
  abbrev pub stages_in : Data → Option (List (List WrittenCommand))
  stages_in d = option_and_then (each_in stage_in) (list_in d)

  -- the step with this word, a text and one more argument
  abbrev pub step_of_two : List ℕ → List ℕ → Data → Option WrittenStep
  step_of_two word text d =
      if bytes_eq word (codes "component") then option_map (component text) (number_in 1 (largest_arity edition) d)
      else option_and_then (step_of_texts word text) (as_str d)

  -- the step with this word and these arguments, by how many there are, which is no change and holds no other
  abbrev pub step_of : List ℕ → List Data → Option WrittenStep
  step_of w [] = step_of_none w
  step_of w (d ∷ []) = step_of_one w d
  step_of w (d ∷ e ∷ []) = option_and_then (λ text. step_of_two w text e) (as_str d)
  step_of w (d ∷ e ∷ f ∷ ds) = None

  -- the merge with these arguments
  abbrev pub merge_of_data : List Data → Option WrittenStep
  merge_of_data (admitted ∷ stages ∷ []) =
      option_and_then (λ n. option_map (merge n) (stages_in stages)) (number_in 0 1048576 admitted)
  merge_of_data _ = None

  -- the action with this word, a slot and one more argument
  abbrev pub action_of_slot : List ℕ → ℕ → Data → Option WrittenAction
  action_of_slot word slot d =
      if bytes_eq word (codes "put") then option_map (action.put slot) (value_of_data d)
      else (if bytes_eq word (codes "sum") then option_map (action.sum slot) (slot_in d) else None)

  -- the action with this word and these arguments, by how many there are
  abbrev pub action_of : List ℕ → List Data → Option WrittenAction
  action_of w [] = action_of_none w
  action_of w (d ∷ []) = option_and_then (action_of_text w) (as_str d)
  action_of w (d ∷ e ∷ []) = option_and_then (λ slot. action_of_slot w slot e) (slot_in d)
  action_of w (d ∷ e ∷ f ∷ ds) = None

  -- the action that a value is
  abbrev pub action_in : Data → Option WrittenAction
  action_in d = option_and_then (λ p. action_of p.0 p.1) (words_in d)

  -- the actions that a value lists
  abbrev pub actions_in : Data → Option (List WrittenAction)
  actions_in d = option_and_then (each_in action_in) (list_in d)

  -- the system with this name and these further arguments
  abbrev pub named_system_of_data : List ℕ → Data → Data → Data → Option WrittenStep
  named_system_of_data name phase text actions =
      option_and_then (λ p. option_and_then (λ t. option_map (system name p t) (actions_in actions)) (as_str text)) (option_and_then phase_of (as_str phase))

  -- the system with these arguments
  abbrev pub system_of_data : List Data → Option WrittenStep
  system_of_data (name ∷ phase ∷ text ∷ actions ∷ []) = option_and_then (λ n. named_system_of_data n phase text actions) (as_str name)
  system_of_data _ = None

  -- the step with this word and these arguments
  abbrev pub step_with : List ℕ → List Data → Option WrittenStep
  step_with w ds =
      if bytes_eq w (codes "merge") then merge_of_data ds
      else (if bytes_eq w (codes "system") then system_of_data ds else option_or (option_map change (change_with w ds)) (step_of w ds))

  -- the step that a value is
  abbrev pub step_in : Data → Option WrittenStep
  step_in d = option_and_then (λ p. step_with p.0 p.1) (words_in d)

-- the edition that a version stands for
abbrev pub edition_of : ℕ → Edition
edition_of version = if version == 1 then First else Second

-- the edition of a version that there is
abbrev pub version_in : Data → Option Edition
version_in d = option_map edition_of (number_in 1 2 d)

-- the limit of a world of an edition
abbrev pub limit_in : Edition → Data → Option ℕ
limit_in edition = number_in (builtin_count edition) 1048576

-- the edition, the limit, and the items of the list of steps, of what has the three parts of a script
abbrev pub Parts : Type 0
Parts = Edition × ℕ × List Data

-- these parts, of an edition
abbrev pub parts_with : Edition → Data → Data → Option Parts
parts_with edition limit steps = option_and_then (λ l. option_map (λ items. (edition, l, items)) (list_in steps)) (limit_in edition limit)

-- these parts, of three values
abbrev pub parts_of : List Data → Option Parts
parts_of (version ∷ limit ∷ steps ∷ []) = option_and_then (λ edition. parts_with edition limit steps) (version_in version)
parts_of _ = None

-- these parts of a value
abbrev pub parts_in : Data → Option Parts
parts_in d = option_and_then parts_of (list_in d)

-- the script of such parts
abbrev pub script_of : Parts → Option WrittenScript
script_of p = option_map (λ ss. record { edition = p.0; limit = p.1; steps = ss }) (each_in (step_in p.0) p.2)

-- the script that a value is
abbrev pub script_in : Data → Option WrittenScript
script_in d = option_and_then script_of (parts_in d)
