-- The lines that show entities, values and results.
use Rattle.std.specs.Prelude.{ℕ, List, [], ◌∷◌, ◌++◌, flat_map, map, codes, decimal, Option, Some, None}
use Rattle.std.specs.Option.{option_map_or}
use Rattle.eco_ids.specs.declared.entity.Entity.{Entity}
use Rattle.eco_ids.specs.declared.id.Id.{Id}
use Rattle.eco_ids.specs.Data.{arity_of}
use Rattle.eco_ids.specs.Step.{own_name}
use Rattle.eco_ids.specs.Text.{entity_text, id_text, value_text}
use Rattle.eco_ids.specs.World.{WorldState, held_by}
use Rattle.eco_script.specs.Values.{Shown, shown_value}

-- texts of items, joined by a comma and a space
abbrev pub joined_by_commas : {A : Type 0} → (A → List ℕ) → List A → List ℕ
joined_by_commas text [] = []
joined_by_commas text (x ∷ xs) = text x ++ flat_map (λ y. codes ", " ++ text y) xs

-- a name, or `-`
abbrev pub name_text : Option (List ℕ) → List ℕ
name_text name = option_map_or (λ n. n) name (codes "-")

-- how many fields a component's values have, or `-`
abbrev pub arity_text : Option ℕ → List ℕ
arity_text arity = option_map_or decimal arity (codes "-")

-- an id, or `-` for none
abbrev pub entry_text : Option Id → List ℕ
entry_text entry = option_map_or id_text entry (codes "-")

-- a value's fields: `3 -4`
abbrev pub shown_text : Shown → List ℕ
shown_text s = value_text s.0 s.1

-- an id, and `=` and its value where it has one: `#9.0` or `#9.0=3 -4`
abbrev pub held_text : Id → Option Shown → List ℕ
held_text i None = id_text i
held_text i (Some shown) = id_text i ++ codes "=" ++ shown_text shown

-- an entity with its name, its arity and its ids, each with what it shows: `#9.0 a - [#10.0, #11.0=3 -4]`
abbrev pub entity_line : Entity → Option (List ℕ) → Option ℕ → (Id → Option Shown) → List Id → List ℕ
entity_line e name arity shows ids =
    entity_text e ++ codes " " ++ name_text name ++ codes " " ++ arity_text arity ++ codes " [" ++ joined_by_commas
    (λ i. held_text i (shows i)) ids ++ codes "]\n"

-- a result with its entries: `row #9.0 [#10.0, -]`
abbrev pub row_line : Entity → List (Option Id) → List ℕ
row_line e entries = codes "row " ++ entity_text e ++ codes " [" ++ joined_by_commas entry_text entries ++ codes "]\n"

-- the line of an entity, with what the world has of it
abbrev pub line_of : WorldState → Entity → List ℕ
line_of w e = entity_line e (own_name w e) (arity_of w e) (shown_value w e) (map (λ h. h.0) (held_by w e))
