-- The tokens of texts: white space, names and handles.
use Rattle.std.specs.Prelude.{◌≡◌, ℕ, ◌^◌, ◌<◌, ◌==◌, ◌&&◌, ◌||◌, Bool, true, List, nat_le}
use Rattle.std.specs.List.{list_all}
use Rattle.eco_ids.specs.Names.{is_name}
use Rattle.eco_ids.specs.Text.{entity_text}

-- space, tab, newline and carriage return
abbrev pub is_white : ℕ → Bool
is_white b = (b == 32) || (b == 9) || (b == 10) || (b == 13)

abbrev pub is_digit : ℕ → Bool
is_digit b = nat_le 48 b && nat_le b 57

abbrev pub IsWhite : List ℕ → Type 0
IsWhite bs = list_all is_white bs ≡ true

-- what names an entity: its name, or its handle's index and generation
pub data Reference : Type 0 where
  name : List ℕ → Reference
  handle : ℕ → ℕ → Reference

-- the token of a name is the name, that of a handle its text
abbrev pub IsToken : List ℕ → Reference → Type 0
IsToken t (name n) = (t ≡ n) × (is_name n ≡ true)
IsToken t (handle i g) =
    (t ≡ entity_text (record { index = i; generation = g })) × (i < 2 ^ 32) × (g < 2 ^ 16)
