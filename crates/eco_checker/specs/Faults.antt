-- Which parts of a value keep it from being a script.
use Rattle.std.specs.Prelude.{ℕ, ◌+◌, Bool, true, false, List, [], ◌∷◌, Option, Some, None}
use Rattle.std.specs.Option.{unwrap_or}
use Rattle.serde_json.specs.Data.{Data}
use Rattle.eco_ids.specs.declared.edition.Edition.{Edition}
use Rattle.eco_ids.specs.declared.edition.Edition.TheVariants.{Second}
use Rattle.eco_steps.specs.Decode.{list_in, version_in}

-- the items of the third of three
abbrev pub third_items : List Data → List Data
third_items (version ∷ limit ∷ steps ∷ []) = unwrap_or (list_in steps) []
third_items _ = []

-- what the list of steps holds, where the value is a list of three whose third is a list
abbrev pub items_in : Data → List Data
items_in d = third_items (unwrap_or (list_in d) [])

-- the edition of the version that stands first of three, or the second, which allows more, where it is none
abbrev pub first_edition : List Data → Edition
first_edition (version ∷ limit ∷ steps ∷ []) = unwrap_or (version_in version) Second
first_edition _ = Second

-- the edition that the steps are judged by
abbrev pub edition_in : Data → Edition
edition_in d = first_edition (unwrap_or (list_in d) [])

-- a number in front of others where nothing was found
abbrev pub unless_found : {A : Type 0} → ℕ → Option A → List ℕ → List ℕ
unless_found n (Some x) ns = ns
unless_found n None ns = n ∷ ns

-- the numbers of those of some values in which nothing is found, where the first has this number
abbrev pub numbers_without : {A : Type 0} → (Data → Option A) → ℕ → List Data → List ℕ
numbers_without find n [] = []
numbers_without find n (d ∷ ds) = unless_found n (find d) (numbers_without find (n + 1) ds)

-- the number of a value, unless the value was read
abbrev pub unless_read : Bool → ℕ → List ℕ
unless_read true n = []
unless_read false n = n ∷ []
