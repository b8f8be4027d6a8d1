-- A search that notes members in a list, in the order in which they are found.
use Rattle.std.specs.Prelude.{◌≡◌, ◌↔◌, ◌⊎◌, Bool, ℕ, IsTrue, List, slice_index_or}
use Rattle.std.specs.List.{list_any}
use Rattle.indexmap.specs.IndexSet.{insert_all}
use Rattle.eco_ids.specs.Least.{Least}

module _ {A : Type 0} (eq : A → A → Bool) where
  -- the node is one of these
  abbrev pub is_among : List A → A → Bool
  is_among xs a = list_any (eq a) xs

  -- the node is in the least set that holds the roots and, with each member, whatever it leads to
  abbrev pub IsInLeast : (A → A → Type 0) → List A → A → Type 0
  IsInLeast Leads roots a = Least (λ root. IsTrue (is_among roots root)) Leads a

  -- the members are that set
  abbrev pub IsLeastSet : (A → A → Type 0) → List A → List A → Type 0
  IsLeastSet Leads roots members = (a : A) → IsTrue (is_among members a) ↔ IsInLeast Leads roots a

  -- the new list has what the old one has, and these
  abbrev pub Appends : (A → Type 0) → List A → List A → Type 0
  Appends IsOne old new = (b : A) → IsTrue (is_among new b) ↔ (IsTrue (is_among old b) ⊎ IsOne b)

  -- the list has all of these
  abbrev pub Covers : List A → (A → Type 0) → Type 0
  Covers list IsOne = (b : A) → IsOne b → IsTrue (is_among list b)

  -- the member at a place is asked, and all that it leads to, which is known, is noted
  pub record IsTurn (Leads : A → A → Type 0) (known members : List A) (asked : ℕ) (members' : List A) : Type 0 where
    pub found : List A
    pub default : A
    pub exact : (b : A) → IsTrue (is_among found b) ↔ Leads (slice_index_or members asked default) b
    pub within : (b : A) → IsTrue (is_among found b) → IsTrue (is_among known b)
    pub noted : members' ≡ insert_all eq members found
