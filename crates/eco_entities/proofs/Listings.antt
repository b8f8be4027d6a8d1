-- Who is listed under a name, after each change of the cells and of the tree.
use Rattle.eco_entities.proofs.Common.{◌≡◌, ◌≢◌, ℕ, Bool, true, false, cond, List, ◌∷◌, ◌⊎◌, inl, inr, refl, sym, ap, ◌∙◌, Option, Some, is_some}
use Rattle.eco_entities.proofs.Common.{Entity, Cell, BucketState, IsAt, HasMarkAt, KeepsAll, cell_to, tag_of, String, string_bytes, lookup, is_eq, slice_cmp}
use Rattle.eco_entities.proofs.Common.{nat_cmp, subst, cases_eq}
use Rattle.eco_entities.proofs.NamedEntities.{text_same}

-- by these cells, or by this tree
abbrev pub Lists : List BucketState → (List ℕ → Option Entity) → List ℕ → Entity → Type 0
Lists table tree name e = IsAt table (cell_to (tag_of name) e) ⊎ (HasMarkAt table (tag_of name) × (tree name ≡ Some e))

module _ (table table' : List BucketState) (tree tree' : List ℕ → Option Entity) (name : List ℕ) (e : Entity) where
  pub listed_still : (IsAt table (cell_to (tag_of name) e) → IsAt table' (cell_to (tag_of name) e))
      → (HasMarkAt table (tag_of name) → HasMarkAt table' (tag_of name)) → tree' name ≡ tree name
      → Lists table tree name e → Lists table' tree' name e
  listed_still cells marks same (inl at) = inl (cells at)
  listed_still cells marks same (inr (marked, found)) = inr (marks marked, same ∙ found)

  pub listed_kept : KeepsAll table table' → tree' name ≡ tree name → Lists table tree name e → Lists table' tree' name e
  listed_kept keeps same = listed_still (keeps.cells (cell_to (tag_of name) e)) (keeps.marks (tag_of name)) same

  -- in a table whose marks are made anew
  pub listed_anew : (IsAt table (cell_to (tag_of name) e) → IsAt table' (cell_to (tag_of name) e)) → (tree name ≡ Some e → HasMarkAt table' (tag_of name))
      → Lists table tree name e → Lists table' tree name e
  listed_anew cells marks (inl at) = inl (cells at)
  listed_anew cells marks (inr (_, found)) = inr (marks found, found)

-- a cell that is not the one to be removed, or whose tag is kept
pub spared : (index tag : ℕ) (kept : Option ℕ) (e : Entity) (name : List ℕ) → (e.index ≢ index) ⊎ (kept ≡ Some (tag_of name))
    → (cell_to (tag_of name) e ≢ record { tag = tag; index = index }) ⊎ (kept ≡ Some tag)
spared index tag kept e name (inl apart) = inl (λ same. apart (ap (λ (c : Cell). c.index) same))
spared index tag kept e name (inr is) =
    elim (cases_eq (tag_of name) tag) [
      | inl same ↦ inr (is ∙ ap Some same)
      | inr apart ↦ inl (λ same. apart (ap (λ (c : Cell). c.tag) same))
    ]

-- whom a part of the tree tells
abbrev pub told : {Y : Type 0} → List (String Y × Entity) → List ℕ → Option Entity
told es name = lookup (λ k. is_eq (slice_cmp nat_cmp name (string_bytes k))) es

-- the names in the tree that are left, or that are marked
abbrev pub IsLeftOrMarked : {Y : Type 0} → List (String Y × Entity) → List BucketState → List ℕ → Type 0
IsLeftOrMarked left table name = (is_some (told left name) ≡ true) ⊎ HasMarkAt table (tag_of name)

pub marked_next : {Y : Type 0} (k : String Y) (v : Entity) (left : List (String Y × Entity)) (table table' : List BucketState) (name : List ℕ)
    → KeepsAll table table' → HasMarkAt table' (tag_of (string_bytes k))
    → IsLeftOrMarked ((k, v) ∷ left) table name → IsLeftOrMarked left table' name
marked_next k v left table table' name keeps marked (inr was) = inr (keeps.marks (tag_of name) was)
marked_next {Y} k v left table table' name keeps marked (inl some) = by (is_eq (slice_cmp nat_cmp name (string_bytes k))) refl some
  where
    by : (b : Bool) → is_eq (slice_cmp nat_cmp name (string_bytes k)) ≡ b → is_some (cond b (Some v) (told left name)) ≡ true
        → IsLeftOrMarked left table' name
    by true is h = inr (subst (λ t. HasMarkAt table' (tag_of t)) (sym (text_same name (string_bytes k) is)) marked)
    by false is h = inl h
