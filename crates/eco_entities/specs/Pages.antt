-- Names with their indices, in the order of the indices, and pages of them.
use Rattle.std.specs.Prelude.{◌≡◌, ◌≤◌, ◌<◌, ◌/◌, ℕ, not, List, length, set, slice_get, Option, Some, None, option_map, option_and_then}
use Rattle.std.specs.List.{insert, remove}
use Rattle.std.specs.Ordering.{nat_cmp, eq_by_cmp}
use Rattle.std.specs.FinMap.Entries.{find, put, where_key}
use Rattle.eco_entities.specs.declared.label.Label.{Label}
use Rattle.eco_entities.specs.Label.{label_text}

-- the name at an index, where there is one
abbrev pub text_at : List (ℕ × Label) → ℕ → Option (List ℕ)
text_at es index = option_map label_text (find nat_cmp index es)

-- the same names
pub record SameTexts (es fs : List (ℕ × Label)) : Type 0 where
  pub same : (index : ℕ) → text_at fs index ≡ text_at es index

-- the name at an index, each page having 64
abbrev pub name_at : List (List (ℕ × Label)) → ℕ → Option (List ℕ)
name_at pages index = option_and_then (λ es. text_at es index) (slice_get pages (index / 64))

-- the entry at a place is the index's
pub record IsEntry {X : Type 0} (index : ℕ) (es : List (ℕ × X)) (place : ℕ) : Type 0 where
  pub within : place < length es
  pub found : option_map (λ e. e.1) (slice_get es place) ≡ find nat_cmp index es
  pub there : option_map (λ e. e.0) (slice_get es place) ≡ Some index
  pub put_is : (x : X) → put nat_cmp index x es ≡ set es place (index, x)
  pub left : where_key nat_cmp (λ other. not (eq_by_cmp nat_cmp index other)) es ≡ remove es place

-- no entry is the index's, and at the place a new one would stand
pub record IsGap {X : Type 0} (index : ℕ) (es : List (ℕ × X)) (place : ℕ) : Type 0 where
  pub within : place ≤ length es
  pub none : find nat_cmp index es ≡ None
  pub put_is : (x : X) → put nat_cmp index x es ≡ insert es place (index, x)
  pub left : where_key nat_cmp (λ other. not (eq_by_cmp nat_cmp index other)) es ≡ es
