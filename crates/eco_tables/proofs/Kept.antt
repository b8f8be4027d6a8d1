-- Which ids a table keeps fields of.
use Rattle.eco_tables.proofs.Common.{◌≡◌, ℕ, ◌<◌, ◌≤◌, Bool, true, false, if◌then◌else◌, List, map, length, get_or, Option, Some, None}
use Rattle.eco_tables.proofs.Common.{unwrap_or, MatchOption, refl, subst, sym, ap, ◌∙◌, arith, find, Entity, Id, id_cmp, has_item, ColumnState, kind_of}
use Rattle.eco_tables.proofs.Common.{TableRow, rows_of, paired, width_among, AreKinds, HasShape}
use Rattle.eco_tables.proofs.Rows.{ids_of_kinds, no_width, widthless_in, within_ids}
use Rattle.eco_tables.proofs.Shapes.{none_read}
use Rattle.eco_tables.proofs.Widths.{width-each}

-- a column keeps fields of its id
pub wide : (ids : List Id) (cs : List ColumnState) → AreKinds ids (map kind_of cs) → (i : Id) → has_item id_cmp (map (λ c. c.id) cs) i ≡ true
    → 0 < unwrap_or (find id_cmp i (paired ids (map (width_among (map kind_of cs)) ids))) 0
wide ids cs kinds i there =
    let some : 1 ≤ width_among (map kind_of cs) i = kinds.wide i (rw (ids_of_kinds cs) there) in
    let positive : 0 < width_among (map kind_of cs) i = omega arith in
    subst (λ o. 0 < unwrap_or o 0)
    (sym (width-each ids (map kind_of cs) i ∙ ap (λ b. if b then Some (width_among (map kind_of cs) i) else None)
    (within_ids ids cs kinds i there))) positive

-- a row has no value of an id that has no width, and zeros of one whose width is 0
abbrev IsUnread : List TableRow → ℕ → Id → Option ℕ → Type 0
IsUnread rows row i width = MatchOption width ((r : TableRow) → find id_cmp i (get_or rows row r).held ≡ None) (λ n. n ≡ 0)

module _ (ids : List Id) (es : List Entity) (capacity : ℕ) (cs : List ColumnState) (room : ℕ) (shape : HasShape ids es capacity cs room) where
  -- an id without a column is none of the type's, or has no width
  pub unkept : (row : ℕ) (i : Id) → row < length es → has_item id_cmp (map (λ c. c.id) cs) i ≡ false
      → IsUnread (rows_of ids cs es) row i (find id_cmp i (paired ids (map (width_among (map kind_of cs)) ids)))
  unkept row i there none = by (has_item id_cmp ids i) refl
    where
      by : (b : Bool) → has_item id_cmp ids i ≡ b
          → IsUnread (rows_of ids cs es) row i (find id_cmp i (paired ids (map (width_among (map kind_of cs)) ids)))
      by true e = subst (IsUnread (rows_of ids cs es) row i) (sym (widthless_in ids cs shape.kinds i e none)) refl
      by false e =
          subst (IsUnread (rows_of ids cs es) row i) (sym (no_width ids cs shape.kinds i e)) (λ r. none_read ids es capacity cs room shape row i r there e)
