-- What listed tables lend are the values that their entities have in the world.
use Rattle.eco_world.proofs.Common.{◌≡◌, ℕ, suc, true, ◌&&◌, is_some, IsSome, nat_lt, List, [], ◌∷◌, map, slice_get, Option, Some, None}
use Rattle.eco_world.proofs.Common.{option_map, unwrap_or, refl, sym, ap, ◌∙◌, subst, Contains, All, IsPermutation, get_or_from_slice_get, All-contains}
use Rattle.eco_world.proofs.Common.{Contains-permutation, IsPermutation-sym, arity, IsLawful, ListedTable, has_item, id_cmp, WorldState, Record, entities}
use Rattle.eco_world.proofs.Common.{held_by, record_of, Id, value_in, TableState, TableRow, entities_of, width_in, no_table, table_in, KeepData, IsShown}
use Rattle.eco_world.proofs.Common.{Stands, TableRows, IsWhole, LendsValues, column_in, lent, lent_at, lent_of}
use Rattle.eco_world.proofs.Common.{true≢false, false, Bool, Value, zero, Entity, none-some, same_Some, slice_get-map, slice_get_within, find, keys_find}
use Rattle.eco_world.proofs.Common.{if◌then◌else◌, ◌<◌, arith, length}
use Rattle.eco_world.proofs.Common.{get_or, no_row, slice_get-get_or}
use Rattle.std.proofs.lemmas.List.Elements.{All-get_or}
use Rattle.eco_store.specs.Lent.{IsTableOf}
use Rattle.eco_ids.specs.World.{zeros}
use Rattle.eco_tables.specs.Table.{HasIds}
use Rattle.eco_ids.specs.Data.{value_of}
use Rattle.eco_world.specs.Layouts.{is_lent, lent_by}
use Rattle.eco_world.proofs.Data.{data_lent}
use Rattle.eco_ids.specs.Layout.{IsLayout}
use Rattle.eco_world.proofs.Layouts.{IsTable, all_of, layout_with, mapped_from, mapped_there}
use Rattle.eco_world.proofs.Tabled.{all_covered, found_made, made_of, table_is, with_rows}
use Rattle.eco_world.specs.Layouts.{shown_of}

-- a table as a world lists and lends it
abbrev Lent : Type 0
Lent = ListedTable × TableState × WorldState

-- the tables that have rows, among these in their slots
abbrev pub lent_rows : WorldState → List (Option TableState) → List (ListedTable × TableState × WorldState)
lent_rows w = made_of (lent_of w)

-- whoever stands in a row has in the world what is lent there
abbrev pub LendsRows : WorldState → TableRows → Type 0
LendsRows w t =
    (row : ℕ) (e : Entity) → slice_get t.entities.now row ≡ Some e → (i : Id)
    → value_of w e i ≡ (if is_lent t i then slice_get (lent_by t i) row else None)

-- it stands in a slot
abbrev IsLent : WorldState → List (Option TableState) → ListedTable × TableState × WorldState → Type 0
IsLent w slots x = (n : ℕ) × (lent_at w slots n ≡ x)

-- ---- where a table stands

pub in_slots : (w : WorldState) (slots : List (Option TableState)) (ns : List ℕ) (x : ListedTable × TableState × WorldState)
    → Contains (map (lent_at w slots) ns) x → IsLent w slots x
in_slots w slots ns x p = let one = mapped_from (lent_at w slots) ns x p in (one.0, one.2)

pub with_rows_in_slots : (w : WorldState) (slots : List (Option TableState)) (x : ListedTable × TableState × WorldState)
    → Contains (lent_rows w slots) x → IsLent w slots x
with_rows_in_slots w slots x p = let one = found_made (lent_of w) slots x p in (one.0, ap (λ o. lent_of w (unwrap_or o no_table)) one.2 ∙ one.4)

-- ---- what a row holds

pub stands_held : (o : Option Record) (t : TableState) (row : ℕ) (r : TableRow) → Stands o t row → slice_get t.rows row ≡ Some r →
    unwrap_or (option_map (λ (k : Record). k.held) o) [] ≡ r.held
stands_held None t row r h at = absurd h
stands_held (Some k) t row r h at = h.held r ∙ ap (λ (x : TableRow). x.held) (get_or_from_slice_get t.rows row r r at)

pub rows_show : (w : WorldState) (i : Id) (rows : List TableRow)
    → ((k : ℕ) (r : TableRow) → slice_get rows k ≡ Some r → held_by w r.entity ≡ r.held) →
    map (λ (r : TableRow). value_in r.held i) rows ≡ map (λ e. value_in (held_by w e) i) (entities_of rows)
rows_show w i [] each = refl
rows_show w i (r ∷ rows) each =
    ap (λ held. value_in held i ∷ map (λ (r : TableRow). value_in r.held i) rows) (sym (each 0 r refl))
    ∙ ap (λ vs. value_in (held_by w r.entity) i ∷ vs) (rows_show w i rows (λ k x at. each (suc k) x at))

-- the row in which an entity stands
row_of_entity : (rows : List TableRow) (k : ℕ) (e : Entity) → slice_get (entities_of rows) k ≡ Some e →
    (r : TableRow) × (slice_get rows k ≡ Some r) × (r.entity ≡ e)
row_of_entity [] k e at = absurd (none-some e at)
row_of_entity (r ∷ rows) zero e at = (r, refl, same_Some r.entity e at)
row_of_entity (r ∷ rows) (suc k) e at = row_of_entity rows k e at

All-slice_get : (P : TableRow → Type 0) (rows : List TableRow) (k : ℕ) (r : TableRow) → slice_get rows k ≡ Some r → All P rows → P r
All-slice_get P rows k r at all =
    subst P (get_or_from_slice_get rows k r r at) (All-get_or P rows k r (slice_get_within rows k r at) all)

-- an id that is data has the value that a row holds, where the row's type has the id
held_value : (o : Option Value) (kept has : Bool) → is_some o ≡ has
    → (if kept then o else None) ≡ (if has && kept then Some (unwrap_or o zeros) else None)
held_value o false false is = refl
held_value o false true is = refl
held_value None true false is = refl
held_value None true true is = absurd (true≢false (sym is))
held_value (Some v) true false is = absurd (true≢false is)
held_value (Some v) true true is = refl

module _ (w : WorldState) (slots : List (Option TableState)) (shown : IsShown (entities w) slots) (kept : KeepData (entities w) slots)
    (lawful : IsLawful w) where
  lends : (t : TableRows) → IsLent w slots (lent t) → IsWhole t → LendsValues w t
  lends t stands whole = record {
    values = λ i.
        ap (λ (x : Lent). column_in x.1 i) (sym stands.1)
        ∙ rows_show w i (table_in slots stands.0).rows
        (λ k r at. stands_held (record_of w r.entity) (table_in slots stands.0) k r (shown.rows stands.0 k r at) at)
        ∙ ap (λ (x : Lent). map (λ e. value_in (held_by w e) i) x.0.entities) stands.1;
    data_ids = λ i.
        subst (λ (x : Lent). (is_some (arity x.2 i) && nat_lt 0 (unwrap_or (width_in x.1 i) 0))
        ≡ (has_item id_cmp x.0.ids i && is_some (arity w i))) stands.1
        (data_lent w lawful (table_in slots stands.0) (kept stands.0)
        (subst (λ (x : TableState). (j : Id) → has_item id_cmp x.ids j ≡ true → IsSome (width_in x j))
        (ap (λ (x : Lent). x.1) (sym stands.1)) whole) i);
  }

  -- whatever order the tables are brought into
  pub all_lend : (old new : List TableRows) → IsPermutation old new
      → ((x : ListedTable × TableState × WorldState) → Contains (map lent old) x → IsLent w slots x) → All IsWhole old → All (LendsValues w) new
  all_lend old new moved stand whole =
      all_of (LendsValues w) new
      (λ t p.
      let was = Contains-permutation new old t (IsPermutation-sym old new moved) p in
      lends t (stand (lent t) (mapped_there lent old t was)) (All-contains IsWhole old t whole was))

  -- each of its entities has what it lends in its row
  pub lends_rows : (t : TableRows) → IsLent w slots (lent t) → IsWhole t → LendsRows w t
  lends_rows t stands whole row e at i =
      let table = table_in slots stands.0 in
      let same : table ≡ t.table.now = ap (λ (x : Lent). x.1) stands.1 in
      let one = row_of_entity table.rows row e (ap (λ (x : Lent). slice_get x.0.entities row) stands.1 ∙ at) in
      let r = one.0 in
      let held : held_by w e ≡ r.held =
      subst (λ x. held_by w x ≡ r.held) one.2 (stands_held (record_of w r.entity) table row r (shown.rows stands.0 row r one.1) one.1) in
      let ids : map (λ p. p.0) r.held ≡ t.ids.now =
      All-slice_get (HasIds table.ids) table.rows row r one.1 (shown.own stands.0) ∙ ap (λ (x : Lent). x.0.ids) stands.1 in
      let has = keys_find r.held i ∙ ap (λ is. has_item id_cmp is i) ids in
      let column = ap (λ (x : TableState). slice_get (column_in x i) row) (sym same)
      ∙ (slice_get-map (λ (x : TableRow). value_in x.held i) table.rows row ∙ ap (option_map (λ (x : TableRow). value_in x.held i)) one.1) in
      ap (λ held. if is_some (arity w i) then find id_cmp i held else None) held
      ∙ held_value (find id_cmp i r.held) (is_some (arity w i)) (has_item id_cmp t.ids.now i) has
      ∙ ap (λ b. if b then Some (value_in r.held i) else None) (sym ((lends t stands whole).data_ids i))
      ∙ ap (λ o. if is_lent t i then o else None) (sym column)

-- so the table in which a store finds an entity lends
pub lends_found : (w : WorldState) → IsLawful w → (t : TableRows) (table : TableState) → IsTableOf (entities w) table
    → lent t ≡ lent_of w table → IsWhole t → LendsRows w t
lends_found w lawful t table listed is whole =
    lends_rows w listed.0 listed.2.shown listed.2.kept lawful t (listed.1, ap (lent_of w) listed.3 ∙ sym is) whole

-- and the entity is listed in its row
pub row_found : (w : WorldState) (o : Option Record) (t : TableRows) (table : TableState) (row : ℕ) (e : Entity) → lent t ≡ lent_of w table
    → Stands o table row → ((r : TableRow) → (get_or table.rows row r).entity ≡ e) → slice_get t.entities.now row ≡ Some e
row_found w None t table row e is there own = absurd there
row_found w (Some k) t table row e is there own =
    ap (λ (x : Lent). slice_get x.0.entities row) is
    ∙ (slice_get-map (λ (r : TableRow). r.entity) table.rows row
    ∙ ap (option_map (λ (r : TableRow). r.entity)) (slice_get-get_or table.rows row no_row there.within) ∙ ap Some (own no_row))

-- where somebody stands in it, it is one of those that the world lists
pub listed_found : (w : WorldState) (o : Option Record) (t : ListedTable) (table : TableState) (row : ℕ) → IsTableOf (entities w) table
    → Stands o table row → t ≡ shown_of table → (layout : List ListedTable) × IsLayout w layout × Contains layout t
listed_found w None t table row kept there is = absurd there
listed_found w (Some k) t table row kept there is =
    let slots = kept.0 in
    let are = kept.2 in
    let some : 0 < length (table_in slots kept.1).rows = let within : row < length (table_in slots kept.1).rows =
    subst (λ (x : TableState). row < length x.rows) (sym kept.3) there.within in omega arith in
    layout_with w t (with_rows slots) (subst (IsTable w) (ap shown_of kept.3 ∙ sym is) (table_is w slots are.shown are.kinds kept.1 some))
    (all_covered w slots are.shown are.kinds)
