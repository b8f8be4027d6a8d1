-- Rows that columns show.
use Rattle.eco_frame.proofs.Common.{◌≡◌, ◌≤◌, ◌<◌, ℕ, zero, suc, List, [], ◌∷◌, Option, None, Some, if◌then◌else◌, refl, sym, ap}
use Rattle.eco_frame.proofs.Common.{◌∙◌, arith, drop}
use Rattle.eco_frame.proofs.Common.{length, map, option_map, slice_get, Entity, ValuedRow, WorldState, entry_value, entry_values, valued_rows}
use Rattle.std.proofs.lemmas.Option.{none-some, same_Some, slice_get-map}
use Rattle.std.specs.Prelude.{Bool, true, false, IfNone, IfSome, ◌⊎◌}
use Rattle.eco_ids.specs.declared.id.Id.{Id}
use Rattle.eco_ids.specs.declared.value.Value.{Value}
use Rattle.eco_ids.specs.Answer.{Row, answer}
use Rattle.eco_ids.specs.Data.{arity, value_of}
use Rattle.eco_ids.specs.World.{Record, record_of}
use Rattle.eco_ids.specs.Order.{id_cmp}
use Rattle.std.specs.FinMap.Entries.{find}
use Rattle.std.specs.Prelude.{is_some, unwrap_or}
use Rattle.eco_query.specs.declared.slot.Slot.{Slot}
use Rattle.eco_query.specs.Queries.{QuerySlot, slot_view}
use Rattle.eco_systems.specs.Rows.{shows_values, valued}
use Rattle.eco_world.specs.declared.table_rows.TableRows.{TableRows}
use Rattle.eco_frame.specs.declared.column.Column.{Column}
use Rattle.eco_frame.specs.declared.row_columns.RowColumns.{RowColumns}
use Rattle.eco_frame.specs.Rows.{IsRun, LendsRows, entities_in, lent_in, run_row, shown_in}
use Rattle.std.specs.Prelude.{◌++◌, option_to_list}
use Rattle.std.specs.Slice.{IsItemAt}
use Rattle.eco_ids.specs.Run.{Command}
use Rattle.eco_bodies.specs.Lent.{item_at}
use Rattle.eco_bodies.specs.Sums.{sum_of_both}
use Rattle.eco_frame.proofs.Common.{append-nil}
use Rattle.eco_frame.proofs.Shown.{found}

-- ---- the values of entries

-- they are settled by those of the ids
pub same_values : (f g : Id → Option Value) → ((i : Id) → f i ≡ g i) → (slots : List QuerySlot) (entries : List (Option Id))
    → entry_values f slots entries ≡ entry_values g slots entries
same_values f g same [] entries = refl
same_values f g same (s ∷ slots) [] = refl
same_values f g same (s ∷ slots) (o ∷ entries) =
    ap (λ v. v ∷ entry_values f slots entries) (one o) ∙ ap (λ vs. entry_value g s.access o ∷ vs) (same_values f g same slots entries)
  where
    one : (o : Option Id) → entry_value f s.access o ≡ entry_value g s.access o
    one None = refl
    one (Some i) = ap (λ v. if shows_values s.access then v else None) (same i)

no_items : {X : Type 0} (k : ℕ) → drop {A = X} k [] ≡ []
no_items zero = refl
no_items (suc k) = refl

module _ (f : Id → Option Value) where
  -- there are none behind the last
  pub none_left : (slots : List Slot) (entries : List (Option Id)) (k : ℕ) → (length slots ≤ k) ⊎ (length entries ≤ k)
      → entry_values f (map slot_view (drop k slots)) (drop k entries) ≡ []
  none_left [] entries k h = ap (λ xs. entry_values f (map slot_view xs) (drop k entries)) (no_items k)
  none_left (x ∷ slots) [] k h =
      let rest = map slot_view (drop k (x ∷ slots)) in ap (entry_values f rest) (no_items k) ∙ no_entries rest
    where
      no_entries : (qs : List QuerySlot) → entry_values f qs [] ≡ []
      no_entries [] = refl
      no_entries (q ∷ qs) = refl
  none_left (x ∷ slots) (y ∷ entries) zero h = absurd (grind arith)
  none_left (x ∷ slots) (y ∷ entries) (suc k) h = none_left slots entries k (grind arith)

-- ---- a row that is shown

-- a row of these values is the one that is there
is_row : (w : WorldState) (q : List QuerySlot) (o : Option Row) (x : Option ValuedRow) (e : Entity) (es : List (Option Id)) (vs : List (Option Value))
    → x ≡ option_map (valued w q) o → option_map (λ (r : ValuedRow). r.entity) x ≡ Some e → option_map (λ (r : ValuedRow). r.entries) x ≡ Some es
    → vs ≡ entry_values (value_of w e) q es → x ≡ Some (record { entity = e; entries = es; values = vs })
is_row w q None x e es vs at own listed shown = absurd (none-some e (sym (ap (option_map (λ (r : ValuedRow). r.entity)) at) ∙ own))
is_row w q (Some r) x e es vs at own listed shown =
    let entity = same_Some r.entity e (sym (ap (option_map (λ (r : ValuedRow). r.entity)) at) ∙ own) in
    let entries = same_Some r.entries es (sym (ap (option_map (λ (r : ValuedRow). r.entries)) at) ∙ listed) in
    at ∙ ap (λ x. Some x)
    (ap (λ (a : Entity). record { entity = a; entries = r.entries; values = entry_values (value_of w a) q r.entries }) entity
    ∙ ap (λ (l : List (Option Id)). record { entity = e; entries = l; values = entry_values (value_of w e) q l }) entries
    ∙ ap (λ (l : List (Option Value)). record { entity = e; entries = es; values = l }) (sym shown))

pub row_shown : (w : WorldState) (q : List QuerySlot) (rows : List ValuedRow) (place : ℕ) (e : Entity) (es : List (Option Id)) (vs : List (Option Value))
    → rows ≡ valued_rows w q → option_map (λ (r : ValuedRow). r.entity) (slice_get rows place) ≡ Some e
    → option_map (λ (r : ValuedRow). r.entries) (slice_get rows place) ≡ Some es → vs ≡ entry_values (value_of w e) q es
    → slice_get rows place ≡ Some (record { entity = e; entries = es; values = vs })
row_shown w q rows place e es vs are own listed shown =
    let all = answer w (map (λ (s : QuerySlot). s.term) q) in
    is_row w q (slice_get all place) (slice_get rows place) e es vs
    (ap (λ rs. slice_get rs place) are ∙ slice_get-map (valued w q) all place) own listed shown

-- a row that shares its entries with the one for which columns were looked for, and whose entity stands in their table
pub run_shows : (c : RowColumns) → IsRun c → (row place : ℕ) (e : Entity) → slice_get c.entities.now row ≡ Some e
    → option_map (λ (r : ValuedRow). r.entity) (slice_get c.rows.now place) ≡ Some e
    → option_map (λ (r : ValuedRow). r.entries) (slice_get c.rows.now c.place) ≡ option_map (λ (r : ValuedRow). r.entries) (slice_get c.rows.now place)
    → slice_get c.rows.now place ≡ Some (run_row c row e)
run_shows c run row place e at own shared =
    let shown = run.shown row e at in
    row_shown c.world.now c.query.now c.rows.now place e c.entries.now (map (shown_in row) c.columns.items) run.rows own
    (sym shared ∙ shown.entries) shown.values

-- whoever is sought, the columns stay
pub moved : (c : RowColumns) (e : Entity) (row : ℕ) → IsRun c → IsRun (record c { entity = e; row = row })
moved c e row run = record {
  rows = run.rows;
  shown = λ k a at. let s = run.shown k a at in record { there = s.there; entries = s.entries; values = s.values };
}

-- ---- columns that were looked for

-- where an entity stands nowhere it has no values
no_value : (b : Bool) (o : Option Value) → o ≡ None → None ≡ (if b then o else None)
no_value true o none = sym none
no_value false o none = refl

dead_values : (w : WorldState) (e : Entity) → record_of w e ≡ None → (i : Id) → None ≡ value_of w e i
dead_values w e dead i =
    no_value (is_some (arity w i)) (find id_cmp i (unwrap_or (option_map (λ (r : Record). r.held) (record_of w e)) []))
    (ap (λ (o : Option Record). find id_cmp i (unwrap_or (option_map (λ (r : Record). r.held) o) [])) dead)

module _ (w : WorldState) (q : List QuerySlot) (rows : List ValuedRow) (place : ℕ) (e : Entity) (entries : List (Option Id)) (items : List Column)
    (are : rows ≡ valued_rows w q) (there : place < length rows) (own : option_map (λ (r : ValuedRow). r.entity) (slice_get rows place) ≡ Some e)
    (listed : option_map (λ (r : ValuedRow). r.entries) (slice_get rows place) ≡ Some entries) where
  -- they show what the world has, of whoever stands in the table
  found_shows : (found : Option (TableRows × ℕ)) → IfSome found (λ x. LendsRows w x.0)
      → ((row : ℕ) → map (shown_in row) items ≡ entry_values (lent_in found row) q entries)
      → (row : ℕ) (a : Entity) → slice_get (entities_in found) row ≡ Some a → map (shown_in row) items ≡ entry_values (value_of w a) q entries
  found_shows None lent made row a at = absurd (none-some a at)
  found_shows (Some x) lent made row a at =
      made row ∙ sym (same_values (value_of w a) (lent_in (Some x) row) (lent row a at) q entries)

  -- and of the entity for which they were looked for
  pub own_shown : (found : Option (TableRows × ℕ)) (row : ℕ) → IfNone found (record_of w e ≡ None) → IfSome found (λ x. LendsRows w x.0)
      → IfSome found (λ x. slice_get x.0.entities.now x.1 ≡ Some e) → IfSome found (λ x. row ≡ x.1)
      → ((row : ℕ) → map (shown_in row) items ≡ entry_values (lent_in found row) q entries)
      → slice_get rows place ≡ Some (record { entity = e; entries = entries; values = map (shown_in row) items })
  own_shown None row dead lent at is made =
      row_shown w q rows place e entries (map (shown_in row) items) are own listed
      (made row ∙ same_values (lent_in None row) (value_of w e) (dead_values w e dead) q entries)
  own_shown (Some x) row dead lent at is made =
      row_shown w q rows place e entries (map (shown_in row) items) are own listed
      (found_shows (Some x) lent made row e (ap (slice_get x.0.entities.now) is ∙ at))

-- ---- sums where a column is not there

pub nothing_at : (row : ℕ) (columns : List Column) (k : ℕ) → IsItemAt columns k None → None ≡ item_at (map (shown_in row) columns) k
nothing_at row columns k at =
    ap (λ (o : Option Column). unwrap_or (option_map (shown_in row) o) None) (found columns k None at)
    ∙ ap (λ (o : Option (Option Value)). unwrap_or o None) (sym (slice_get-map (shown_in row) columns k))

pub no_sum : (v : Option Value) → None ≡ sum_of_both v None
no_sum None = refl
no_sum (Some v) = refl

nothing_set : (f : Value → Command) (commands : List Command) (sum : Option Value) → None ≡ sum
    → commands ≡ commands ++ option_to_list (option_map f sum)
nothing_set f commands sum is =
    sym (append-nil commands) ∙ ap (λ (o : Option Value). commands ++ option_to_list (option_map f o)) is

module _ (f : Value → Command) (commands : List Command) (row : ℕ) (columns : List Column) (into from : ℕ) where
  abbrev shown : ℕ → Option Value
  shown k = item_at (map (shown_in row) columns) k

  pub none_into : IsItemAt columns into None → commands ≡ commands ++ option_to_list (option_map f (sum_of_both (shown into) (shown from)))
  none_into at =
      nothing_set f commands (sum_of_both (shown into) (shown from))
      (ap (λ (o : Option Value). sum_of_both o (shown from)) (nothing_at row columns into at))

  pub none_from : IsItemAt columns from None → commands ≡ commands ++ option_to_list (option_map f (sum_of_both (shown into) (shown from)))
  none_from at =
      nothing_set f commands (sum_of_both (shown into) (shown from))
      (no_sum (shown into) ∙ ap (λ (o : Option Value). sum_of_both (shown into) o) (nothing_at row columns from at))
