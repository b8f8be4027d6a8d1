-- What is data has fields in the tables, and so its values are found there.
use Rattle.eco_world.proofs.Common.{◌≡◌, ◌≤◌, ◌<◌, ℕ, Bool, true, false, not, ◌&&◌, ◌||◌, ◌==◌, nat_lt, List, [], ◌∷◌}
use Rattle.eco_world.proofs.Common.{get_or, length, Option, None, Some, is_some, option_and_then, option_map, unwrap_or, if◌then◌else◌, IfSome, IsSome}
use Rattle.eco_world.proofs.Common.{IsTrue, MatchOption, arith, refl, sym, ap, subst, ◌∙◌, true≢false, option_or, find, nat_tests, none-some, Entity}
use Rattle.eco_world.proofs.Common.{Id, One, Two, Value, FIELD_COUNT, is_builtin, arity, arity_of, is_zero_past, value_of, IsLawful, is_proper_arity, id_cmp}
use Rattle.eco_world.proofs.Common.{id_eq, has_item, WorldState, Record, entities, held_by, record_of, second, id_eq_sym, TableState, TableRow, paired}
use Rattle.eco_world.proofs.Common.{width_in, no_row, KeepsData, Stands}
use Rattle.eco_entities.specs.Needs.{fields_for}
use Rattle.eco_tables.specs.Kept.{IsUnkept}
use Rattle.eco_world.specs.Refs.{StandsInRow}
use Rattle.eco_store.specs.Store as store

-- ---- an arity is one field at least

proper_wide : (w : WorldState) (o : Option ℕ) → IsTrue (is_proper_arity w.edition o) → is_some o ≡ true → 1 ≤ fields_for o
proper_wide w o proper some = grind arith

own_wide : (w : WorldState) → IsLawful w → (e : Entity) → is_some (arity_of w e) ≡ true → 1 ≤ fields_for (arity_of w e)
own_wide w lawful e = by (record_of w e) refl
  where
    by : (o : Option Record) → record_of w e ≡ o → is_some (option_and_then (λ (r : Record). r.arity) o) ≡ true
        → 1 ≤ fields_for (option_and_then (λ (r : Record). r.arity) o)
    by None at some = absurd (true≢false (sym some))
    by (Some r) at some = proper_wide w r.arity (lawful.orderly.records e r at).arity some

-- what is data has a field at least, as the store has it
pub data_wide : (w : WorldState) → IsLawful w → (i : Id) → is_some (arity w i) ≡ true → 1 ≤ fields_for (store.arity_in_store (entities w) i)
data_wide w lawful (One e) some = own_wide w lawful e some
data_wide w lawful (Two r t) some = by (is_builtin w r) some
  where
    either : (o : Option ℕ) → arity_of w r ≡ o → is_some (option_or o (arity_of w t)) ≡ true → 1 ≤ fields_for (option_or o (arity_of w t))
    either None at some = own_wide w lawful t some
    either (Some n) at some = subst (λ o. 1 ≤ fields_for o) at (own_wide w lawful r (ap is_some at))

    by : (b : Bool) → is_some (if b then None else option_or (arity_of w r) (arity_of w t)) ≡ true
        → 1 ≤ fields_for (option_or (arity_of w r) (arity_of w t))
    by true none = absurd (true≢false (sym none))
    by false some = either (arity_of w r) refl some

-- ---- a value that is read in a row

-- what a search of the row's columns finds is the entity's value
value_kept : (w : WorldState) → IsLawful w → (e : Entity) (i : Id) (t : TableState) (row : ℕ) (v : Option Value)
    → Stands (record_of w e) t row → KeepsData (entities w) t → is_some (arity w i) ≡ true
    → MatchOption v (IsUnkept t row i) (λ x. (r : TableRow) → find id_cmp i (get_or t.rows row r).held ≡ Some x) → v ≡ value_of w e i
value_kept w lawful e i t row v stands kept some found =
    held (record_of w e) stands
    ∙ sym (ap (λ b. if b then find id_cmp i (unwrap_or (option_map (λ (r : Record). r.held) (record_of w e)) []) else None) some)
  where
    held : (o : Option Record) → Stands o t row → v ≡ find id_cmp i (unwrap_or (option_map (λ (r : Record). r.held) o) [])
    held None there = absurd there
    held (Some k) there = by v found
      where
        absent : (o : Option ℕ) → width_in t i ≡ o
            → MatchOption o ((r : TableRow) → find id_cmp i (get_or t.rows row r).held ≡ None) (λ n. n ≡ 0) → None ≡ find id_cmp i k.held
        absent None at none = sym (ap (find id_cmp i) (there.held no_row) ∙ none no_row)
        absent (Some n) at none =
            let wide = kept i n at in
            let least = data_wide w lawful i some in
            absurd (omega (arith, none))

        by : (o : Option Value) → MatchOption o (IsUnkept t row i) (λ x. (r : TableRow) → find id_cmp i (get_or t.rows row r).held ≡ Some x)
            → o ≡ find id_cmp i k.held
        by None unkept = absent (width_in t i) refl unkept
        by (Some x) at = sym (ap (find id_cmp i) (there.held no_row) ∙ at no_row)

-- an id that is no data has only zeros
zeros_only : (w : WorldState) → IsLawful w → (e : Entity) (i : Id) (v : Value) → is_some (arity w i) ≡ false → find id_cmp i (held_by w e) ≡ Some v
    → is_zero_past 0 v ≡ true
zeros_only w lawful e i v no_data = by (record_of w e) refl
  where
    no_arity : (o : Option ℕ) → is_some o ≡ false → unwrap_or o 0 ≡ 0
    no_arity None h = refl
    no_arity (Some n) h = absurd (true≢false h)

    by : (o : Option Record) → record_of w e ≡ o → find id_cmp i (unwrap_or (option_map (λ (r : Record). r.held) o) []) ≡ Some v
        → is_zero_past 0 v ≡ true
    by None at found = absurd (none-some v found)
    by (Some r) at found =
        subst (λ n. is_zero_past n v ≡ true) (no_arity (arity w i) no_data)
        (second (length v.0 == FIELD_COUNT) _ ((lawful.orderly.records e r at).values i v found))

-- an id that is no data has no value
no_value : (w : WorldState) (e : Entity) (i : Id) → is_some (arity w i) ≡ false → None ≡ value_of w e i
no_value w e i no_data = sym (ap (λ b. if b then find id_cmp i (held_by w e) else None) no_data)

-- who lives stands where the store has it
pub stands_in : {X : Type 0} (o : Option X) (P : Type 0) (A B C : X → Type 0) → ((x : X) → A x → B x → C x) → MatchOption o P A
    → IfSome o B → MatchOption o P C
stands_in None P A B C each none some = none
stands_in (Some x) P A B C each a b = each x a b

-- what a search of the row's columns finds is the entity's value, unless it is zeros of an id that is no data
pub value_read : (w : WorldState) → IsLawful w → (e : Entity) (i : Id) (t : TableState) (row : ℕ) (v : Option Value) → StandsInRow w e t row
    → MatchOption v (IsUnkept t row i) (λ x. (r : TableRow) → find id_cmp i (get_or t.rows row r).held ≡ Some x)
    → MatchOption v (Unit {0}) (λ x. (not (is_zero_past 0 x) || is_some (arity w i)) ≡ true) → v ≡ value_of w e i
value_read w lawful e i t row v at found other = by (is_some (arity w i)) refl
  where
    held : (o : Option Record) → Stands o t row
        → find id_cmp i (unwrap_or (option_map (λ (r : Record). r.held) o) []) ≡ find id_cmp i (get_or t.rows row no_row).held
    held None there = absurd there
    held (Some k) there = ap (find id_cmp i) (there.held no_row)

    no_data : is_some (arity w i) ≡ false → (o : Option Value)
        → MatchOption o (IsUnkept t row i) (λ x. (r : TableRow) → find id_cmp i (get_or t.rows row r).held ≡ Some x)
        → MatchOption o (Unit {0}) (λ x. (not (is_zero_past 0 x) || is_some (arity w i)) ≡ true) → o ≡ None
    no_data none None unkept h = refl
    no_data none (Some x) is h =
        let zero = zeros_only w lawful e i x none (held (record_of w e) at.stands ∙ is no_row) in
        absurd (true≢false (sym h ∙ ap (λ b. not b || is_some (arity w i)) zero ∙ none))

    by : (b : Bool) → is_some (arity w i) ≡ b → v ≡ value_of w e i
    by true some = value_kept w lawful e i t row v at.stands at.kept some found
    by false none = no_data none v found other ∙ no_value w e i none

-- ---- columns that are lent

unpaired : (ids : List Id) (ws : List ℕ) (i : Id) → has_item id_cmp ids i ≡ false → find id_cmp i (paired ids ws) ≡ None
unpaired [] ws i none = refl
unpaired (j ∷ js) [] i none = refl
unpaired (j ∷ js) (n ∷ ws) i none = by (id_eq j i) refl (unpaired js ws i)
  where
    by : (b : Bool) → id_eq j i ≡ b → (has_item id_cmp js i ≡ false → find id_cmp i (paired js ws) ≡ None)
        → find id_cmp i (paired (j ∷ js) (n ∷ ws)) ≡ None
    by true e rest = let bad = rw e at none in absurd (true≢false bad)
    by false e rest =
        let later = rw e at none in
        let back : id_eq i j ≡ false = id_eq_sym i j ∙ e in
        rw back (rest later)

-- a table that keeps fields of its data lends the values of exactly those of its ids
pub data_lent : (w : WorldState) → IsLawful w → (t : TableState) → KeepsData (entities w) t
    → ((i : Id) → has_item id_cmp t.ids i ≡ true → IsSome (width_in t i)) → (i : Id)
    → (is_some (arity w i) && nat_lt 0 (unwrap_or (width_in t i) 0)) ≡ (has_item id_cmp t.ids i && is_some (arity w i))
data_lent w lawful t kept whole i = by (is_some (arity w i)) refl (has_item id_cmp t.ids i) refl
  where
    wide : (o : Option ℕ) → width_in t i ≡ o → IsSome o → is_some (arity w i) ≡ true → nat_lt 0 (unwrap_or o 0) ≡ true
    wide None at there some = absurd (true≢false (sym there))
    wide (Some n) at there some =
        let own = kept i n at in
        let least = data_wide w lawful i some in
        let positive : 0 < n = omega arith in
        grind (arith, nat_tests)

    by : (b : Bool) → is_some (arity w i) ≡ b → (h : Bool) → has_item id_cmp t.ids i ≡ h → (b && nat_lt 0 (unwrap_or (width_in t i) 0)) ≡ (h && b)
    by false e true there = refl
    by false e false there = refl
    by true e true there = wide (width_in t i) refl (whole i there) e
    by true e false there = ap (λ o. nat_lt 0 (unwrap_or o 0)) (unpaired t.ids t.widths i there)
