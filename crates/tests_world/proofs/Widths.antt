-- Tables whose ids have two fields each keep them so, while rows come and go.
use Rattle.std.proofs.Common.{◌≡◌, ◌≢◌, ℕ, Bool, true, false, cond, List, [], ◌∷◌, Option, Some, None, unwrap_or, sym, ap, ◌∙◌, subst}
use Rattle.std.specs.FinMap.Entries.{find}
use Rattle.eco_ids.specs.declared.id.Id.{Id}
use Rattle.eco_ids.specs.declared.value.Value.{Value}
use Rattle.eco_ids.specs.Order.{id_cmp, id_eq}
use Rattle.eco_tables.specs.Column.{Fits}
use Rattle.eco_tables.specs.Table.{TableState, paired, FitsId, Agree}
use Rattle.eco_tables.specs.Tables.{slot_of, table_in, no_table, SetsSlot}

-- the table has one width, of two fields
abbrev pub HasTwo : List (Option TableState) → ℕ → Type 0
HasTwo s n = (table_in s n).widths ≡ 2 ∷ []

module _ (s s' : List (Option TableState)) where
  pub two_set : (n : ℕ) (t : TableState) → SetsSlot s s' n (Some t) → t.widths ≡ 2 ∷ [] → HasTwo s' n
  two_set n t sets is = ap (λ o. (unwrap_or o no_table).widths) sets.changed ∙ is

  pub two_kept : (n m : ℕ) (o : Option TableState) → SetsSlot s s' n o → m ≢ n → HasTwo s m → HasTwo s' m
  two_kept n m o sets apart is = ap (λ x. (unwrap_or x no_table).widths) (sets.others m apart) ∙ is

-- a slot with a table is no empty one
pub different : (s : List (Option TableState)) (n m : ℕ) (t : TableState) → slot_of s n ≡ Some t → slot_of s m ≡ None → n ≢ m
different s n m t full empty same = let bad : ◌≡◌ {A = Option TableState} (Some t) None = sym full ∙ ap (slot_of s) same ∙ empty in cc

two_found : (ids : List Id) (i : Id) (n : ℕ) → find id_cmp i (paired ids (2 ∷ [])) ≡ Some n → n ≡ 2
two_found [] i n e = absurd (cc)
two_found (j ∷ js) i n e = by js (id_eq i j) e
  where
    by : (ks : List Id) (b : Bool) → cond b (Some 2) (find id_cmp i (paired ks [])) ≡ Some n → n ≡ 2
    by ks true h = cc
    by [] false h = absurd (cc)
    by (k ∷ ks) false h = absurd (cc)

width_two : (t : TableState) (i : Id) (n : ℕ) → t.widths ≡ 2 ∷ [] → find id_cmp i (paired t.ids t.widths) ≡ Some n → n ≡ 2
width_two t i n is e = two_found t.ids i n (subst (λ ws. find id_cmp i (paired t.ids ws) ≡ Some n) is e)

pub two_fit : (s : List (Option TableState)) (slot : ℕ) (i : Id) (v : Value) → HasTwo s slot → Fits 2 v → FitsId (table_in s slot) i v
two_fit s slot i v is fits n e = subst (λ k. Fits k v) (sym (width_two (table_in s slot) i n is e)) fits

pub two_agree : (s : List (Option TableState)) (a b : ℕ) → HasTwo s a → HasTwo s b → Agree (table_in s a) (table_in s b)
two_agree s a b is_a is_b i m n p q = width_two (table_in s a) i m is_a p ∙ sym (width_two (table_in s b) i n is_b q)
