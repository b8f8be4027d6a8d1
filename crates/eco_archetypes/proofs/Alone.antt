-- A table of one row takes the type of its next step, or another table has that.
use Rattle.eco_archetypes.proofs.Common.{◌≡◌, ◌≢◌, ℕ, true, false, true≢false, cond, List, Option, Some, None, IfSome, IfNone, is_some, sym, ap, ◌∙◌, subst}
use Rattle.eco_archetypes.proofs.Common.{Id, id_cmp, has_item, with_item, without_item, toggled, TableState, table_in, type_at, TakesType}

pub some_is : {X : Type 0} (o : Option X) (P : X → Type 0) → is_some o ≡ true → IfSome o P → (x : X) × P x
some_is None P there h = absurd (true≢false (sym there))
some_is (Some x) P there h = (x, h)

none_is : {X P : Type 0} (o : Option X) → is_some o ≡ false → IfNone o P → P
none_is None none h = h
none_is (Some x) none h = absurd (true≢false none)

with_is : (ids : List Id) (i : Id) → has_item id_cmp ids i ≡ false → toggled ids i ≡ with_item id_cmp ids i
with_is ids i lacks = ap (λ b. cond b (without_item id_cmp ids i) (with_item id_cmp ids i)) lacks

without_is : (ids : List Id) (i : Id) → has_item id_cmp ids i ≡ true → toggled ids i ≡ without_item id_cmp ids i
without_is ids i has = ap (λ b. cond b (without_item id_cmp ids i) (with_item id_cmp ids i)) has

-- the search for that type changed nothing
module _ (s s' : List (Option TableState)) (n : ℕ) (i : Id) (same : s' ≡ s) where
  abbrev own : List Id
  own = (table_in s' n).ids

  took : (s2 : List (Option TableState)) (ids : List Id) → toggled own i ≡ ids → TakesType s' s2 n ids → TakesType s s2 n (toggled (table_in s n).ids i)
  took s2 ids is takes = subst (λ x. TakesType x s2 n (toggled (table_in x n).ids i)) same (subst (TakesType s' s2 n) (sym is) takes)

  pub took_with : (s2 : List (Option TableState)) → has_item id_cmp own i ≡ false → TakesType s' s2 n (with_item id_cmp own i)
      → TakesType s s2 n (toggled (table_in s n).ids i)
  took_with s2 lacks takes = took s2 (with_item id_cmp own i) (with_is own i lacks) takes

  pub took_without : (s2 : List (Option TableState)) → has_item id_cmp own i ≡ true → TakesType s' s2 n (without_item id_cmp own i)
      → TakesType s s2 n (toggled (table_in s n).ids i)
  took_without s2 has takes = took s2 (without_item id_cmp own i) (without_is own i has) takes

  module _ (o : Option ℕ) (none : is_some o ≡ false) (absent : IfNone o ((k : ℕ) → type_at s k ≢ Some (toggled (table_in s n).ids i))) where
    absent_as : (ids : List Id) → toggled own i ≡ ids → (k : ℕ) → type_at s' k ≢ Some ids
    absent_as ids is k typed =
        none_is o none absent k (ap (λ x. type_at x k) (sym same) ∙ typed ∙ ap Some (sym is ∙ ap (λ x. toggled (table_in x n).ids i) same))

    pub absent_with : has_item id_cmp own i ≡ false → (k : ℕ) → type_at s' k ≢ Some (with_item id_cmp own i)
    absent_with lacks = absent_as (with_item id_cmp own i) (with_is own i lacks)

    pub absent_without : has_item id_cmp own i ≡ true → (k : ℕ) → type_at s' k ≢ Some (without_item id_cmp own i)
    absent_without has = absent_as (without_item id_cmp own i) (without_is own i has)
