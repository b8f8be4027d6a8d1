-- Entities die, and ids go from the types of the others.
use Rattle.eco_traits.proofs.CleanupCommon.{◌≡◌, ◌≢◌, ℕ, suc, ◌+◌, Bool, true, false, true≢false, cond, not, ◌||◌, T, List, [], ◌∷◌}
use Rattle.eco_traits.proofs.CleanupCommon.{map, filter, fold, get_or, slice_get, Some, unwrap_or, nat_lt, IsTrue, refl, sym, ap, ◌∙◌, arith, All, Contains}
use Rattle.eco_traits.proofs.CleanupCommon.{list_any, find, where_key, is_sorted, false_from_ne_true, Entity, Id, Indexed, IndexState, Retired, Free, Living}
use Rattle.eco_traits.proofs.CleanupCommon.{map_from, map_state, raised, record_of, keeping, left_at, id_cmp, is_ascending, Record, zeros, first_T, second_T, apart}
use Rattle.eco_traits.proofs.CleanupCommon.{sorted_is, keys, keys_find, id_eq_itself, to_T, keeps_all, record_ids, with_type, TypeChange, TakesOut, TakesOutOfAll}
use Rattle.std.proofs.lemmas.Map.Made.{Contains-tail}
use Rattle.std.proofs.lemmas.List.Elements.{All-contains, All-head, All-map, All-tail}
use Rattle.eco_ids.specs.declared.value.Value.{Value}
use Rattle.eco_ids.proofs.SameIds.{same_ids-Decides}
use Rattle.eco_ids.proofs.States.{record_at}
use Rattle.eco_tables.specs.Column.{value_in, retyped}
use Rattle.eco_index.specs.TypeMap.{same_ids}
use Rattle.eco_archetypes.specs.Deaths.{after_deaths, death_at}
use Rattle.eco_archetypes.specs.Retyping.{after_change, after_changes, changed_record, IsOneWay}
use Rattle.eco_traits.proofs.Standing.{any_id}

abbrev Held : Type 0
Held = List (Id × Value)

-- ---- values under some of their ids

-- what has the old values is the old under its own ids
pub retyped_part : (test : Id → Bool) (part old : Held) → T (is_sorted id_cmp part)
    → ((i : Id) (v : Value) → find id_cmp i part ≡ Some v → value_in old i ≡ v)
    → retyped (filter test (keys part)) old ≡ where_key id_cmp test part
retyped_part test [] old up values = refl
retyped_part test (p ∷ part) old up values =
    by (test p.0) (values p.0 p.1 (ap (λ b. cond b (Some p.1) (find id_cmp p.0 part)) (id_eq_itself p.0)))
    (retyped_part test part old (second_T _ _ up)
    (λ i v at. values i v (ap (λ b. cond b (Some p.1) (find id_cmp i part)) (apart i p part v (first_T _ _ up) at) ∙ at)))
  where
    by : (b : Bool) → value_in old p.0 ≡ p.1 → retyped (filter test (keys part)) old ≡ where_key id_cmp test part
        → retyped (cond b (p.0 ∷ filter test (keys part)) (filter test (keys part))) old ≡ cond b (p ∷ where_key id_cmp test part) (where_key id_cmp test part)
    by true own rest = ap (λ v. (p.0, v) ∷ retyped (filter test (keys part)) old) own ∙ ap (λ held. p ∷ held) rest
    by false own rest = rest

ids_retyped : (ids : List Id) (held : Held) → keys (retyped ids held) ≡ ids
ids_retyped [] held = refl
ids_retyped (i ∷ ids) held = ap (λ xs. i ∷ xs) (ids_retyped ids held)

-- ---- one record

-- after all changes
abbrev all_changed : List TypeChange → Record → Record
all_changed cs r = fold (λ x c. changed_record c x) r cs

other_type : (c : TypeChange) (r : Record) → record_ids r ≢ c.from → changed_record c r ≡ r
other_type c r other =
    ap (λ b. cond b (with_type c.to r) r)
    (false_from_ne_true (same_ids (record_ids r) c.from) (λ same. other ((same_ids-Decides (record_ids r) c.from).0 same)))

module _ (goes : Id → Bool) where
  abbrev stays : Id → Bool
  stays i = not (goes i)

  none_stays : (ids : List Id) → list_any goes (filter stays ids) ≡ false
  none_stays [] = refl
  none_stays (j ∷ ids) = by (goes j) refl (none_stays ids)
    where
      by : (b : Bool) → goes j ≡ b → list_any goes (filter stays ids) ≡ false
          → list_any goes (cond (not b) (j ∷ filter stays ids) (filter stays ids)) ≡ false
      by true is rest = rest
      by false is rest = ap (λ b. b || list_any goes (filter stays ids)) is ∙ rest

  lacks_to : (c : TypeChange) → TakesOut goes c → list_any goes c.to ≡ false
  lacks_to c out = ap (list_any goes) out.taken ∙ none_stays c.from

  -- no type comes that goes
  pub taken_one_way : (cs : List TypeChange) → All (TakesOut goes) cs → IsOneWay cs
  taken_one_way cs each k c within j d inside same =
      true≢false (sym (each j d inside).there ∙ ap (list_any goes) (sym same) ∙ lacks_to (get_or cs k c) (each k c within))

  -- who has no id that goes
  lacking : (cs : List TypeChange) (r : Record) → All (TakesOut goes) cs → list_any goes (record_ids r) ≡ false → all_changed cs r ≡ r
  lacking [] r each lacks = refl
  lacking (c ∷ cs) r each lacks =
      let other : record_ids r ≢ c.from = λ same. true≢false (sym (All-head (TakesOut goes) c cs each).there ∙ ap (list_any goes) (sym same) ∙ lacks) in
      ap (all_changed cs) (other_type c r other) ∙ lacking cs r (All-tail (TakesOut goes) c cs each) lacks

  -- who has one
  having : (cs : List TypeChange) (r : Record) → All (TakesOut goes) cs → Contains (map (λ (c : TypeChange). c.from) cs) (record_ids r)
      → all_changed cs r ≡ with_type (filter stays (record_ids r)) r
  having [] r each among = absurd (omega (arith, among.1))
  having (c ∷ cs) r each among =
      by (same_ids (record_ids r) c.from) refl
      (λ other. having cs r (All-tail (TakesOut goes) c cs each) (Contains-tail c.from (map (λ (x : TypeChange). x.from) cs) (record_ids r) other among))
    where
      by : (b : Bool) → same_ids (record_ids r) c.from ≡ b → (c.from ≢ record_ids r → all_changed cs r ≡ with_type (filter stays (record_ids r)) r)
          → all_changed (c ∷ cs) r ≡ with_type (filter stays (record_ids r)) r
      by true is later =
          let here = All-head (TakesOut goes) c cs each in
          let same : record_ids r ≡ c.from = (same_ids-Decides (record_ids r) c.from).0 is in
          let lacks : list_any goes (record_ids (with_type c.to r)) ≡ false = ap (list_any goes) (ids_retyped c.to r.held) ∙ lacks_to c here in
          ap (λ b. all_changed cs (cond b (with_type c.to r) r)) is ∙ lacking cs (with_type c.to r) (All-tail (TakesOut goes) c cs each) lacks
          ∙ ap (λ ids. with_type ids r) (here.taken ∙ ap (filter stays) (sym same))
      by false is later =
          let other : record_ids r ≢ c.from = λ same. true≢false (sym ((same_ids-Decides (record_ids r) c.from).1 same) ∙ is) in
          ap (all_changed cs) (other_type c r other) ∙ later (λ e. other (sym e))

  -- where no id goes all stay
  none_goes : (r : Record) → list_any goes (record_ids r) ≡ false → r ≡ keeping goes r
  none_goes r none = sym (keeps_all goes r (λ i there. false_from_ne_true (goes i) (λ is.
      true≢false (sym (any_id goes (record_ids r) i (sym (keys_find r.held i) ∙ there) is) ∙ none))))

-- ---- all of them

states_twice : (f g : Record → Record) (xs : List (IndexState Record)) → map (map_state g) (map (map_state f) xs) ≡ map (map_state (λ r. g (f r))) xs
states_twice f g [] = refl
states_twice f g (Retired ∷ xs) = ap (λ ys. Retired ∷ ys) (states_twice f g xs)
states_twice f g (Free n ∷ xs) = ap (λ ys. Free n ∷ ys) (states_twice f g xs)
states_twice f g (Living n r ∷ xs) = ap (λ ys. Living n (g (f r)) ∷ ys) (states_twice f g xs)

states_same : (xs : List (IndexState Record)) → xs ≡ map (map_state (λ r. r)) xs
states_same [] = refl
states_same (Retired ∷ xs) = ap (λ ys. Retired ∷ ys) (states_same xs)
states_same (Free n ∷ xs) = ap (λ ys. Free n ∷ ys) (states_same xs)
states_same (Living n r ∷ xs) = ap (λ ys. Living n r ∷ ys) (states_same xs)

-- changes after changes, entity by entity
changes_are : (v : Indexed Record) (cs : List TypeChange) → after_changes v cs ≡ record v { indices = map (map_state (all_changed cs)) v.indices }
changes_are v [] = ap (λ xs. record v { indices = xs }) (states_same v.indices)
changes_are v (c ∷ cs) = changes_are (after_change v c) cs
    ∙ ap (λ xs. record v { indices = xs }) (states_twice (changed_record c) (all_changed cs) v.indices)

module _ (dies : Entity → Bool) (goes : Id → Bool) (f : Record → Record) where
  still_raised : (g : ℕ) → map_state f (raised g) ≡ raised g
  still_raised g = elim (nat_lt g 65535) as (λ b. map_state f (cond b (Free (g + 1)) Retired) ≡ cond b (Free (g + 1)) Retired) [ true ↦ refl | false ↦ refl ]

  -- at an index
  left_one : (n : ℕ) (x : IndexState Record)
      → ((g : ℕ) (r : Record) → x ≡ Living g r → dies (record { index = n; generation = g }) ≡ false → f r ≡ keeping goes r)
      → map_state f (death_at dies n x) ≡ left_at dies (λ e. goes) n x
  left_one n Retired alike = refl
  left_one n (Free g) alike = refl
  left_one n (Living g r) alike = by (dies (record { index = n; generation = g })) refl
    where
      by : (b : Bool) → dies (record { index = n; generation = g }) ≡ b
          → map_state f (cond b (raised g) (Living g r)) ≡ cond b (raised g) (Living g (keeping goes r))
      by true is = still_raised g
      by false is = ap (Living g) (alike g r refl is)

  left_alike : (n : ℕ) (xs : List (IndexState Record))
      → ((j m g : ℕ) (r : Record) → m ≡ n + j → slice_get xs j ≡ Some (Living g r) → dies (record { index = m; generation = g }) ≡ false → f r ≡ keeping goes r)
      → map (map_state f) (map_from (death_at dies) n xs) ≡ map_from (left_at dies (λ e. goes)) n xs
  left_alike n [] alike = refl
  left_alike n (x ∷ xs) alike =
      ap (λ y. y ∷ map (map_state f) (map_from (death_at dies) (n + 1) xs)) (left_one n x (λ g r is. alike 0 n g r (omega arith) (ap Some is)))
      ∙ ap (λ ys. left_at dies (λ e. goes) n x ∷ ys) (left_alike (n + 1) xs (λ j m g r at. alike (suc j) m g r (omega (arith, at))))

-- whoever dies is dead, and the others keep the ids that don't go
pub all_left : (v : Indexed Record) (dies : Entity → Bool) (goes : Id → Bool) (cs : List TypeChange) → TakesOutOfAll v dies goes cs
    → after_changes (after_deaths v dies) cs ≡ record v { indices = map_from (left_at dies (λ e. goes)) 0 v.indices }
all_left v dies goes cs takes =
    changes_are (after_deaths v dies) cs
    ∙ ap (λ xs. record v { indices = xs })
    (left_alike dies goes (all_changed cs) 0 v.indices (λ j m g r at living. one (record { index = m; generation = g }) r (there j m g r at living)))
  where
    there : (j m g : ℕ) (r : Record) → m ≡ 0 + j → slice_get v.indices j ≡ Some (Living g r)
        → record_of v (record { index = m; generation = g }) ≡ Some r
    there j m g r at living =
        let same : m ≡ j = omega (arith, at) in
        record_at v (record { index = m; generation = g }) r (ap (slice_get v.indices) same ∙ living)

    ascending : (r : Record) → Contains (map (λ (c : TypeChange). c.from) cs) (record_ids r) → IsTrue (is_ascending id_cmp (record_ids r))
    ascending r among =
        All-contains (λ ids. IsTrue (is_ascending id_cmp ids)) (map (λ (c : TypeChange). c.from) cs) (record_ids r)
        (All-map (λ ids. IsTrue (is_ascending id_cmp ids)) (λ (c : TypeChange). c.from) cs takes.ascend) among

    one : (e : Entity) (r : Record) → record_of v e ≡ Some r → dies e ≡ false → all_changed cs r ≡ keeping goes r
    one e r at lives = by (list_any goes (record_ids r)) refl
      where
        by : (b : Bool) → list_any goes (record_ids r) ≡ b → all_changed cs r ≡ keeping goes r
        by true some =
            let among = takes.all e r at lives some in
            having goes cs r takes.each among
            ∙ ap (λ held. record r { held = held })
            (retyped_part (λ i. not (goes i)) r.held r.held (to_T (is_sorted id_cmp r.held) (sorted_is r.held ∙ ascending r among))
            (λ i v found. ap (λ o. unwrap_or o zeros) found))
        by false none = lacking goes cs r takes.each none ∙ none_goes goes r none
