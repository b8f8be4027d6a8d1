-- The built-ins are made one by one, and nothing but memory stands against that.
use Rattle.eco_world.proofs.Common.{◌≡◌, ℕ, zero, suc, ◌+◌, ◌<◌, Bool, cond, List, [], ◌∷◌, ◌++◌, length, take, Option, Some, None}
use Rattle.eco_world.proofs.Common.{Ok, Err, Result, MatchOption, nat_lt, refl, sym, ap, ◌∙◌, subst, arith, lt-ltb, le-ltb, add-one, option_or, Entity}
use Rattle.eco_world.proofs.Common.{Id, Refusal, OutOfMemory, NoMoreIds, Makes, unfit_name, Indexed, IndexState, Living, lowest_free, next_entity, with_new}
use Rattle.eco_world.proofs.Common.{Meets, Answers, Refuses, Record, builtin_states, world_of_edition, builtin_count, Edition, First, Second, world_with}
use Rattle.eco_world.proofs.Common.{first_entities, builtin_name, builtin_type, record_name, newborn}
use Rattle.eco_ids.specs.Indices.{with_record}

-- the states of the first built-ins
abbrev builtins_below : ℕ → List (IndexState Record)
builtins_below n = take n (builtin_states Second)

-- what is so of the first built-ins, when the next one comes
record IsNext (limit k : ℕ) (name : Option (List ℕ)) (ids : List Id) : Type 0 where
  fit : unfit_name record_name (first_entities limit k) name ≡ None
  none_free : lowest_free 0 (builtins_below k) ≡ None
  count : length (builtins_below k) ≡ k
  more : builtins_below k ++ Living 0 (newborn name None ids) ∷ [] ≡ builtins_below (suc k)

is_next : (limit k : ℕ) → k < 10 → IsNext limit k (builtin_name k) (builtin_type k)
is_next limit zero l = record { fit = refl; none_free = refl; count = refl; more = refl }
is_next limit (suc zero) l = record { fit = refl; none_free = refl; count = refl; more = refl }
is_next limit (suc (suc zero)) l = record { fit = refl; none_free = refl; count = refl; more = refl }
is_next limit (suc (suc (suc zero))) l = record { fit = refl; none_free = refl; count = refl; more = refl }
is_next limit (suc (suc (suc (suc zero)))) l = record { fit = refl; none_free = refl; count = refl; more = refl }
is_next limit (suc (suc (suc (suc (suc zero))))) l = record { fit = refl; none_free = refl; count = refl; more = refl }
is_next limit (suc (suc (suc (suc (suc (suc zero)))))) l = record { fit = refl; none_free = refl; count = refl; more = refl }
is_next limit (suc (suc (suc (suc (suc (suc (suc zero))))))) l = record { fit = refl; none_free = refl; count = refl; more = refl }
is_next limit (suc (suc (suc (suc (suc (suc (suc (suc zero)))))))) l = record { fit = refl; none_free = refl; count = refl; more = refl }
is_next limit (suc (suc (suc (suc (suc (suc (suc (suc (suc zero))))))))) l = record { fit = refl; none_free = refl; count = refl; more = refl }
is_next limit (suc (suc (suc (suc (suc (suc (suc (suc (suc (suc k)))))))))) l = absurd (omega arith)

not_done : (why : Refusal) (e : Entity) → Err why ≡ Ok e → ⊥
not_done why e h = cc

module _ (limit k : ℕ) (name : Option (List ℕ)) (ids : List Id) (below : k < limit) (within : k < 10) (is : name ≡ builtin_name k)
    (typed : ids ≡ builtin_type k) where
  next : IsNext limit k name ids
  next = subst (λ n. IsNext limit k n ids) (sym is) (subst (IsNext limit k (builtin_name k)) (sym typed) (is_next limit k within))

  who : next_entity (first_entities limit k) ≡ Some (record { index = k; generation = 0 })
  who =
      ap (λ o. option_or o (cond (nat_lt (length (builtins_below k)) limit)
      (Some (record { index = length (builtins_below k); generation = 0 })) None)) next.none_free
      ∙ ap (λ n. cond (nat_lt n limit) (Some (record { index = n; generation = 0 })) None) next.count
      ∙ ap (λ b. cond b (Some (record { index = k; generation = 0 })) None) (lt-ltb k limit below)

  after : with_new (first_entities limit k) (record { index = k; generation = 0 }) (newborn name None ids) ≡ first_entities limit (k + 1)
  after =
      ap (λ n. cond (nat_lt k n) (with_record (first_entities limit k) (record { index = k; generation = 0 }) (newborn name None ids))
      (record { limit = limit; indices = builtins_below k ++ Living 0 (newborn name None ids) ∷ [] })) next.count
      ∙ ap (λ b. cond b (with_record (first_entities limit k) (record { index = k; generation = 0 }) (newborn name None ids))
      (record { limit = limit; indices = builtins_below k ++ Living 0 (newborn name None ids) ∷ [] })) (le-ltb k k (omega arith))
      ∙ ap (λ xs. record { limit = limit; indices = xs }) next.more
      ∙ ap (first_entities limit) (sym (add-one k))

  made : (r : Result Entity Refusal) (new : Indexed Record) → Makes record_name (first_entities limit k) (newborn name None ids) r new →
      (r ≡ Ok (record { index = k; generation = 0 })) × (new ≡ first_entities limit (k + 1))
  made r new makes =
      let one = subst (λ o. MatchOption o
      (MatchOption (next_entity (first_entities limit k)) (Refuses NoMoreIds (first_entities limit k) r new)
      (λ e. Answers e (with_new (first_entities limit k) e (newborn name None ids)) r new))
      (λ why. Refuses why (first_entities limit k) r new)) next.fit makes in
      let two = subst (λ o. MatchOption o (Refuses NoMoreIds (first_entities limit k) r new)
      (λ e. Answers e (with_new (first_entities limit k) e (newborn name None ids)) r new)) who one in
      (two.0, two.1 ∙ after)

  -- the next built-in is there
  pub builtin_made : (e : Entity) (new : Indexed Record) (may : Bool) → Meets (Makes record_name (first_entities limit k) (newborn name None ids)) may
      (first_entities limit k) (Ok e) new → new ≡ first_entities limit (k + 1)
  builtin_made e new may m = (made (Ok e) new m).1

  -- or memory was wanting
  pub builtin_refused : (why : Refusal) (new : Indexed Record) (may : Bool) →
      Meets (Makes record_name (first_entities limit k) (newborn name None ids)) may (first_entities limit k) (Err why) new → why ≡ OutOfMemory
  builtin_refused OutOfMemory new may m = refl
  builtin_refused why new may m = absurd (not_done why (record { index = k; generation = 0 }) (made (Err why) new m).0)

-- all of an edition's, and nobody else, are its first world
pub all_builtins : (edition : Edition) (limit count : ℕ) → count ≡ builtin_count edition →
    world_with edition (first_entities limit count) [] ≡ world_of_edition edition limit
all_builtins First limit count is = ap (λ n. world_with First (first_entities limit n) []) is
all_builtins Second limit count is = ap (λ n. world_with Second (first_entities limit n) []) is
