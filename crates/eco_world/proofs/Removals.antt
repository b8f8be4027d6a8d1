-- An id goes from every entity that has it.
use Rattle.eco_world.proofs.Common.{◌≡◌, ℕ, suc, ◌+◌, ◌-◌, ◌<◌, Bool, false, ◌||◌, List, [], ◌∷◌, map, length, get_or, slice_get}
use Rattle.eco_world.proofs.Common.{Option, None, Some, option_map, is_some, Ok, IsTrue, ◌↔◌, refl, sym, ap, ◌∙◌, subst, arith, All, list_any}
use Rattle.eco_world.proofs.Common.{range_with_len, find, get_or-map, length-map, false_from_ne_true, none-some, same_Some, Edition, Entity, Id, is_builtins}
use Rattle.eco_world.proofs.Common.{Indexed, IndexState, Retired, Free, Living, map_state, IsLawful, keeping, without, nobody, goes_too, pattern_matches}
use Rattle.eco_world.proofs.Common.{entity_cmp, has_item, id_cmp, id_eq, is_ascending, without_item, RemovesAll, Record, WorldState, entities, has, id_eq_sym}
use Rattle.eco_world.proofs.Common.{keys_ascending, id_eq_is, not_both, has_in, keeps_all, without_from_all, record_at, exactly, record_ids, TypeChange}
use Rattle.eco_world.proofs.Common.{QueryTerm, world_of, symmetric_target, world_with}
use Rattle.std.specs.List.{Contains}
use Rattle.eco_ids.specs.Indices.{record_of}
use Rattle.eco_ids.specs.Laws.{Keeps}
use Rattle.eco_archetypes.specs.Retyping.{IsTypeWith}
use Rattle.eco_traits.specs.Plans.{TakesOutOfAll}
use Rattle.eco_world.proofs.Holders.{matches_exactly}
use Rattle.eco_world.proofs.Changes.{sorted_at}
use Rattle.eco_world.proofs.Losing.{plainly_taken}

-- ---- the built-ins

-- who comes first, and the others
pub first_of_rest : (test : Entity → Bool) (i n : ℕ) → i < n
    → list_any test (map (λ k. record { index = k; generation = 0 }) (range_with_len i (n - i)))
    ≡ (test (record { index = i; generation = 0 }) || list_any test (map (λ k. record { index = k; generation = 0 }) (range_with_len (i + 1) (n - (i + 1)))))
first_of_rest test i n within =
    let more : n - i ≡ suc (n - (i + 1)) = omega arith in
    ap (λ m. list_any test (map (λ k. record { index = k; generation = 0 }) (range_with_len i m))) more

-- ---- nobody has it

states_kept : (f : Record → Record) (xs : List (IndexState Record)) → ((j n : ℕ) (r : Record) → slice_get xs j ≡ Some (Living n r) → f r ≡ r)
    → map (map_state f) xs ≡ xs
states_kept f [] kept = refl
states_kept f (Retired ∷ xs) kept = ap (λ ys. Retired ∷ ys) (states_kept f xs (λ j. kept (suc j)))
states_kept f (Free n ∷ xs) kept = ap (λ ys. Free n ∷ ys) (states_kept f xs (λ j. kept (suc j)))
states_kept f (Living n r ∷ xs) kept = let here = kept 0 n r refl in let rest = states_kept f xs (λ j. kept (suc j)) in λ t. Living n (here t) ∷ rest t

-- where nobody has the id nothing goes
pub nobody_loses : (w : WorldState) (i : Id) → ((e : Entity) → has w e i ≡ false) → w ≡ without w nobody (λ x j. id_eq j i)
nobody_loses w i none =
    sym (without_from_all w (λ j. id_eq j i) ∙ ap (λ xs. record w { indices = xs }) (states_kept (keeping (λ j. id_eq j i)) w.indices
    (λ k n r at. keeps_all (λ j. id_eq j i) r (λ j there. false_from_ne_true (id_eq j i) (λ is.
    not_both (subst (λ k. IsTrue (is_some (find id_cmp k r.held))) (id_eq_is j i is) there)
    (ap (λ o. has_in o i) (sym (record_at (entities w) (record { index = k; generation = n }) r at)) ∙ none (record { index = k; generation = n })))))))

-- ---- the changes that are found

exact_ids : (i : Id) (ids : List Id) → list_any (pattern_matches (exactly i)) ids ≡ has_item id_cmp ids i
exact_ids i [] = refl
exact_ids i (j ∷ ids) = λ t. (matches_exactly i j ∙ id_eq_sym i j) t || exact_ids i ids t

typed : (o : Option Record) (ids : List Id) → option_map record_ids o ≡ Some ids → (r : Record) × (o ≡ Some r) × (record_ids r ≡ ids)
typed None ids is = absurd (none-some ids is)
typed (Some r) ids is = (r, refl, same_Some (record_ids r) ids is)

-- the id goes from every type that has it, and nobody dies
pub taken_out_of_all : (edition : Edition) (v : Indexed Record) (qs : List (List QueryTerm)) (i : Id) (types : List (List Id)) (cs : List TypeChange)
    → IsLawful (world_with edition v qs)
    → ((ids : List Id) → Contains types ids ↔ IsTypeWith v (exactly i) ids) → map (λ (c : TypeChange). c.from) cs ≡ types
    → All (λ (c : TypeChange). c.to ≡ without_item id_cmp c.from i) cs → TakesOutOfAll v (has_item entity_cmp []) (λ j. id_eq j i) cs
taken_out_of_all edition v qs i types cs lawful listed froms taken = record {
  each = λ k d within. record { there = sym (exact_ids i (get_or cs k d).from) ∙ (found k d within).0; taken = taken k d within };
  ascend = λ k d within.
      let one = found k d within in
      let own = typed (record_of v one.1) (get_or cs k d).from one.2 in
      subst (λ ids. IsTrue (is_ascending id_cmp ids)) own.2 (keys_ascending own.0.held (sorted_at (world_with edition v qs) one.1 lawful own.0 own.1));
  all = λ e r at lives some.
      subst (λ xs. Contains xs (record_ids r)) (sym froms) ((listed (record_ids r)).1 (exact_ids i (record_ids r) ∙ some, e, ap (option_map record_ids) at));
}
  where
    found : (k : ℕ) (d : TypeChange) → k < length cs → IsTypeWith v (exactly i) (get_or cs k d).from
    found k d within =
        let c = get_or cs k d in
        (listed c.from).0 (
          k,
          rw (← froms, length-map cs (λ (x : TypeChange). x.from)) within,
          ap (λ xs. get_or xs k c.from) (sym froms) ∙ get_or-map (λ (x : TypeChange). x.from) cs k d c.from within,
        )

-- the step is done
pub removed_all : (edition : Edition) (v after : Indexed Record) (qs : List (List QueryTerm)) (w : WorldState) (i : Id) (cs : List TypeChange)
    → world_with edition v qs ≡ w → symmetric_target w i ≡ None
    → TakesOutOfAll (entities w) (has_item entity_cmp []) (λ j. id_eq j i) cs
    → ((goes : Id → Bool) → TakesOutOfAll v (has_item entity_cmp []) goes cs → world_of after ≡ without (world_of v) (has_item entity_cmp []) (λ e. goes))
    → is_builtins w i ≡ false → RemovesAll w i (Ok tt) (world_with edition after qs)
removed_all edition v after qs w i cs seen plain takes carried ordinary =
    rw ordinary (
      refl,
      ap (λ (x : WorldState). record x { edition = edition; queries = qs })
          (carried (λ j. id_eq j i) (subst (λ x. TakesOutOfAll (entities x) (has_item entity_cmp []) (λ j. id_eq j i) cs) (sym seen) takes))
          ∙ ap (λ x. without x nobody (λ e j. id_eq j i)) seen ∙ sym (plainly_taken w i plain),
    )

-- what a remove_all that is not refused leaves is lawful
pub taken_lawful : (w : WorldState) (i : Id) → IsLawful w → Keeps (λ v. RemovesAll v i) → is_builtins w i ≡ false
    → IsLawful (without w nobody (goes_too w (λ x j. id_eq j i)))
taken_lawful w i lawful keeps ordinary = keeps w (Ok tt) (without w nobody (goes_too w (λ x j. id_eq j i))) lawful (rw ordinary (refl, refl))
