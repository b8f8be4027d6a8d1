-- The living entities and what each of them has, as lists to search.
use Rattle.eco_ids.proofs.Passing.{handle}
use Rattle.eco_ids.proofs.Common.{◌≡◌, ℕ, zero, suc, ◌+◌, true, false, cond, List, [], ◌∷◌, map, is_some, IsTrue, slice_get, Some, None, Option, option_map}
use Rattle.eco_ids.proofs.Common.{unwrap_or, sym, refl, subst, inl, inr, true≢false, arith, eqb-true, find, common_steps, Entity, Id, Value, Living, IndexState}
use Rattle.eco_ids.proofs.Common.{record_in, living_from, id_cmp, id_eq, WorldState, Record, has, record_of, is_alive, living, held_by}
use Rattle.eco_ids.proofs.Facts.{id_eq_is}
use Rattle.eco_ids.proofs.Listable.{In, Decided, decide_as, decide_bool, decide_both, some_of}

abbrev handles_from : ℕ → List (IndexState Record) → List Entity
handles_from n xs = map (λ p. p.0) (living_from n xs)

one_on : (n k g : ℕ) (es : List Entity) → In (handle ((n + 1) + k) g) es → In (handle (n + suc k) g) es
one_on n k g es h = let e : (n + 1) + k ≡ n + suc k = omega arith in subst (λ m. In (handle m g) es) e h

state_in : (n : ℕ) (xs : List (IndexState Record)) (k g : ℕ) → IsTrue (is_some (record_in (slice_get xs k) g))
    → In (handle (n + k) g) (handles_from n xs)
state_in n [] k g h = absurd (true≢false (sym h))
state_in n (Living f r ∷ xs) zero g h =
    grind (arith, common_steps, eqb-true)
state_in n (Living f r ∷ xs) (suc k) g h = inr (one_on n k g _ (state_in (n + 1) xs k g h))
state_in n (x ∷ xs) zero g h = absurd (true≢false (sym h))
state_in n (x ∷ xs) (suc k) g h = one_on n k g _ (state_in (n + 1) xs k g h)

abbrev pub the_living : WorldState → List Entity
the_living w = map (λ p. p.0) (living w)

pub living_in : (w : WorldState) (e : Entity) → IsTrue (is_alive w e) → In e (the_living w)
living_in w e h =
    let same : 0 + e.index ≡ e.index = omega arith in
    subst (λ n. In (handle n e.generation) (the_living w)) same (state_in 0 w.indices e.index e.generation h)

-- who has an id lives
pub has_alive : (w : WorldState) (e : Entity) (i : Id) → IsTrue (has w e i) → IsTrue (is_alive w e)
has_alive w e i = by (record_of w e)
  where
    by : (o : Option Record) → IsTrue (is_some (find id_cmp i (unwrap_or (option_map (λ r. r.held) o) []))) → IsTrue (is_some o)
    by None h = h
    by (Some r) h = refl

entry_in : (i : Id) (es : List (Id × Value)) → IsTrue (is_some (find id_cmp i es)) → In i (map (λ p. p.0) es)
entry_in i [] h = absurd (true≢false (sym h))
entry_in i (e ∷ es) h =
    elim (id_eq i e.0) as (λ b. id_eq i e.0 ≡ b → IsTrue (is_some (cond b (Some e.1) (find id_cmp i es))) → In i (map (λ p. p.0) (e ∷ es))) [
      | true ↦ λ m k. inl (sym (id_eq_is i e.0 m))
      | false ↦ λ m k. inr (entry_in i es k)
    ] refl h

-- whether the entity has an id that passes
pub some_held : (w : WorldState) (e : Entity) (P : Id → Type 0) → ((i : Id) → Decided (P i)) → Decided ((i : Id) × IsTrue (has w e i) × P i)
some_held w e P test =
    let there : (i : Id) → IsTrue (has w e i) × P i → In i (map (λ p. p.0) (held_by w e)) = λ i p. entry_in i (held_by w e) p.0 in
    decide_as (λ s. (s.0, s.1.0, s.1.1)) (λ s. (s.0, (s.1, s.2)))
    (some_of (λ i. IsTrue (has w e i) × P i) (λ i. decide_both (decide_bool (has w e i)) (test i)) (map (λ p. p.0) (held_by w e)) there)
