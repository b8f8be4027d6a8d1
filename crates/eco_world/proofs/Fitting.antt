-- Values that fit an id in the world fit it in the store, and in the world that is written to.
use Rattle.eco_world.proofs.Common.{◌≡◌, ◌==◌, ◌&&◌, ℕ, zero, suc, Bool, true, false, IsTrue, List, [], ◌∷◌, drop, length, None, Some}
use Rattle.eco_world.proofs.Common.{option_and_then, unwrap_or, if◌then◌else◌, cond, refl, sym, ap, ◌∙◌, inl, inr, list_all, option_or, find, put}
use Rattle.eco_world.proofs.Common.{find-put, Edition, Entity, Id, One, Two, Value, FIELD_COUNT, is_builtin, arity_of, fits, is_zero_past, Indexed, IsLawful}
use Rattle.eco_world.proofs.Common.{id_cmp, changed, with_value, WorldState, Record, has, record_of, both, first, second, same_or_apart, id_eq_itself}
use Rattle.eco_world.proofs.Common.{id_cmp_total, Named, entry_of, fits_still, write_change, QueryTerm, world_with}
use Rattle.eco_store.specs.Store as store

all_past : {X : Type 0} (t : X → Bool) (n : ℕ) (xs : List X) → IsTrue (list_all t xs) → IsTrue (list_all t (drop n xs))
all_past t zero xs all = all
all_past t (suc n) [] all = refl
all_past t (suc n) (x ∷ xs) all = all_past t n xs (second _ _ all)

-- the store knows no pair of a built-in: it asks for no more fields of one to be 0
pub fits_stored : (edition : Edition) (v : Indexed Record) (qs : List (List QueryTerm)) (i : Id) (x : Value) → IsTrue (fits (world_with edition v qs) i x)
    → IsTrue (store.fits_in_store v i x)
fits_stored edition v qs (One e) x h = h
fits_stored edition v qs (Two r t) x h = by (is_builtin (world_with edition v qs) r) h
  where
    by : (b : Bool)
        → IsTrue ((length x.0 == FIELD_COUNT)
        && is_zero_past (unwrap_or (if b then None else option_or (store.own_arity_in_store v r) (store.own_arity_in_store v t)) 0) x)
        → IsTrue (store.fits_in_store v (Two r t) x)
    by true fit = both _ _ (first _ _ fit) (all_past _ (unwrap_or (store.arity_in_store v (Two r t)) 0) x.0 (second (length x.0 == FIELD_COUNT) _ fit))
    by false fit = fit

-- where the world is lawful with the value, the value fits
pub written_fits : (w : WorldState) (e : Entity) (i : Id) (v : Value) → has w e i ≡ true → IsLawful (changed w e (with_value i v)) → IsTrue (fits w i v)
written_fits w e i v there lawful =
    let entry = entry_of (record_of w e) i there in
    let new = changed w e (with_value i v) in
    let write = write_change w e (with_value i v) entry.0 entry.2 in
    let arity = λ (r : Record). r.arity in
    let same : (x : Entity) → arity_of w x ≡ arity_of new x =
    λ x. elim (same_or_apart x e) as (λ _. arity_of w x ≡ arity_of new x) [
      | inl k ↦ ap (arity_of w) k ∙ ap (option_and_then arity) entry.2 ∙ sym (ap (arity_of new) k ∙ ap (option_and_then arity) write.at)
      | inr n ↦ sym (ap (option_and_then arity) (write.apart x n))
    ] in
    let held : find id_cmp i (put id_cmp i v (entry.0).held) ≡ Some v =
    find-put id_cmp id_cmp_total i i v (entry.0).held ∙ ap (λ b. cond b (Some v) (find id_cmp i (entry.0).held)) (id_eq_itself i) in
    fits_still new w (sym write.edition) i v (each w new same i) ((lawful.orderly.records e (with_value i v entry.0) write.at).values i v held)
  where
    each : (w new : WorldState) → ((x : Entity) → arity_of w x ≡ arity_of new x) → (j : Id) → Named (λ x. arity_of w x ≡ arity_of new x) j
    each w new same (One x) = same x
    each w new same (Two r t) = (same r, same t)
