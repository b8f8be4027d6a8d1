-- What a loss leaves, and that remove, clear and remove_all keep a lawful world lawful.
use Rattle.eco_ids.proofs.Facts.{off}
use Rattle.eco_ids.proofs.Common.{◌≡◌, ℕ, zero, suc, ◌+◌, ◌<◌, ◌≤◌, Bool, true, false, cond, not, ◌&&◌, ◌||◌, List, [], ◌∷◌, map, length, is_some, IsTrue}
use Rattle.eco_ids.proofs.Common.{IsFalse, nat_lt, nat_le, ◌==◌, slice_get, Some, None, MatchBool, Option, Result, MatchOption, option_map, sym, refl, ap, ◌∙◌}
use Rattle.eco_ids.proofs.Common.{subst, arith, ltb-true, eq-eqb, eqb-true, le-leb, find, where_key, is_sorted-where_key, list_any, list_all, range_with_len}
use Rattle.eco_ids.proofs.Common.{common_steps, same_Some, none-some, Entity, Id, Refusal, Reserved, NotAlive, Value, is_builtin, is_builtins, builtin_count}
use Rattle.eco_ids.proofs.Common.{Living, IndexState, Free, Retired, record_in, map_state, change_kept, raised, IsLawful, IsOrderly, is_proper_state, nobody}
use Rattle.eco_ids.proofs.Common.{without, keeping, id_cmp, id_eq, entity_eq, Refuses, changed, RemovesAll, unfit_actor, Loses, Clears, Removes, WorldState}
use Rattle.eco_ids.proofs.Common.{Record, has, record_of, is_alive, entities, with_entities, true≢false, Two, One, SYMMETRIC, IsMirrored, mirror_of}
use Rattle.eco_ids.proofs.Common.{at_mirror, goes_too, is_symmetric}
use Rattle.eco_ids.proofs.Common.{has_symmetric}
use Rattle.eco_ids.specs.Builtin.{builtin_entities}
use Rattle.eco_ids.specs.Indices.{map_from}
use Rattle.eco_ids.specs.Losses.{left_at}
use Rattle.eco_ids.proofs.Ascending.{both, first, second}
use Rattle.eco_ids.proofs.Closures.{find_kept, kept_entry}
use Rattle.eco_ids.proofs.Facts.{id_eq_is, id_eq_itself, not_both, or_right, not_true}
use Rattle.eco_ids.proofs.First.{builtin_ids, builtin_plain}
use Rattle.eco_ids.proofs.Keeps.{IsPart, Named, builtin_parts, orderly_shrink, entry_of, has_in, named_from, named_to, named_map, named_both, some_of}
use Rattle.eco_ids.proofs.Mirrors.{calm_fewer, calm_from, calm_to, lawful_after, mirror_is, mirror_parts, symmetric_before}
use Rattle.eco_ids.proofs.Overlaps.{entity_eq_is, entity_eq_itself}
use Rattle.eco_ids.proofs.States.{same_parts}
use Rattle.eco_ids.proofs.Steps.{passed, unless_refused}

-- what is left at an index
get_map_from : (f : ℕ → IndexState Record → IndexState Record) (n : ℕ) (xs : List (IndexState Record)) (k : ℕ) →
    slice_get (map_from f n xs) k ≡ option_map (f (n + k)) (slice_get xs k)
get_map_from f n [] k = refl
get_map_from f n (x ∷ xs) zero = ap (λ m. Some (f m x)) (omega arith)
get_map_from f n (x ∷ xs) (suc k) = grind (arith, common_steps, get_map_from f (n + 1) xs k)

length_map_from : (f : ℕ → IndexState Record → IndexState Record) (n : ℕ) (xs : List (IndexState Record)) → length (map_from f n xs) ≡ length xs
length_map_from f n [] = refl
length_map_from f n (x ∷ xs) = ap suc (length_map_from f (n + 1) xs)

raised_proper : (g : ℕ) → IsTrue (is_proper_state (raised g))
raised_proper g = grind (arith, common_steps, ltb-true, le-leb)

raised_dead : (g h : ℕ) → record_in {A = Record} (Some (raised g)) h ≡ None
raised_dead g h = elim (nat_lt g 65535) as (λ b. record_in {A = Record} (Some (cond b (Free (g + 1)) Retired)) h ≡ None) [ true ↦ refl | false ↦ refl ]

pub nothing_left : {A : Type 0} (b : Bool) → ◌≡◌ {A = Option A} None (cond b None None)
nothing_left true = refl
nothing_left false = refl

left_in : (dies : Entity → Bool) (goes : Entity → Id → Bool) (x : Entity) (o : Option (IndexState Record)) →
    record_in (option_map (left_at dies goes x.index) o) x.generation ≡ cond (dies x) None (option_map (keeping (goes x)) (record_in o x.generation))
left_in dies goes x None = nothing_left (dies x)
left_in dies goes x (Some Retired) = nothing_left (dies x)
left_in dies goes x (Some (Free f)) = nothing_left (dies x)
left_in dies goes x (Some (Living g r)) = grind (arith, common_steps, same_parts, eqb-true, nothing_left, raised_dead)

-- the dead have nothing, and the others keep the ids that don't go
pub record_left : (w : WorldState) (dies : Entity → Bool) (goes : Entity → Id → Bool) (x : Entity) →
    record_of (without w dies goes) x ≡ cond (dies x) None (option_map (keeping (goes x)) (record_of w x))
record_left w dies goes x = grind (arith, common_steps, get_map_from, left_in)

proper_left : (dies : Entity → Bool) (goes : Entity → Id → Bool) (n : ℕ) (xs : List (IndexState Record)) → IsTrue (list_all is_proper_state xs) →
    IsTrue (list_all is_proper_state (map_from (left_at dies goes) n xs))
proper_left dies goes n [] h = refl
proper_left dies goes n (Retired ∷ xs) h = proper_left dies goes (n + 1) xs h
proper_left dies goes n (Free g ∷ xs) h = both _ _ (first (nat_le g 65535) _ h) (proper_left dies goes (n + 1) xs (second (nat_le g 65535) _ h))
proper_left dies goes n (Living g r ∷ xs) h =
    grind (arith, common_steps, both, second, raised_proper, first, proper_left dies goes (n + 1) xs (second (nat_le g 65535) _ h))

-- all that pass are kept
where_all : (p : Id → Bool) (es : List (Id × Value)) → ((i : Id) → IsTrue (is_some (find id_cmp i es)) → IsTrue (p i)) → where_key id_cmp p es ≡ es
where_all p [] h = refl
where_all p (e ∷ es) h =
    ap (λ b. cond b (e ∷ where_key id_cmp p es) (where_key id_cmp p es))
    (h e.0 (ap (λ b. is_some (cond b (Some e.1) (find id_cmp e.0 es))) (id_eq_itself e.0)))
    ∙ ap (λ xs. e ∷ xs) (where_all p es (λ i k. h i (later i (id_eq i e.0) k)))
  where
    later : (i : Id) (b : Bool) → IsTrue (is_some (find id_cmp i es)) → IsTrue (is_some (cond b (Some e.1) (find id_cmp i es)))
    later i true k = refl
    later i false k = k

pub keeps_all : (goes : Id → Bool) (r : Record) → ((i : Id) → IsTrue (is_some (find id_cmp i r.held)) → IsFalse (goes i)) → keeping goes r ≡ r
keeps_all goes r h = ap (λ es. record r { held = es }) (where_all (λ i. not (goes i)) r.held (λ i k. ap not (h i k)))

part_keeping : (goes : Id → Bool) (r : Record) → IsPart (keeping goes r) r
part_keeping goes r = record {
  name = refl;
  arity = refl;
  ascending = is_sorted-where_key id_cmp (λ i. not (goes i)) r.held;
  within = λ i v h. (kept_entry (λ i. not (goes i)) i v r.held h).1;
}

-- who is left lived, and has what doesn't go
left_from : (b : Bool) (goes : Id → Bool) (o : Option Record) (d : Record) → cond b None (option_map (keeping goes) o) ≡ Some d →
    IsFalse b × (r : Record) × (o ≡ Some r) × (keeping goes r ≡ d)
left_from true goes o d h = absurd (none-some d h)
left_from false goes None d h = absurd (none-some d h)
left_from false goes (Some r) d h = (refl, r, refl, same_Some (keeping goes r) d h)

-- a loss that touches no built-in, and after which no id names one of the dead
pub record IsFitLoss (w : WorldState) (dies : Entity → Bool) (goes : Entity → Id → Bool) : Type 0 where
  pub spared : (x : Entity) → IsTrue (is_builtin w x) → IsFalse (dies x)
  pub untouched : (x : Entity) (i : Id) → IsTrue (is_builtin w x) → IsTrue (has w x i) → IsFalse (goes x i)
  pub named : (x : Entity) (i : Id) → IsFalse (dies x) → IsFalse (goes x i) → Named (λ e. IsFalse (dies e)) i

pub orderly_loss : (w : WorldState) (dies : Entity → Bool) (goes : Entity → Id → Bool) → IsOrderly w → IsFitLoss w dies goes
    → IsOrderly (without w dies goes)
orderly_loss w dies goes l f = orderly_shrink l (record {
  edition = refl;
  limit = refl;
  part = λ x d h. let m = left x d h in (m.1, m.2, subst (λ y. IsPart y m.1) m.3 (part_keeping (goes x) m.1));
  living = λ x i h named.
      let m = entry_of (record_of (without w dies goes) x) i h in
      let q = left x m.0 m.2 in
      let stays = (kept_entry (λ i. not (goes x i)) i m.1 q.1.held (ap (λ (r : Record). find id_cmp i r.held) q.3 ∙ m.3)).0 in
      named_to (without w dies goes) i
      (named_map survives i
      (named_both (λ y. IsFalse (dies y)) (λ y. IsTrue (is_alive w y)) i (f.named x i q.0 (not_true _ stays)) (named_from w i named)));
  builtins = λ x h.
      grind (arith, common_steps, record_left);
  indices = record {
    generations = proper_left dies goes 0 w.indices l.generations;
    known = subst (λ n. n ≤ w.limit) (sym (length_map_from (left_at dies goes) 0 w.indices)) l.known;
    begun = subst (λ n. builtin_count w.edition ≤ n) (sym (length_map_from (left_at dies goes) 0 w.indices)) l.begun;
  };
})
  where
    left : (x : Entity) (d : Record) → record_of (without w dies goes) x ≡ Some d →
        IsFalse (dies x) × (r : Record) × (record_of w x ≡ Some r) × (keeping (goes x) r ≡ d)
    left x d h = left_from (dies x) (goes x) (record_of w x) d (sym (record_left w dies goes x) ∙ h)

    survives : (x : Entity) → IsFalse (dies x) × IsTrue (is_alive w x) → IsTrue (is_alive (without w dies goes) x)
    survives x h =
        let q = some_of (record_of w x) h.1 in
        ap is_some (record_left w dies goes x) ∙ ap (λ b. is_some (cond b None (option_map (keeping (goes x)) (record_of w x)))) h.0
        ∙ ap (λ o. is_some (option_map (keeping (goes x)) o)) q.1

    same : (p : Id → Bool) (o : Option Record) → ((i : Id) → IsTrue (has_in o i) → IsFalse (p i)) → option_map (keeping p) o ≡ o
    same p None h = refl
    same p (Some r) h = ap Some (keeps_all p r h)

-- who has what once these died and those went
some_left : (b : Bool) (o : Option Value) → is_some (cond (not b) o None) ≡ (not b && is_some o)
some_left true o = refl
some_left false o = refl

pub has_left : (w : WorldState) (dies : Entity → Bool) (goes : Entity → Id → Bool) (x : Entity) (i : Id) →
    has (without w dies goes) x i ≡ (not (dies x) && (not (goes x i) && has w x i))
has_left w dies goes x i = ap (λ o. has_in o i) (record_left w dies goes x) ∙ go (dies x) (record_of w x)
  where
    never : (b : Bool) → false ≡ (not b && false)
    never true = refl
    never false = refl

    go : (b : Bool) (o : Option Record) → has_in (cond b None (option_map (keeping (goes x)) o)) i ≡ (not b && (not (goes x i) && has_in o i))
    go true o = refl
    go false None = never (goes x i)
    go false (Some r) = ap is_some (find_kept (λ j. not (goes x j)) i r.held) ∙ some_left (goes x i) (find id_cmp i r.held)

turn : (a b : Bool) → IsTrue (not (a || b)) → IsTrue (not (b || a))
turn true b h = absurd (true≢false (sym h))
turn false true h = absurd (true≢false (sym h))
turn false false h = refl

-- what goes with its mirrors leaves a world with mirrors
loses_mirrored : (w : WorldState) (goes : Entity → Id → Bool) → IsMirrored w → IsMirrored (without w nobody (goes_too w goes))
loses_mirrored w goes m = record { mirrors = mirrors; calm = calm_to left (calm_fewer w left refl had (calm_from w m.calm)) }
  where
    left : WorldState
    left = without w nobody (goes_too w goes)

    parts : (x : Entity) (i : Id) → IsTrue (has left x i) → IsTrue (not (goes_too w goes x i) && has w x i)
    parts x i h = sym (has_left w nobody (goes_too w goes) x i) ∙ h

    had : (x : Entity) (i : Id) → IsTrue (has left x i) → IsTrue (has w x i)
    had x i h = second (not (goes_too w goes x i)) (has w x i) (parts x i h)

    -- a symmetric pair goes where it or its mirror was to go
    either : (a r b : Entity) → IsTrue (is_symmetric w r) → goes_too w goes a (Two r b) ≡ (goes b (Two r a) || goes a (Two r b))
    either a r b was = ap (λ o. at_mirror goes o || goes a (Two r b)) (mirror_is w a r b was)

    mirrors : (r a b : Entity) → IsTrue (is_symmetric left r) → IsTrue (has left a (Two r b)) → IsTrue (has left b (Two r a))
    mirrors r a b s edge =
        let was = symmetric_before w left r refl (had r (One SYMMETRIC)) s in
        let stays : IsTrue (not (goes b (Two r a) || goes a (Two r b))) =
        sym (ap not (either a r b was)) ∙ first (not (goes_too w goes a (Two r b))) (has w a (Two r b)) (parts a (Two r b) edge) in
        has_left w nobody (goes_too w goes) b (Two r a)
        ∙ both (not (goes_too w goes b (Two r a))) (has w b (Two r a))
        (ap not (either b r a was) ∙ turn (goes b (Two r a)) (goes a (Two r b)) stays) (m.mirrors r a b was (had a (Two r b) edge))

-- no id of a built-in has a mirror
untouched_too : (w : WorldState) (goes : Entity → Id → Bool) → IsOrderly w →
    ((x : Entity) (i : Id) → IsTrue (is_builtin w x) → IsTrue (has w x i) → IsFalse (goes x i)) →
    (x : Entity) (i : Id) → IsTrue (is_builtin w x) → IsTrue (has w x i) → IsFalse (goes_too w goes x i)
untouched_too w goes l untouched x i h there = by (mirror_of w x i) refl
  where
    symmetric : (r t : Entity) → i ≡ Two r t → IsTrue (is_symmetric w r) → ⊥
    symmetric r t is s =
        let named = builtin_ids w x (Two r t) l h (subst (λ j. IsTrue (has w x j)) is there) in
        builtin_plain w r l named.0 (second (has_symmetric w.edition) (has w r (One SYMMETRIC)) s)

    by : (o : Option (Entity × Id)) → mirror_of w x i ≡ o → IsFalse (goes_too w goes x i)
    by None is = ap (λ o. at_mirror goes o || goes x i) is ∙ untouched x i h there
    by (Some m) is = let p = mirror_parts w x i m is in absurd (symmetric p.0 p.1 p.2 p.3)

nobody_named : (i : Id) → Named (λ e. IsFalse (nobody e)) i
nobody_named (One e) = refl
nobody_named (Two r t) = (refl, refl)

-- ids go, with their mirrors, and nobody dies
loses_lawful : (w : WorldState) (goes : Entity → Id → Bool) (r : Result (Unit {0}) Refusal) (new : WorldState) →
    IsLawful w → ((x : Entity) (i : Id) → IsTrue (is_builtin w x) → IsTrue (has w x i) → IsFalse (goes x i)) → Loses w goes r new → IsLawful new
loses_lawful w goes r new l untouched a = subst IsLawful (sym a.1)
    (lawful_after l
    (orderly_loss w nobody (goes_too w goes) l.orderly (record {
      spared = λ x h. refl;
      untouched = untouched_too w goes l.orderly untouched;
      named = λ x i _ _. nobody_named i;
    }))
    refl (λ _ m. loses_mirrored w goes m))

-- the one who acts is no built-in
acts_lawful : (w : WorldState) (e : Entity) (goes : Entity → Id → Bool) (r : Result (Unit {0}) Refusal) (new : WorldState) →
    ((x : Entity) (i : Id) → IsFalse (entity_eq x e) → IsFalse (goes x i)) →
    IsLawful w → MatchOption (unfit_actor w e) (Loses w goes r new) (λ why. Refuses why w r new) → IsLawful new
acts_lawful w e goes r new own l =
    unless_refused w (unfit_actor w e) _ r new l
    (λ fit. loses_lawful w goes r new l
    (λ x i h _. own x i (off (entity_eq x e) (λ k. not_both (subst (λ y. IsTrue (is_builtin w y)) (entity_eq_is x e k) h)
    (passed (is_builtin w e) Reserved _ (passed (not (is_alive w e)) NotAlive _ fit).1).0))))

pub removes_lawful : (w : WorldState) (e : Entity) (i : Id) (r : Result (Unit {0}) Refusal) (new : WorldState) → IsLawful w → Removes w e i r new
    → IsLawful new
removes_lawful w e i r new = acts_lawful w e (λ x j. entity_eq x e && id_eq j i) r new (λ x j h. ap (λ b. b && id_eq j i) h)

pub clears_lawful : (w : WorldState) (e : Entity) (r : Result (Unit {0}) Refusal) (new : WorldState) → IsLawful w → Clears w e r new → IsLawful new
clears_lawful w e r new = acts_lawful w e (λ x j. entity_eq x e) r new (λ x j h. h)

-- the first handles, by their places
abbrev first_handle : ℕ → Entity
first_handle n = record { index = n; generation = 0 }

handle_at : (count from k : ℕ) → k < count → slice_get (map first_handle (range_with_len from count)) k ≡ Some (first_handle (from + k))
handle_at zero from k l = absurd (omega arith)
handle_at (suc count) from zero l = let e : from ≡ from + 0 = omega arith in ap (λ n. Some (first_handle n)) e
handle_at (suc count) from (suc k) l =
    let m : k < count = omega arith in
    let e : (from + 1) + k ≡ from + suc k = omega arith in
    handle_at count (from + 1) k m ∙ ap (λ n. Some (first_handle n)) e

any_get : {X : Type 0} (t : X → Bool) (xs : List X) (k : ℕ) (x : X) → slice_get xs k ≡ Some x → IsTrue (t x) → IsTrue (list_any t xs)
any_get t [] k x at h = absurd (none-some x at)
any_get t (y ∷ ys) zero x at h = ap (λ b. b || list_any t ys) (subst (λ z. IsTrue (t z)) (sym (same_Some y x at)) h)
any_get t (y ∷ ys) (suc k) x at h = or_right (t y) _ (any_get t ys k x at h)

pub builtin_has : (w : WorldState) (i : Id) (x : Entity) → IsTrue (is_builtin w x) → IsTrue (has w x i) → IsTrue (is_builtins w i)
builtin_has w i x h there =
    let parts = builtin_parts w x h in
    let e : 0 + x.index ≡ x.index = omega arith in
    any_get (λ e. has w e i) (builtin_entities w) x.index x (handle_at (builtin_count w.edition) 0 x.index parts.0
    ∙ ap Some (same_parts (first_handle (0 + x.index)) x e (sym parts.1))) there

pub removes_all_lawful : (w : WorldState) (i : Id) (r : Result (Unit {0}) Refusal) (new : WorldState) → IsLawful w → RemovesAll w i r new → IsLawful new
removes_all_lawful w i r new l =
    elim (is_builtins w i) as (λ b. is_builtins w i ≡ b → MatchBool b (Refuses Reserved w r new) (Loses w (λ x j. id_eq j i) r new) → IsLawful new) [
      | true ↦ λ e a. subst IsLawful (sym a.1) l
      | false ↦ λ e. loses_lawful w (λ x j. id_eq j i) r new l (λ x j h there. off (id_eq j i) (λ k.
          not_both (builtin_has w i x h (subst (λ y. IsTrue (has w x y)) (id_eq_is j i k) there)) e))
    ] refl

-- ---- losses of one entity, and from all

generation_in : IndexState Record → ℕ
generation_in Retired = 0
generation_in (Free g) = 0
generation_in (Living g r) = g

-- an index of another entity stays as it is
module _ (e : Entity) (goes : Id → Bool) where
  abbrev one_goes : ℕ → IndexState Record → IndexState Record
  one_goes = left_at nobody (λ x j. entity_eq x e && goes j)

  other_stays : (n : ℕ) (x : IndexState Record) → ((g : ℕ) (r : Record) → x ≡ Living g r → record { index = n; generation = g } ≡ e → ⊥)
      → one_goes n x ≡ x
  other_stays n Retired apart = refl
  other_stays n (Free g) apart = refl
  other_stays n (Living g r) apart = grind (arith, common_steps, keeps_all, entity_eq_is)

  past_stays : (n : ℕ) (xs : List (IndexState Record)) → e.index < n → map_from one_goes n xs ≡ xs
  past_stays n [] l = refl
  past_stays n (x ∷ xs) l = grind (arith, common_steps, other_stays, past_stays (n + 1) xs (omega arith))

  -- the list of states once what is kept there has changed
  abbrev kept_at : List (IndexState Record) → ℕ → Option Record → List (IndexState Record)
  kept_at xs k o = (change_kept (record { limit = 0; indices = xs }) (record { index = k; generation = e.generation }) (keeping goes) o).indices

  one_left : (n k : ℕ) (xs : List (IndexState Record)) → e.index ≡ n + k
      → map_from one_goes n xs ≡ kept_at xs k (record_in (slice_get xs k) e.generation)
  unfolding generation_in
  one_left n k [] at = refl
  one_left n zero (Retired ∷ xs) at = let rest = past_stays (n + 1) xs (omega arith) in λ i. Retired ∷ rest i
  one_left n zero (Free g ∷ xs) at = let rest = past_stays (n + 1) xs (omega arith) in λ i. Free g ∷ rest i
  one_left n zero (Living g r ∷ xs) at =
      let rest = past_stays (n + 1) xs (omega arith) in
      let place : n ≡ e.index = omega arith in
      elim (e.generation == g) as (λ b. (e.generation == g) ≡ b → map_from one_goes n (Living g r ∷ xs)
      ≡ kept_at (Living g r ∷ xs) zero (cond b (Some r) None)) [
        | true ↦ λ m.
            grind (arith, common_steps, same_parts, eqb-true, entity_eq_itself)
        | false ↦ λ m.
            let head = other_stays n (Living g r) (λ h d is k. apart h d is k m) in
            λ i. head i ∷ rest i
      ] refl
    where
      apart : (h : ℕ) (d : Record) → Living g r ≡ Living h d → record { index = n; generation = h } ≡ e → (e.generation == g) ≡ false → ⊥
      apart h d is k m = not_both (eq-eqb e.generation g (sym (ap (λ (y : Entity). y.generation) k) ∙ sym (ap generation_in is))) m
  one_left n (suc k) (x ∷ xs) at =
      let later : e.index ≡ (n + 1) + k = omega arith in
      let head : one_goes n x ≡ x = other_stays n x (λ g r _ same. let is : n ≡ e.index = ap (λ (y : Entity). y.index) same in absurd (omega arith)) in
      let rest = one_left (n + 1) k xs later in
      (λ i. head i ∷ rest i) ∙ moved (record_in (slice_get xs k) e.generation)
    where
      moved : (o : Option Record) → x ∷ kept_at xs k o ≡ kept_at (x ∷ xs) (suc k) o
      moved None = refl
      moved (Some r) = refl

-- ids that one entity loses are a change of its record
pub without_one : (w : WorldState) (e : Entity) (goes : Id → Bool) → without w nobody (λ x j. entity_eq x e && goes j) ≡ changed w e (keeping goes)
without_one w e goes = ap (λ xs. record w { indices = xs }) (one_left e goes 0 e.index w.indices (omega arith)) ∙ same (record_of w e)
  where
    same : (o : Option Record) → record w { indices = kept_at e goes w.indices e.index o } ≡ with_entities w (change_kept (entities w) e (keeping goes) o)
    same None = refl
    same (Some r) = refl

-- what goes from all goes from each record
from_each : (goes : Id → Bool) (n : ℕ) (xs : List (IndexState Record))
    → map_from (left_at nobody (λ x j. goes j)) n xs ≡ map (map_state (keeping goes)) xs
from_each goes n [] = refl
from_each goes n (Living g r ∷ xs) = ap (λ ys. Living g (keeping goes r) ∷ ys) (from_each goes (n + 1) xs)
from_each goes n (x ∷ xs) = ap (λ ys. x ∷ ys) (from_each goes (n + 1) xs)

pub without_from_all : (w : WorldState) (goes : Id → Bool) → without w nobody (λ x j. goes j)
    ≡ record w { indices = map (map_state (keeping goes)) w.indices }
without_from_all w goes = ap (λ xs. record w { indices = xs }) (from_each goes 0 w.indices)
