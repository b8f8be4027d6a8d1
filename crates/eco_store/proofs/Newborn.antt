-- A new entity: what is known of the indices, and what a store shows of them.
use Rattle.eco_store.proofs.Common.{◌≡◌, ◌≢◌, ℕ, suc, ◌<◌, ◌≤◌, ◌+◌, Bool, true, false, not, ◌&&◌, nat_lt, List, [], ◌∷◌}
use Rattle.eco_store.proofs.Common.{◌++◌, map, length, slice_get, Option, Some, None, option_map, is_some, IsTrue, if◌then◌else◌, Result, Ok, Err}
use Rattle.eco_store.proofs.Common.{MatchBool, MatchOption, refl, sym, ap, subst, ◌∙◌, arith, option_or, length-map, nat_tests, Entity, Refusal}
use Rattle.eco_store.proofs.Common.{unfit_name, Makes, may_make, Indexed, IndexState, Retired, Free, Living, with_record, with_new, next_entity, lowest_free}
use Rattle.eco_store.proofs.Common.{living_from, map_state, BadName, NameTaken, NoMoreIds, OutOfMemory, first_refusal, Meets, is_out_of_memory, Refuses}
use Rattle.eco_store.proofs.Common.{Answers, slice_get-push_last, slice_get-push_other, slice_get-set_same, slice_get-set_other}
use Rattle.std.proofs.Common.{find}
use Rattle.eco_ids.specs.Names.{is_called, named_entity, is_borne, is_proper}

-- nobody lives there
abbrev pub Vacant : {A : Type 0} → Option (IndexState A) → Type 0
Vacant None = Unit {0}
Vacant (Some Retired) = ⊥
Vacant (Some (Free g)) = Unit {0}
Vacant (Some (Living g r)) = ⊥

module _ {A : Type 0} (w : Indexed A) (e : Entity) (d : A) (near : e.index ≤ length w.indices) where
  pub born_here : slice_get (with_new w e d).indices e.index ≡ Some (Living e.generation d)
  born_here = by (nat_lt e.index (length w.indices)) refl
    where
      by : (b : Bool) → nat_lt e.index (length w.indices) ≡ b
          → slice_get (if b then with_record w e d else record w { indices = w.indices ++ Living e.generation d ∷ [] }).indices e.index
          ≡ Some (Living e.generation d)
      by true h =
          let below : e.index < length w.indices = grind (arith, nat_tests) in
          slice_get-set_same w.indices e.index (Living e.generation d) below
      by false h =
          let at_end : e.index ≡ length w.indices = grind (arith, nat_tests) in
          ap (slice_get (w.indices ++ Living e.generation d ∷ [])) at_end ∙ slice_get-push_last w.indices (Living e.generation d)

  pub born_other : (j : ℕ) → j ≢ e.index → slice_get (with_new w e d).indices j ≡ slice_get w.indices j
  born_other j other = by (nat_lt e.index (length w.indices)) refl
    where
      by : (b : Bool) → nat_lt e.index (length w.indices) ≡ b
          → slice_get (if b then with_record w e d else record w { indices = w.indices ++ Living e.generation d ∷ [] }).indices j ≡ slice_get w.indices j
      by true h = slice_get-set_other w.indices e.index j (Living e.generation d) other
      by false h =
          let at_end : e.index ≡ length w.indices = grind (arith, nat_tests) in
          slice_get-push_other w.indices (Living e.generation d) j (λ q. other (q ∙ sym at_end))

pub born_limit : {A : Type 0} (w : Indexed A) (e : Entity) (d : A) → (with_new w e d).limit ≡ w.limit
born_limit w e d = by (nat_lt e.index (length w.indices))
  where
    by : (b : Bool) → (if b then with_record w e d else record w { indices = w.indices ++ Living e.generation d ∷ [] }).limit ≡ w.limit
    by true = refl
    by false = refl

-- the lowest free index
lowest_is : {A : Type 0} (n : ℕ) (xs : List (IndexState A)) (e : Entity) → lowest_free n xs ≡ Some e
    → (k : ℕ) × (e.index ≡ n + k) × (k < length xs) × (slice_get xs k ≡ Some (Free e.generation))
lowest_is n [] e h = absurd (cc)
lowest_is n (Retired ∷ rest) e h =
    let r = lowest_is (n + 1) rest e h in (suc r.0, omega (arith, r.1), omega (arith, r.2), r.3)
lowest_is n (Free g ∷ rest) e h =
    let same : record { index = n; generation = g } ≡ e = cc in
    (0, sym (ap (λ (x : Entity). x.index) same) ∙ (let z : n ≡ n + 0 = omega arith in z), omega arith, λ t. Some (Free (same t).generation))
lowest_is n (Living g r ∷ rest) e h =
    let r = lowest_is (n + 1) rest e h in (suc r.0, omega (arith, r.1), omega (arith, r.2), r.3)

-- who is made next stands at a free index or the first unknown one
pub next_is : {A : Type 0} (w : Indexed A) (e : Entity) → next_entity w ≡ Some e → (e.index ≤ length w.indices) × Vacant (slice_get w.indices e.index)
next_is {A} w e h = by (lowest_free 0 w.indices) refl h
  where
    past : (b : Bool) → (if b then Some (record { index = length w.indices; generation = 0 }) else None) ≡ Some e → e.index ≡ length w.indices
    past true q = let same : record { index = length w.indices; generation = 0 } ≡ e = cc in sym (ap (λ (x : Entity). x.index) same)
    past false q = absurd (cc)

    nothing_past : (xs : List (IndexState A)) → slice_get xs (length xs) ≡ None
    nothing_past [] = refl
    nothing_past (x ∷ xs) = nothing_past xs

    by : (o : Option Entity) → lowest_free 0 w.indices ≡ o
        → option_or o (if nat_lt (length w.indices) w.limit then Some (record { index = length w.indices; generation = 0 }) else None) ≡ Some e
        → (e.index ≤ length w.indices) × Vacant (slice_get w.indices e.index)
    by None low q =
        let at : e.index ≡ length w.indices = past (nat_lt (length w.indices) w.limit) q in
        (omega arith, subst Vacant (sym (ap (slice_get w.indices) at ∙ nothing_past w.indices)) tt)
    by (Some f) low q =
        let same : f ≡ e = cc in
        let r = lowest_is 0 w.indices e (low ∙ ap Some same) in
        let at : e.index ≡ r.0 = omega (arith, r.1) in
        (omega (arith, r.2), subst Vacant (sym (ap (slice_get w.indices) at ∙ r.3)) tt)

-- ---- what is kept is mapped
module _ {A B : Type 0} (f : A → B) (name_a : A → Option (List ℕ)) (name_b : B → Option (List ℕ))
    (names : (a : A) → name_b (f a) ≡ name_a a) where
  abbrev mapped : Indexed A → Indexed B
  mapped w = record { limit = w.limit; indices = map (map_state f) w.indices }

  lowest_free-map : (n : ℕ) (xs : List (IndexState A)) → lowest_free n (map (map_state f) xs) ≡ lowest_free n xs
  lowest_free-map n [] = refl
  lowest_free-map n (Retired ∷ rest) = lowest_free-map (n + 1) rest
  lowest_free-map n (Free g ∷ rest) = refl
  lowest_free-map n (Living g r ∷ rest) = lowest_free-map (n + 1) rest

  pub next_entity-map : (w : Indexed A) → next_entity (mapped w) ≡ next_entity w
  next_entity-map w =
      λ t. option_or (lowest_free-map 0 w.indices t)
      (if nat_lt (length-map w.indices (map_state f) t) w.limit then Some (record { index = length-map w.indices (map_state f) t; generation = 0 }) else None)

  abbrev second : Entity × A → Entity × B
  second p = (p.0, f p.1)

  living-map : (n : ℕ) (xs : List (IndexState A)) → living_from n (map (map_state f) xs) ≡ map second (living_from n xs)
  living-map n [] = refl
  living-map n (Retired ∷ rest) = living-map (n + 1) rest
  living-map n (Free g ∷ rest) = living-map (n + 1) rest
  living-map n (Living g r ∷ rest) = ap (λ ys. (record { index = n; generation = g }, f r) ∷ ys) (living-map (n + 1) rest)

  find-map : (name : List ℕ) (xs : List (Entity × A))
      → option_map (λ p. p.0) (find (λ p. is_called name (name_b p.1)) (map second xs))
      ≡ option_map (λ p. p.0) (find (λ p. is_called name (name_a p.1)) xs)
  find-map name [] = refl
  find-map name (x ∷ xs) = ap (λ b. option_map (λ p. p.0) (if b then Some (second x) else find (λ p. is_called name (name_b p.1)) (map second xs)))
      (ap (is_called name) (names x.1)) ∙ by (is_called name (name_a x.1)) (find-map name xs)
    where
      by : (b : Bool)
          → option_map (λ p. p.0) (find (λ p. is_called name (name_b p.1)) (map second xs))
          ≡ option_map (λ p. p.0) (find (λ p. is_called name (name_a p.1)) xs)
          → option_map (λ p. p.0) (if b then Some (second x) else find (λ p. is_called name (name_b p.1)) (map second xs))
          ≡ option_map (λ p. p.0) (if b then Some x else find (λ p. is_called name (name_a p.1)) xs)
      by true rest = refl
      by false rest = rest

  pub named_entity-map : (w : Indexed A) (name : List ℕ) → named_entity name_b (mapped w) name ≡ named_entity name_a w name
  named_entity-map w name = ap (λ ys. option_map (λ p. p.0) (find (λ p. is_called name (name_b p.1)) ys)) (living-map 0 w.indices)
      ∙ find-map name (living_from 0 w.indices)

  pub is_borne-map : (w : Indexed A) (name : Option (List ℕ)) → is_borne name_b (mapped w) name ≡ is_borne name_a w name
  is_borne-map w None = refl
  is_borne-map w (Some name) = ap is_some (named_entity-map w name)

  pub unfit_name-map : (w : Indexed A) (name : Option (List ℕ)) → unfit_name name_b (mapped w) name ≡ unfit_name name_a w name
  unfit_name-map w name = ap (λ b. first_refusal ((not (is_proper name), BadName) ∷ (b, NameTaken) ∷ [])) (is_borne-map w name)

-- ---- how a creation ends

abbrev pub refused : Refusal → Result Entity Refusal
refused why = Err why

abbrev Ends : {S : Type 0} → Option Refusal → Option Entity → (Entity → S) → S → Result Entity Refusal → S → Type 0
Ends unfit next after old r new =
    MatchOption unfit (MatchOption next (Refuses NoMoreIds old r new) (λ e. Answers e (after e) r new)) (λ why. Refuses why old r new)

-- a refusal is a refusal of the other state, and neither changes
refused_ends : {S T : Type 0} (unfit : Option Refusal) (next : Option Entity) (after : Entity → S) (after' : Entity → T) (old new : S) (old' : T)
    (why : Refusal)
    → Ends unfit next after old (Err why) new → (new ≡ old) × Ends unfit next after' old' (Err why) old'
refused_ends (Some u) next after after' old new old' why h = (h.1, (h.0, refl))
refused_ends None None after after' old new old' why h = (h.1, (h.0, refl))
refused_ends None (Some e) after after' old new old' why h = absurd (let bad : ◌≡◌ {A = Result Entity Refusal} (Err why) (Ok e) = h.0 in cc)

made_ends : {S : Type 0} (unfit : Option Refusal) (next : Option Entity) (after : Entity → S) (old new : S) (e : Entity)
    → Ends unfit next after old (Ok e) new → (unfit ≡ None) × (next ≡ Some e) × (new ≡ after e)
made_ends (Some u) next after old new e h = absurd (let bad : ◌≡◌ {A = Result Entity Refusal} (Ok e) (Err u) = h.0 in cc)
made_ends None None after old new e h = absurd (let bad : ◌≡◌ {A = Result Entity Refusal} (Ok e) (Err NoMoreIds) = h.0 in cc)
made_ends None (Some f) after old new e h =
    let same : ◌≡◌ {A = Result Entity Refusal} (Ok e) (Ok f) = h.0 in
    let is : e ≡ f = cc in
    (refl, ap Some (sym is), h.1 ∙ ap after (sym is))

module _ {A B : Type 0} (f : A → B) (name_a : A → Option (List ℕ)) (name_b : B → Option (List ℕ)) (names : (a : A) → name_b (f a) ≡ name_a a)
    (w : Indexed A) (d : A) (d' : B) (same_name : name_b d' ≡ name_a d) where
  abbrev shown : Indexed B
  shown = record { limit = w.limit; indices = map (map_state f) w.indices }

  unfit_same : unfit_name name_b shown (name_b d') ≡ unfit_name name_a w (name_a d)
  unfit_same = unfit_name-map f name_a name_b names w (name_b d') ∙ ap (unfit_name name_a w) same_name

  next_same : next_entity shown ≡ next_entity w
  next_same = next_entity-map f name_a name_b names w

  may_same : may_make name_b shown (name_b d') ≡ may_make name_a w (name_a d)
  may_same = λ t. not (is_some (unfit_same t)) && is_some (next_same t)

  -- an end below is one here
  ends_shown : (r : Result Entity Refusal) (new : Indexed B) → Ends (unfit_name name_a w (name_a d)) (next_entity w) (λ e. with_new shown e d') shown r new
      → Makes name_b shown d' r new
  ends_shown r new h =
      subst (λ u. Ends u (next_entity shown) (λ e. with_new shown e d') shown r new) (sym unfit_same)
      (subst (λ n. Ends (unfit_name name_a w (name_a d)) n (λ e. with_new shown e d') shown r new) (sym next_same) h)

  -- a creation that is refused below is refused so here
  pub create_refused : (new : Indexed A) (why : Refusal) → Meets (Makes name_a w d) (may_make name_a w (name_a d)) w (refused why) new
      → (new ≡ w) × Meets (Makes name_b shown d') (may_make name_b shown (name_b d')) shown (refused why) shown
  create_refused new why h = by (is_out_of_memory (refused why)) h
    where
      by : (b : Bool) → MatchBool b (IsTrue (may_make name_a w (name_a d)) × (new ≡ w)) (Makes name_a w d (refused why) new)
          → (new ≡ w) × MatchBool b (IsTrue (may_make name_b shown (name_b d')) × (shown ≡ shown)) (Makes name_b shown d' (refused why) shown)
      by true q = (q.1, (may_same ∙ q.0, refl))
      by false q =
          let r = refused_ends (unfit_name name_a w (name_a d)) (next_entity w) (λ e. with_new w e d) (λ e. with_new shown e d') w new shown why q in
          (r.0, ends_shown (refused why) shown r.1)

  -- one that succeeds makes the next entity
  pub create_made : (new : Indexed A) (e : Entity) → Meets (Makes name_a w d) (may_make name_a w (name_a d)) w (Ok e) new
      → (next_entity w ≡ Some e) × (new ≡ with_new w e d)
  create_made new e h = let r = made_ends (unfit_name name_a w (name_a d)) (next_entity w) (λ x. with_new w x d) w new e h in (r.1, r.2)

  pub create_done : (new : Indexed A) (new' : Indexed B) (e : Entity) → Meets (Makes name_a w d) (may_make name_a w (name_a d)) w (Ok e) new
      → new' ≡ with_new shown e d' → Meets (Makes name_b shown d') (may_make name_b shown (name_b d')) shown (Ok e) new'
  create_done new new' e h is =
      let r = made_ends (unfit_name name_a w (name_a d)) (next_entity w) (λ x. with_new w x d) w new e h in
      ends_shown (Ok e) new' (rw (r.0, r.1) (refl, is))

-- no name is unfit for want of memory
unfit_known : {A : Type 0} (name_of : A → Option (List ℕ)) (w : Indexed A) (name : Option (List ℕ)) (why : Refusal)
    → unfit_name name_of w name ≡ Some why
    → is_out_of_memory (refused why) ≡ false
unfit_known name_of w name why = by (not (is_proper name)) (is_borne name_of w name)
  where
    by : (a b : Bool) → first_refusal ((a, BadName) ∷ (b, NameTaken) ∷ []) ≡ Some why → is_out_of_memory (refused why) ≡ false
    by true b h = let same : BadName ≡ why = cc in ap (λ x. is_out_of_memory (refused x)) (sym same)
    by false true h = let same : NameTaken ≡ why = cc in ap (λ x. is_out_of_memory (refused x)) (sym same)
    by false false h = absurd (cc)

-- what is found to stand against the entity is the refusal, else the want of memory
pub refuses : {A : Type 0} (name_of : A → Option (List ℕ)) (w : Indexed A) (d : A) (why : Refusal)
    → MatchOption (unfit_name name_of w (name_of d)) (MatchOption (next_entity w) (why ≡ NoMoreIds) (λ e. why ≡ OutOfMemory)) (λ x. why ≡ x)
    → Meets (Makes name_of w d) (may_make name_of w (name_of d)) w (refused why) w
refuses name_of w d why = by (unfit_name name_of w (name_of d)) (next_entity w) (unfit_known name_of w (name_of d))
  where
    by : (u : Option Refusal) (n : Option Entity) → ((x : Refusal) → u ≡ Some x → is_out_of_memory (refused x) ≡ false)
        → MatchOption u (MatchOption n (why ≡ NoMoreIds) (λ e. why ≡ OutOfMemory)) (λ x. why ≡ x)
        → MatchBool (is_out_of_memory (refused why)) (IsTrue (not (is_some u) && is_some n) × (w ≡ w)) (Ends u n (λ e. with_new w e d) w (refused why) w)
    by (Some x) n known is = rw (is, known x refl) (refl, refl)
    by None None known is = rw is (refl, refl)
    by None (Some e) known is = rw is (refl, refl)
