-- Caches that are told of the type of a slot, one after another.
use Rattle.eco_index.proofs.CachesCommon.{◌≡◌, ◌≢◌, ℕ, zero, suc, ◌+◌, ◌<◌, ◌≤◌, List, [], ◌∷◌, ◌++◌, length, map, slice_get}
use Rattle.eco_index.proofs.CachesCommon.{take, Option, Some, None, IfSome, Result, Ok, Err, IfOk, get_or, nat_eq, QuerySlot, refl, sym, ap, ◌∙◌, subst, arith}
use Rattle.eco_index.proofs.CachesCommon.{inl, inr, ◌⊎◌, map-set_same, spare, Id, Cache, asked, ChoicesState, AreExact, AreKept, AreThose, AreTold}
use Rattle.eco_index.proofs.CachesCommon.{ChangesType, HaveRoom, IsExact, IsTold, KeepStill, KeepsStill, StayExact, CacheState, cache_state, cache_states}
use Rattle.eco_index.proofs.CachesCommon.{choices_on, fulfils, kept_queries}
use Rattle.std.proofs.lemmas.List.{map-append, take_all, take_more}
use Rattle.std.specs.List.{list_any}
use Rattle.std.specs.Prelude.{slice_set}
use Rattle.std.proofs.lemmas.Bool.{cases_lt}
use Rattle.eco_index.proofs.Onlies.{map_alike}

-- those before a place were told, and those from it on are as they were
abbrev pub AreToldTo : List Cache → List Cache → ℕ → Option (List Id) → ℕ → Type 0
AreToldTo old new n o count =
    (types types' : ℕ → Option (List Id)) → ChangesType types types' n o → AreExact types old
    → (k : ℕ) (c : Cache) → slice_get new k ≡ Some c → (k < count → IsExact types' c) × (count ≤ k → IsExact types c)

-- those before a place keep choices as before, and those from it on are as they were
abbrev pub KeepStillTo : List Cache → List Cache → Option (List Id) → ℕ → Type 0
KeepStillTo old new o count =
    (k : ℕ) (c d : Cache) → slice_get old k ≡ Some c → slice_get new k ≡ Some d → (k < count → KeepsStill c d o) × (count ≤ k → d ≡ c)

-- those from a place on take one slot more without memory
abbrev pub HaveRoomFrom : List Cache → ℕ → Type 0
HaveRoomFrom cs count = (k : ℕ) (c : Cache) → slice_get cs k ≡ Some c → count ≤ k → 0 < spare c.slots

-- one element was written: it is that one, or was there
pub got_set : {X : Type 0} (xs : List X) (i k : ℕ) (v c : X) → slice_get (slice_set xs i v) k ≡ Some c
    → ((k ≡ i) × (v ≡ c)) ⊎ ((k ≢ i) × (slice_get xs k ≡ Some c))
got_set {X = X} [] i k v c at = absurd (let bad : ◌≡◌ {A = Option X} None (Some c) = at in cc)
got_set {X = X} (x ∷ xs) zero zero v c at = inl (refl, let same : ◌≡◌ {A = Option X} (Some v) (Some c) = at in cc)
got_set {X = X} (x ∷ xs) zero (suc k) v c at = inr (λ e. absurd (omega (arith, e)), at)
got_set {X = X} (x ∷ xs) (suc i) zero v c at = inr (λ e. absurd (omega (arith, e)), at)
got_set {X = X} (x ∷ xs) (suc i) (suc k) v c at = elim (got_set xs i k v c at) [
  | inl h ↦ inl (ap suc h.0, h.1)
  | inr h ↦ inr (λ e. h.0 (omega (arith, e)), h.1)
]

pub got_within : {X : Type 0} (xs : List X) (k : ℕ) (c : X) → slice_get xs k ≡ Some c → k < length xs
got_within {X = X} [] k c at = absurd (let bad : ◌≡◌ {A = Option X} None (Some c) = at in cc)
got_within (x ∷ xs) zero c at = omega arith
got_within (x ∷ xs) (suc k) c at = let less = got_within xs k c at in omega (arith, less)

-- what was written back is what was written
pub written_back : {X : Type 0} (n : ℕ) (xs zs : List X) → n ≡ length xs → take n (xs ++ zs) ≡ xs
written_back n xs zs is = ap (λ m. take m (xs ++ zs)) is ∙ front xs zs
  where
    front : {X : Type 0} (xs zs : List X) → take (length xs) (xs ++ zs) ≡ xs
    front [] zs = refl
    front (x ∷ xs) zs = ap (λ ys. x ∷ ys) (front xs zs)

got_more : {X : Type 0} (xs : List X) (i j k : ℕ) (c : X) → i ≤ j → slice_get (take i xs) k ≡ Some c → slice_get (take j xs) k ≡ Some c
got_more {X = X} xs zero j k c most at = absurd (let bad : ◌≡◌ {A = Option X} None (Some c) = at in cc)
got_more {X = X} [] (suc i) j k c most at = absurd (let bad : ◌≡◌ {A = Option X} None (Some c) = at in cc)
got_more (x ∷ xs) (suc i) zero k c most at = absurd (omega (arith, most))
got_more (x ∷ xs) (suc i) (suc j) zero c most at = at
got_more (x ∷ xs) (suc i) (suc j) (suc k) c most at = got_more xs i j k c (omega (arith, most)) at

got_taken : {X : Type 0} (xs : List X) (i j : ℕ) (c : X) → i < j → slice_get xs i ≡ Some c → slice_get (take j xs) i ≡ Some c
got_taken xs i zero c less at = absurd (omega (arith, less))
got_taken {X = X} [] i (suc j) c less at = absurd (let bad : ◌≡◌ {A = Option X} None (Some c) = at in cc)
got_taken (x ∷ xs) zero (suc j) c less at = at
got_taken (x ∷ xs) (suc i) (suc j) c less at = got_taken xs i j c (omega (arith, less)) at

got_pushed : {X : Type 0} (xs : List X) (x : X) (k : ℕ) (c : X) → slice_get (xs ++ x ∷ []) k ≡ Some c → (slice_get xs k ≡ Some c) ⊎ (x ≡ c)
got_pushed {X = X} [] x zero c at = inr (let same : ◌≡◌ {A = Option X} (Some x) (Some c) = at in cc)
got_pushed {X = X} [] x (suc k) c at = absurd (let bad : ◌≡◌ {A = Option X} None (Some c) = at in cc)
got_pushed (y ∷ xs) x zero c at = inl at
got_pushed (y ∷ xs) x (suc k) c at = got_pushed xs x k c at

-- the same query, slots and choices
pub exact_as : (types : ℕ → Option (List Id)) (x y : Cache) → y.query ≡ x.query → y.slots.keys ≡ x.slots.keys → y.only ≡ x.only
    → IsExact types x
    → IsExact types y
exact_as types x y query keys only exact = record {
  those = λ n. ap (list_any (nat_eq n)) keys ∙ exact.those n ∙ ap (fulfils (types n)) (sym query);
  kept = rw only (rw query (rw keys exact.kept));
}

-- the same types, and the same caches
pub exact_types : (types types' : ℕ → Option (List Id)) (cs : List Cache) → ((n : ℕ) → types' n ≡ types n) → AreExact types cs
    → AreExact types' cs
exact_types types types' cs same was k c at = record {
  those = λ n. (was k c at).those n ∙ ap (λ o. fulfils o c.query) (sym (same n));
  kept = by c.only (was k c at).kept;
}
  where
    by : (o : Option ChoicesState) → IfSome o (AreKept types c.query c.slots.keys) → IfSome o (AreKept types' c.query c.slots.keys)
    by None kept = kept
    by (Some d) kept = record {
      wide = kept.wide;
      only = map_alike (λ n. ap (choices_on (asked c.query)) (same n)) c.slots.keys ∙ kept.only;
    }

-- made ready, and then told
pub then_told : (old ready new : List Cache) (n : ℕ) (o : Option (List Id)) → StayExact old ready → AreTold ready new n o → AreTold old new n o
then_told old ready new n o stay told types types' change was = told types types' change (stay types was)

-- one cache more is copied
pub copied_more : (old items : List Cache) (i : ℕ) (x y : Cache) → slice_get old i ≡ Some x → y.query ≡ x.query → y.slots.keys ≡ x.slots.keys
    → y.only ≡ x.only → StayExact (take i old) items → StayExact (take (i + 1) old) (items ++ y ∷ [])
copied_more old items i x y at query keys only stay types was k c got = elim (got_pushed items y k c got) [
  | inl before ↦ stay types (λ j d in_it. was j d (got_more old i (i + 1) j d (omega arith) in_it)) k c before
  | inr here ↦ subst (IsExact types) here (exact_as types x y query keys only (was i x (got_taken old i (i + 1) x (omega arith) at)))
]

module _ (items : List Cache) (i : ℕ) (x y : Cache) where
  -- one cache more is told
  pub told_more : (old : List Cache) (n : ℕ) (o : Option (List Id)) → AreToldTo old items n o i → slice_get items i ≡ Some x → IsTold x y n o
      → AreToldTo old (slice_set items i y) n o (i + 1)
  told_more old n o told at one types types' change was k c got = elim (got_set items i k y c got) [
    | inl here ↦ (
      λ before. subst (IsExact types') here.1 (one types types' change ((told types types' change was i x at).1 (omega arith))),
      λ past. absurd (omega (arith, here.0, past)),
    )
    | inr other ↦ (
      λ before. elim (cases_lt k i) [
        | inl less ↦ (told types types' change was k c other.1).0 less
        | inr most ↦ absurd (other.0 (omega (arith, before, most)))
      ],
      λ past. (told types types' change was k c other.1).1 (omega (arith, past)),
    )
  ]

  -- one cache more keeps choices as before
  pub keep_more : (old : List Cache) (o : Option (List Id)) → KeepStillTo old items o i → slice_get items i ≡ Some x → KeepsStill x y o
      → KeepStillTo old (slice_set items i y) o (i + 1)
  keep_more old o kept at one k c d was got = elim (got_set items i k y d got) [
    | inl here ↦ (
      λ before.
          subst (λ z. KeepsStill c z o) here.1
          (subst (λ z. KeepsStill z y o) ((kept i c x (subst (λ j. slice_get old j ≡ Some c) here.0 was) at).1 (omega arith)) one),
      λ past. absurd (omega (arith, here.0, past)),
    )
    | inr other ↦ (
      λ before. elim (cases_lt k i) [
        | inl less ↦ (kept k c d was other.1).0 less
        | inr most ↦ absurd (other.0 (omega (arith, before, most)))
      ],
      λ past. (kept k c d was other.1).1 (omega (arith, past)),
    )
  ]

  -- the others have their room
  pub room_after : HaveRoomFrom items i → HaveRoomFrom (slice_set items i y) (i + 1)
  room_after room k c got past = elim (got_set items i k y c got) [
    | inl here ↦ absurd (omega (arith, here.0, past))
    | inr other ↦ room k c other.1 (omega (arith, past))
  ]

-- none is told yet
pub told_first : (old : List Cache) (n : ℕ) (o : Option (List Id)) → AreToldTo old old n o 0
told_first old n o types types' change was k c got = (λ before. absurd (omega (arith, before)), λ past. was k c got)

-- all are told
pub told_all : (old items zs : List Cache) (n : ℕ) (o : Option (List Id)) (count len : ℕ) → AreToldTo old items n o count → len ≡ length items
    → length items ≤ count → AreTold old (take len (items ++ zs)) n o
told_all old items zs n o count len told is most types types' change was k c got =
    let there : slice_get items k ≡ Some c = ap (λ cs. slice_get cs k) (sym (written_back len items zs is)) ∙ got in
    let within = got_within items k c there in
    (told types types' change was k c there).0 (omega (arith, within, most))

-- the same caches
pub still_exact : (old new : List Cache) → new ≡ old → StayExact old new
still_exact old new is types was = subst (AreExact types) (sym is) was

-- one cache more
pub added : (types : ℕ → Option (List Id)) (old ready new : List Cache) (x : Cache) → ready ≡ old → new ≡ ready ++ x ∷ [] → AreExact types old
    → IsExact types x → AreExact types new
added types old ready new x same more was is k c at =
    elim (got_pushed old x k c (ap (λ cs. slice_get cs k) (sym (more ∙ ap (λ cs. cs ++ x ∷ []) same)) ∙ at)) [
      | inl before ↦ was k c before
      | inr here ↦ subst (IsExact types) here is
    ]

-- none is told yet, and each has its room
pub told_begun : (old items : List Cache) (n : ℕ) (o : Option (List Id)) → items ≡ old → AreToldTo old items n o 0
told_begun old items n o is = subst (λ cs. AreToldTo old cs n o 0) (sym is) (told_first old n o)

pub keep_begun : (old items : List Cache) (o : Option (List Id)) → items ≡ old → KeepStillTo old items o 0
keep_begun old items o is k c d was got = (
  λ before. absurd (omega (arith, before)),
  λ past. let same : ◌≡◌ {A = Option Cache} (Some d) (Some c) = sym got ∙ ap (λ cs. slice_get cs k) is ∙ was in cc,
)

pub keep_all : (old items zs : List Cache) (o : Option (List Id)) (count len : ℕ) → KeepStillTo old items o count → len ≡ length items
    → length items ≤ count → KeepStill old (take len (items ++ zs)) o
keep_all old items zs o count len kept is most k c d was got =
    let there : slice_get items k ≡ Some d = ap (λ cs. slice_get cs k) (sym (written_back len items zs is)) ∙ got in
    let within = got_within items k d there in
    (kept k c d was there).0 (omega (arith, within, most))

pub room_begun : (old items : List Cache) → items ≡ old → HaveRoom old → HaveRoomFrom items 0
room_begun old items is room k c at past = room k c (ap (λ cs. slice_get cs k) (sym is) ∙ at)

-- what a cache of this query has
pub those_of : (types : ℕ → Option (List Id)) (cs : List Cache) (k : ℕ) (x : Cache) (q : List QuerySlot) (keys : List ℕ) → slice_get cs k ≡ Some x
    → x.query ≡ q → keys ≡ x.slots.keys → AreExact types cs → AreThose types q keys
those_of types cs k x q keys at query is was n =
    ap (list_any (nat_eq n)) is ∙ (was k x at).those n ∙ ap (fulfils (types n)) query

pub kept_of : {E : Type 0} (cs : List Cache) (k : ℕ) (x : Cache) (q : List QuerySlot) (slots : List ℕ) (r : Result (Option ChoicesState) E)
    → slice_get cs k ≡ Some x → x.query ≡ q
    → IfOk r (λ o. IfSome o (λ d. (types : ℕ → Option (List Id)) → IsExact types x → AreKept types x.query slots d))
    → IfOk r (λ o. IfSome o (λ d. (types : ℕ → Option (List Id)) → AreExact types cs → AreKept types q slots d))
kept_of cs k x q slots (Err e) at query kept = kept
kept_of cs k x q slots (Ok None) at query kept = kept
kept_of cs k x q slots (Ok (Some d)) at query kept = λ types was. subst (λ p. AreKept types p slots d) query (kept types (was k x at))

module _ (old items : List Cache) (i : ℕ) where
  -- one cache more has its room
  pub stay_more : (x y : Cache) → slice_get items i ≡ Some x → y.query ≡ x.query → y.slots.keys ≡ x.slots.keys → y.only ≡ x.only
      → StayExact old items
      → StayExact old (slice_set items i y)
  stay_more x y at query keys only stay types was k c got = elim (got_set items i k y c got) [
    | inl here ↦ subst (IsExact types) here.1 (exact_as types x y query keys only (stay types was i x at))
    | inr other ↦ stay types was k c other.1
  ]

  pub room_more : (y : Cache) → 0 < spare y.slots → ((k : ℕ) (c : Cache) → slice_get items k ≡ Some c → k < i → 0 < spare c.slots)
      → (k : ℕ) (c : Cache)
      → slice_get (slice_set items i y) k ≡ Some c → k < i + 1 → 0 < spare c.slots
  room_more y room rooms k c got low = elim (got_set items i k y c got) [
    | inl here ↦ subst (λ (d : Cache). 0 < spare d.slots) here.1 room
    | inr other ↦ rooms k c other.1 (elim (cases_lt k i) [
      | inl less ↦ less
      | inr most ↦ absurd (other.0 (omega (arith, low, most)))
    ])
  ]

-- what was written back
pub stay_back : (old items zs : List Cache) (len : ℕ) → len ≡ length items → StayExact old items → StayExact old (take len (items ++ zs))
stay_back old items zs len is stay types was = subst (AreExact types) (sym (written_back len items zs is)) (stay types was)

pub room_back : (items zs : List Cache) (len i : ℕ) → len ≡ length items → length items ≤ i
    → ((k : ℕ) (c : Cache) → slice_get items k ≡ Some c → k < i → 0 < spare c.slots) → HaveRoom (take len (items ++ zs))
room_back items zs len i is most rooms k c got =
    let there : slice_get items k ≡ Some c = ap (λ cs. slice_get cs k) (sym (written_back len items zs is)) ∙ got in
    let low = got_within items k c there in
    rooms k c there (omega (arith, low, most))

-- all are copied
pub copied_all : (old items : List Cache) (i : ℕ) → length old ≤ i → StayExact (take i old) items → StayExact old items
copied_all old items i most stay types was = stay types (subst (AreExact types) (sym (take_all i old most)) was)

same_state : (x y : Cache) → y.query ≡ x.query → y.slots.keys ≡ x.slots.keys → y.only ≡ x.only → cache_state y ≡ cache_state x
same_state x y query keys only = rw query (rw keys (rw only refl))

-- what one cache more keeps is copied
pub states_more : (old items : List Cache) (i : ℕ) (x y : Cache) → i < length old → x ≡ get_or old i x → y.query ≡ x.query
    → y.slots.keys ≡ x.slots.keys → y.only ≡ x.only → cache_states items ≡ cache_states (take i old)
    → cache_states (items ++ y ∷ []) ≡ cache_states (take (i + 1) old)
states_more old items i x y within is query keys only same =
    map-append cache_state items (y ∷ [])
    ∙ ap (λ s. cache_states items ++ s ∷ []) (same_state x y query keys only)
    ∙ ap (λ ss. ss ++ cache_state x ∷ []) same
    ∙ sym (map-append cache_state (take i old) (x ∷ []))
    ∙ ap cache_states (ap (λ c. take i old ++ c ∷ []) is ∙ sym (take_more old i x within))

-- what all of them keep is copied
pub states_all : (old items : List Cache) (i : ℕ) → length old ≤ i → cache_states items ≡ cache_states (take i old)
    → cache_states items ≡ cache_states old
states_all old items i most same = same ∙ ap cache_states (take_all i old most)

-- one of the caches changed, and not its query
pub queries_kept : (items : List Cache) (i : ℕ) (y d : Cache) → y.query ≡ (get_or items i d).query
    → kept_queries (slice_set items i y) ≡ kept_queries items
queries_kept items i y d same = map-set_same (λ (c : Cache). c.query) items i y d same

-- what was written back
pub queries_back : (old items zs : List Cache) (len : ℕ) → len ≡ length items → kept_queries items ≡ kept_queries old
    → kept_queries (take len (items ++ zs)) ≡ kept_queries old
queries_back old items zs len is same = ap kept_queries (written_back len items zs is) ∙ same

-- one of the caches changed, and not what it keeps
pub states_kept : (items : List Cache) (i : ℕ) (y d : Cache) → y.query ≡ (get_or items i d).query → y.slots.keys ≡ (get_or items i d).slots.keys
    → y.only ≡ (get_or items i d).only → cache_states (slice_set items i y) ≡ cache_states items
states_kept items i y d query keys only = map-set_same cache_state items i y d (same_state (get_or items i d) y query keys only)

-- the same states, and so the same queries
pub queries_of : (old new : List Cache) → cache_states new ≡ cache_states old → kept_queries new ≡ kept_queries old
queries_of old new same = by new ∙ ap (map (λ (s : CacheState). s.query)) same ∙ sym (by old)
  where
    by : (cs : List Cache) → kept_queries cs ≡ map (λ (s : CacheState). s.query) (cache_states cs)
    by [] = refl
    by (c ∷ cs) = ap (λ qs. c.query ∷ qs) (by cs)
