-- What patterns bring, by the ids of their heads, and their closures.
use Rattle.eco_frame.proofs.BatchesCommon.{◌≡◌, ℕ, zero, suc, ◌<◌, ◌==◌, Bool, true, false, ◌↔◌, ◌⊎◌, inl, inr, List, [], ◌∷◌, ◌++◌, map, flat_map, refl}
use Rattle.eco_frame.proofs.BatchesCommon.{sym, ap, ◌∙◌, subst, ◌+◌, ◌^◌, if◌then◌else◌, append_assoc, get_or, length, take, IsTrue, true≢false, arith}
use Rattle.eco_frame.proofs.BatchesCommon.{Option, Some, None, option_map, option_to_list, slice_get, AllByRecursion, list_any, map-append, take_more}
use Rattle.eco_frame.proofs.BatchesCommon.{same_Some, none-some, neither, Entity, Id, Part, Is, Each, Any, Pattern, One, Two, WorldState, Record, has}
use Rattle.eco_frame.proofs.BatchesCommon.{record_of, id_eq_is, id_eq_itself, entity_eq_is, entity_eq_itself, pattern_head, pattern_with_head}
use Rattle.eco_frame.proofs.BatchesCommon.{BringsPattern, InClosedPatterns, some_left, some_right, AreClosed, HasKnownTarget, brought, brought_by}
use Rattle.eco_frame.proofs.BatchesCommon.{BringsNothing, ids_in, pattern_key, keys_by, known_keys, key_pattern, targets_below, Key}
use Rattle.std.proofs.lemmas.Bool.{cases_eq}
use Rattle.std.proofs.lemmas.Grind.{flat_map-append}
use Rattle.eco_ids.specs.declared.entity.TheConstants.{WITH}
use Rattle.eco_ids.specs.Indices.{IndexState, Retired, Free, Living, record_in}
use Rattle.eco_ids.specs.Least.{root, next}
use Rattle.eco_ids.specs.Order.{entity_eq, has_item, id_cmp, id_eq}
use Rattle.eco_ids.proofs.Exact.{keys, keys_find}
use Rattle.eco_ids.proofs.Keeps.{has_in}
use Rattle.eco_systems.specs.Laws.{HeadsBring}
use Rattle.eco_ids.specs.Mirrors.{is_with}
use Rattle.eco_traits.specs.Target.{type_of_record}
use Rattle.eco_search.specs.Search.{Appends, Covers, IsInLeast, IsLeastSet, is_among}
use Rattle.eco_frame.specs.Brought.{below}
use Rattle.eco_frame.specs.KeyLaws.{same_keys}
use Rattle.eco_frame.proofs.Members.{Member, from_flat, from_map, in_flat, in_map, in_parts, passes, passing}
use Rattle.eco_frame.proofs.Patterns.{pattern_eq-Decides}
use Rattle.eco_ids.specs.declared.id.Id.TheVariants as id
use Rattle.eco_frame.specs.contracts.key.KeyPartialEq.TheImpl as key_eq

abbrev pub Brings : WorldState → Key → Key → Type 0
Brings w a b = BringsPattern w a.pattern b.pattern

abbrev same_key : Key → Key → Bool
same_key = (key_eq.eq-value).it

-- ---- by the ids of the head

item_is_member : (ids : List Id) (i : Id) → IsTrue (has_item id_cmp ids i) ↔ Member i ids
item_is_member ids i = (
  λ h. let one = passing (λ j. id_eq j i) ids h in subst (λ j. Member j ids) (id_eq_is one.0 i one.2) one.1,
  λ m. passes (λ j. id_eq j i) ids m (id_eq_itself i),
)

by_with : (p : Pattern) (x : Entity) → brought_by p (id.Two WITH x) ≡ Some (pattern_with_head p x)
by_with p x = ap (λ b. if b then Some (pattern_with_head p x) else None) (entity_eq_itself WITH)

by_id : (p q : Pattern) (i : Id) → Member q (option_to_list (brought_by p i)) → (x : Entity) × (i ≡ id.Two WITH x) × (pattern_with_head p x ≡ q)
by_id p q (id.One e) m = absurd m
by_id p q (id.Two r x) m = by (entity_eq r WITH) refl m
  where
    by : (b : Bool) → entity_eq r WITH ≡ b → Member q (option_to_list (if b then Some (pattern_with_head p x) else None))
        → (y : Entity) × (id.Two r x ≡ id.Two WITH y) × (pattern_with_head p y ≡ q)
    by true e (inl is) = (x, ap (λ s. id.Two s x) (entity_eq_is r WITH e), is)
    by true e (inr none) = absurd none
    by false e none = absurd none

-- a pattern brings what the ids of its head say
pub brought_by_ids : HeadsBring → (w : WorldState) (p : Pattern) (h : Entity) (ids : List Id) → pattern_head p ≡ Some h
    → ((x : Entity) → has w h (id.Two WITH x) ≡ has_item id_cmp ids (id.Two WITH x)) → (q : Pattern)
    → BringsPattern w p q ↔ Member q (brought p ids)
brought_by_ids brings w p h ids at own q = (
  λ b.
      let (g, x, head, pair, is) = (brings w p q).0 b in
      let held = subst (λ e. IsTrue (has w e (id.Two WITH x))) (same_Some g h (sym head ∙ at)) pair in
      in_flat (λ i. option_to_list (brought_by p i)) (id.Two WITH x) q ids ((item_is_member ids (id.Two WITH x)).0 (sym (own x) ∙ held))
      (subst (λ o. Member q (option_to_list o)) (sym (by_with p x)) (inl (sym is))),
  λ m.
      let some = from_flat (λ i. option_to_list (brought_by p i)) q ids m in
      let (x, pair, is) = by_id p q some.0 some.2 in
      (brings w p q).1 (h, x, at, own x ∙ (item_is_member ids (id.Two WITH x)).1 (subst (λ i. Member i ids) pair some.1), sym is),
)

has_listed : (o : Option Record) (i : Id) (ids : List Id) → Some ids ≡ option_map type_of_record o → has_in o i ≡ has_item id_cmp ids i
has_listed None i ids own = absurd (none-some ids (sym own))
has_listed (Some d) i ids own = keys_find d.held i ∙ ap (λ xs. has_item id_cmp xs i) (sym (same_Some ids (keys d.held) own))

pub has_shown : (w : WorldState) (e : Entity) (ids shown : List Id) → Some ids ≡ option_map type_of_record (record_of w e) → shown ≡ ids
    → (x : Entity) → has w e (id.Two WITH x) ≡ has_item id_cmp shown (id.Two WITH x)
has_shown w e ids shown own is x = has_listed (record_of w e) (id.Two WITH x) ids own ∙ ap (λ xs. has_item id_cmp xs (id.Two WITH x)) (sym is)

-- a pattern of whose head no id is a pair of With brings nothing
none_brought : (p : Pattern) (ids : List Id) → list_any is_with ids ≡ false → brought p ids ≡ []
none_brought p [] h = refl
none_brought p (id.One e ∷ ids) h = none_brought p ids h
none_brought p (id.Two r x ∷ ids) h =
    let parts = neither (entity_eq r WITH) (list_any is_with ids) h in
    ap (λ c. option_to_list (if c then Some (pattern_with_head p x) else None) ++ brought p ids) parts.0 ∙ none_brought p ids parts.1

pub nothing_by : (w : WorldState) (p : Pattern) (ids : List Id) → list_any is_with ids ≡ false
    → ((q : Pattern) → BringsPattern w p q ↔ Member q (brought p ids))
    → (q : Pattern) → BringsPattern w p q → ⊥
nothing_by w p ids none exact q b = subst (Member q) (none_brought p ids none) ((exact q).0 b)

-- one of whose head an id is a pair of With brings something
pub brings_by : (w : WorldState) (p : Pattern) (ids : List Id) → list_any is_with ids ≡ true
    → ((q : Pattern) → BringsPattern w p q ↔ Member q (brought p ids)) → BringsNothing w p → ⊥
brings_by w p ids some exact none = found (passing is_with ids some)
  where
    found : (i : Id) × Member i ids × (is_with i ≡ true) → ⊥
    found (id.One e, m, is) = true≢false (sym is)
    found (id.Two r x, m, is) =
        let q = pattern_with_head p x in
        none q ((exact q).1 (in_flat (λ i. option_to_list (brought_by p i)) (id.Two r x) q ids m
        (subst (λ b. Member q (option_to_list (if b then Some q else None))) (sym is) (inl refl))))

-- one more id is looked at
pub brought_more : (ids : List Id) (k : ℕ) (d : Id) (start now : List Key) (o : Option Pattern) (p : Pattern) → k < length ids
    → o ≡ brought_by p (get_or ids k d) → now ≡ start ++ map pattern_key (brought p (take k ids))
    → now ++ option_to_list (option_map pattern_key o) ≡ start ++ map pattern_key (brought p (take (k + 1) ids))
brought_more ids k d start now o p there is before =
    ap (λ l. l ++ option_to_list (option_map pattern_key o)) before
    ∙ append_assoc start (map pattern_key (brought p (take k ids))) (option_to_list (option_map pattern_key o))
    ∙ ap (λ l. start ++ l) (sym more)
  where
    listed : (o : Option Pattern) → map pattern_key (option_to_list o ++ []) ≡ option_to_list (option_map pattern_key o)
    listed None = refl
    listed (Some q) = refl

    more : map pattern_key (brought p (take (k + 1) ids)) ≡ map pattern_key (brought p (take k ids)) ++ option_to_list (option_map pattern_key o)
    more =
        ap (λ l. map pattern_key (brought p l)) (take_more ids k d there)
        ∙ ap (map pattern_key) (flat_map-append (λ i. option_to_list (brought_by p i)) (take k ids) (get_or ids k d ∷ []))
        ∙ map-append pattern_key (brought p (take k ids)) (option_to_list (brought_by p (get_or ids k d)) ++ [])
        ∙ ap (λ l. map pattern_key (brought p (take k ids)) ++ l) (ap (λ r. map pattern_key (option_to_list r ++ [])) (sym is) ∙ listed o)

-- ---- an end to them

below_has : (i n : ℕ) → i < n → Member i (below n)
unfolding below
below_has i zero h = let no : ⊥ = omega arith in absurd no
below_has i (suc n) h =
    elim (cases_eq i n) [
      | inl e ↦ inl (sym e)
      | inr ne ↦ let less : i < n = omega arith in inr (below_has i n less)
    ]

abbrev IsBelow : ℕ → ℕ → Part → Type 0
IsBelow m n (Is e) = (e.index < m) × (e.generation < n)
IsBelow m n Each = Unit {0}
IsBelow m n Any = Unit {0}

abbrev HasTargetBelow : ℕ → ℕ → Pattern → Type 0
HasTargetBelow m n (One e) = Unit {0}
HasTargetBelow m n (Two p q) = IsBelow m n q

target_below : (p : Pattern) → HasKnownTarget p → HasTargetBelow (2 ^ 32) (2 ^ 16) p
target_below (One c) h = tt
target_below (Two r (Is e)) h = h
target_below (Two r Each) h = tt
target_below (Two r Any) h = tt

target_listed : (m n : ℕ) (q : Part) → IsBelow m n q → Member q (targets_below m n)
target_listed m n Each h = inl refl
target_listed m n Any h = inr (inl refl)
target_listed m n (Is e) h =
    inr (inr (in_flat (λ i. map (λ g. Is (record { index = i; generation = g })) (below n)) e.index (Is e) (below m) (below_has e.index m h.0)
    (in_map (λ g. Is (record { index = e.index; generation = g })) e.generation (below n) (below_has e.generation n h.1))))

held_by : (states : List (IndexState Record)) (n g : ℕ) (i : Id) → IsTrue (has_in (record_in (slice_get states n) g) i)
    → Member i (flat_map ids_in states)
held_by [] n g i h = absurd (true≢false (sym h))
held_by (Retired ∷ rest) zero g i h = absurd (true≢false (sym h))
held_by (Free f ∷ rest) zero g i h = absurd (true≢false (sym h))
held_by (Living f r ∷ rest) zero g i h = some_left _ (keys r.held) (flat_map ids_in rest) (by (g == f) h)
  where
    by : (b : Bool) → IsTrue (has_in (if b then Some r else None) i) → Member i (keys r.held)
    by true k = (item_is_member (keys r.held) i).0 (sym (keys_find r.held i) ∙ k)
    by false k = absurd (true≢false (sym k))
held_by (s ∷ rest) (suc n) g i h = some_right _ (ids_in s) (flat_map ids_in rest) (held_by rest n g i h)

module _ (w : WorldState) where
  -- what a pattern brings is known
  known_by : (targets : List Part) (e x : Entity) (k : Key) → IsTrue (has w e (id.Two WITH x)) → Member k (keys_by targets (id.Two WITH x))
      → Member k (flat_map (keys_by targets) (flat_map ids_in w.indices))
  known_by targets e x k h m =
      in_flat (keys_by targets) (id.Two WITH x) k (flat_map ids_in w.indices) (held_by w.indices e.index e.generation (id.Two WITH x) h) m

  known_below : HeadsBring → (m n : ℕ) (p q : Pattern) → HasTargetBelow m n p → BringsPattern w p q
      → Member (pattern_key q) (flat_map (keys_by (targets_below m n)) (flat_map ids_in w.indices))
  known_below brings m n p q is b =
      let (h, x, at, pair, same) = (brings w p q).0 b in
      subst (λ r. Member (pattern_key r) (flat_map (keys_by (targets_below m n)) (flat_map ids_in w.indices))) (sym same) (by h x pair p is)
    where
      by : (h x : Entity) → IsTrue (has w h (id.Two WITH x)) → (p : Pattern) → HasTargetBelow m n p
          → Member (pattern_key (pattern_with_head p x)) (flat_map (keys_by (targets_below m n)) (flat_map ids_in w.indices))
      by h x pair (One c) is = known_by (targets_below m n) h x (pattern_key (One x)) pair (inl refl)
      by h x pair (Two r t) is =
          known_by (targets_below m n) h x (pattern_key (Two (Is x) t)) pair
          (inr (in_map (λ q. pattern_key (Two (Is x) q)) t (targets_below m n) (target_listed m n t is)))

  among_is_member : (ks : List Key) (k : Key) → IsTrue (is_among same_key ks k) ↔ Member k ks
  among_is_member ks k = (
    λ h. let one = passing (same_key k) ks h in subst (λ j. Member j ks) (sym (same_keys k one.0 one.2)) one.1,
    λ m. passes (same_key k) ks m ((pattern_eq-Decides k.pattern k.pattern).1 refl),
  )

  pub all_known : HeadsBring → (p : Key) → HasKnownTarget p.pattern → Covers same_key (known_keys w) (Brings w p)
  all_known brings p is q b = (among_is_member (known_keys w) q).1 (known_below brings (2 ^ 32) (2 ^ 16) p.pattern q.pattern (target_below p.pattern is) b)

  -- ---- closures

  pub appended : (p : Key) (old new : List Key) (ids : List Id) → new ≡ old ++ map pattern_key (brought p.pattern ids)
      → ((q : Pattern) → BringsPattern w p.pattern q ↔ Member q (brought p.pattern ids)) → Appends same_key (Brings w p) old new
  appended p old new ids more exact k = (
    λ h. there (in_parts k old (map pattern_key (brought p.pattern ids)) (subst (Member k) more ((among_is_member new k).0 h))),
    λ s. (among_is_member new k).1 (subst (Member k) (sym more) (here s)),
  )
    where
      there : Member k old ⊎ Member k (map pattern_key (brought p.pattern ids)) → IsTrue (is_among same_key old k) ⊎ Brings w p k
      there (inl m) = inl ((among_is_member old k).1 m)
      there (inr m) =
          let one = from_map pattern_key (brought p.pattern ids) m in
          inr ((exact k.pattern).1 (subst (λ q. Member q (brought p.pattern ids)) (ap key_pattern one.2) one.1))

      here : IsTrue (is_among same_key old k) ⊎ Brings w p k → Member k (old ++ map pattern_key (brought p.pattern ids))
      here (inl h) = some_left _ old _ ((among_is_member old k).0 h)
      here (inr b) = some_right _ old _ (in_map pattern_key k.pattern (brought p.pattern ids) ((exact k.pattern).0 b))

  -- the least set of the keys is the closure
  pub closed : (ps : List Pattern) (roots ks : List Key) → roots ≡ map pattern_key ps → IsLeastSet same_key (Brings w) roots ks
      → AreClosed w ps (map key_pattern ks)
  closed ps roots ks made least p = (
    λ m. let one = from_map key_pattern ks m in
        subst (InClosedPatterns w ps) one.2 (there ((least one.0).0 ((among_is_member ks one.0).1 one.1))),
    λ c. in_map key_pattern (pattern_key p) ks ((among_is_member ks (pattern_key p)).0 ((least (pattern_key p)).1 (here c))),
  )
    where
      there : {k : Key} → IsInLeast same_key (Brings w) roots k → InClosedPatterns w ps k.pattern
      there {k = k} (root h) =
          let one = from_map pattern_key ps (subst (Member k) made ((among_is_member roots k).0 h)) in
          root (subst (λ q. Member q ps) (ap key_pattern one.2) one.1)
      there (next m b) = next (there m) b

      here : {q : Pattern} → InClosedPatterns w ps q → IsInLeast same_key (Brings w) roots (pattern_key q)
      here {q = q} (root m) = root ((among_is_member roots (pattern_key q)).1 (subst (Member (pattern_key q)) (sym made) (in_map pattern_key q ps m)))
      here (next c b) = next (here c) b

  -- patterns that bring nothing are closed
  pub closed_alone : (ps : List Pattern) → AllByRecursion (BringsNothing w) ps → AreClosed w ps ps
  closed_alone ps none p = (λ m. root m, λ c. here c)
    where
      at : (zs : List Pattern) → AllByRecursion (BringsNothing w) zs → (q : Pattern) → Member q zs → BringsNothing w q
      at [] none q m = absurd m
      at (z ∷ zs) none q (inl e) = subst (BringsNothing w) e none.0
      at (z ∷ zs) none q (inr m) = at zs none.1 q m

      here : {q : Pattern} → InClosedPatterns w ps q → Member q ps
      here (root m) = m
      here (next {a = a} {b = b} c brings) = absurd (at ps none a (here c) b brings)
