-- The marks of the free indices: they follow each change of a state.
use Rattle.eco_entities.proofs.Common.{rules, common_steps, ◌≡◌, ℕ, zero, suc, ◌+◌, ◌-◌, ◌<◌, ◌≤◌, Bool, true, false, List, []}
use Rattle.eco_entities.proofs.Common.{◌∷◌, ◌++◌, length, set, take, get_or, slice_get, slice_set, replicate, map, refl, sym, ap, ◌∙◌, Option}
use Rattle.eco_entities.proofs.Common.{Some, None, MatchOption, option_map, ◌⊎◌, inl, inr, arith, nat_lt, if◌then◌else◌, position_from, option_or}
use Rattle.eco_entities.proofs.Common.{cases_Bool, cases_eq, ltb-true, ltb-false, lt-ltb, le-ltb, cond-true, cond-false, same_Some, slice_get_within}
use Rattle.eco_entities.proofs.Common.{slice_get_past, slice_get_read, get_or_from_slice_get, Entity, Indexed, IndexState, Retired, Free, Living, lowest_free}
use Rattle.eco_entities.proofs.Common.{next_entity, admitted, is_alive, is_free_at, map_state, raised, with_death, with_new, with_record, changed, Registration}
use Rattle.eco_entities.proofs.Common.{renamed, IsMarked, GenerationFits, is_free, is_named, next_generation, put_at, state_of, states, IsNextSlot, Slot}
use Rattle.eco_entities.proofs.Common.{Inside, slice_get-set_same, slice_get-set_other, map-replicate}
use Rattle.std.proofs.lemmas.List.{length-append, length-replicate, take_at, length-map, get_or-map, length-set, map-set, set-get_or, map-append}
use Rattle.eco_entities.proofs.Shown.{AgreeBeside, Names, Shows, View, items, labels, free_slot, length-states, nameless_kept, slice_get-states, state_shown}
use Rattle.eco_entities.proofs.Shown.{states-copies, states-push, states-set, states_beside}
use Rattle.eco_entities.proofs.States.{alive_known, free_known, changed_states, next_is}

-- one state changes, and its mark with it
pub marked-set : (limit : ℕ) (xs : List (IndexState Registration)) (marks marks' : List Bool) (i : ℕ) (x : IndexState Registration) →
    IsMarked limit xs marks → i < length xs → GenerationFits (Some x) → marks' ≡ set marks i (is_free x) → IsMarked limit (set xs i x) marks'
marked-set limit xs marks marks' i x m l fits e = search (rules, length-set, map-set, cases_eq, slice_get-set_same, slice_get-set_other)

-- the lowest mark is the lowest free index

abbrev LowestFrom : {A : Type 0} → ℕ → List (IndexState A) → Option ℕ → Type 0
LowestFrom n xs r =
    MatchOption r (lowest_free n xs ≡ None)
    (λ k. (n ≤ k) × (k - n < length xs) × (lowest_free n xs ≡ Some (record { index = k; generation = next_generation (slice_get xs (k - n)) })))

lowest_later : {A : Type 0} (n : ℕ) (x : IndexState A) (xs : List (IndexState A)) (r : Option ℕ) → lowest_free n (x ∷ xs) ≡ lowest_free (n + 1) xs →
    LowestFrom (n + 1) xs r → LowestFrom n (x ∷ xs) r
lowest_later n x xs None e h = e ∙ h
lowest_later n x xs (Some k) e h = grind (arith, common_steps)

pub lowest_marked : {A : Type 0} (n : ℕ) (xs : List (IndexState A)) → LowestFrom n xs (position_from (λ b. b) n (map is_free xs))
lowest_marked n [] = refl
lowest_marked n (Retired ∷ xs) = lowest_later n Retired xs _ refl (lowest_marked (n + 1) xs)
lowest_marked n (Free g ∷ xs) = let here : n - n ≡ 0 = omega arith in (omega arith, omega arith, rw here refl)
lowest_marked n (Living g r ∷ xs) = lowest_later n (Living g r) xs _ refl (lowest_marked (n + 1) xs)

-- a state that stays as free as it was keeps its mark
pub marked_kept : (limit : ℕ) (xs : List (IndexState Registration)) (marks : List Bool) (i : ℕ) (x y : IndexState Registration) →
    IsMarked limit xs marks → slice_get xs i ≡ Some y → is_free x ≡ is_free y → GenerationFits (Some x) → IsMarked limit (set xs i x) marks
marked_kept limit xs marks i x y m here same fits =
    let within : i < length xs = slice_get_within xs i y here in
    let mark : get_or marks i false ≡ is_free y = ap (λ ms. get_or ms i false) m.marked
    ∙ (get_or-map is_free xs i y false within ∙ ap is_free (get_or_from_slice_get xs i y y here)) in
    marked-set limit xs marks marks i x m within fits (sym (set-get_or marks i false) ∙ ap (λ b. set marks i b) (mark ∙ sym same))

pub fits_at : (limit : ℕ) (xs : List (IndexState Registration)) (marks : List Bool) (i : ℕ) (y : IndexState Registration) → IsMarked limit xs marks →
    slice_get xs i ≡ Some y → GenerationFits (Some y)
fits_at limit xs marks i y m here = rw here at (m.fit i)

pub fits-map_state : (change : Registration → Registration) (y : IndexState Registration) → GenerationFits (Some y)
    → GenerationFits (Some (map_state change y))
fits-map_state change y f = grind (arith, common_steps)

pub is_free-map_state : (change : Registration → Registration) (y : IndexState Registration) → is_free (map_state change y) ≡ is_free y
is_free-map_state change y = grind (arith, common_steps)

abbrev with_state : ℕ → IndexState Registration → Indexed Registration → Indexed Registration
with_state i x v = record v { indices = slice_set v.indices i x }

pub fits-raised : (A : Type 0) (g : ℕ) → GenerationFits {A = A} (Some (raised g))
fits-raised A g = grind (arith, common_steps)

-- who is made next

lowest_unmarked : (limit : ℕ) (xs : List (IndexState Registration)) (marks : List Bool) → IsMarked limit xs marks →
    None ≡ position_from (λ b. b) 0 marks → lowest_free 0 xs ≡ None
lowest_unmarked limit xs marks m none = grind (arith, common_steps, lowest_marked)

lowest_mark : (limit : ℕ) (xs : List (IndexState Registration)) (marks : List Bool) (k : ℕ) → IsMarked limit xs marks →
    Some k ≡ position_from (λ b. b) 0 marks → (k < length xs)
    × (lowest_free 0 xs ≡ Some (record { index = k; generation = next_generation (slice_get xs k) }))
lowest_mark limit xs marks k m some =
    let found : LowestFrom 0 xs (position_from (λ b. b) 0 marks) = rw m.marked (lowest_marked 0 xs) in
    let here : LowestFrom 0 xs (Some k) = rw (← some) at found in
    let place : k - 0 ≡ k = omega arith in
    (rw place at here.1, rw place at here.2)

pub mark_within : (limit : ℕ) (xs : List (IndexState Registration)) (marks : List Bool) (k : ℕ) → IsMarked limit xs marks →
    Some k ≡ position_from (λ b. b) 0 marks → k < 1048576
mark_within limit xs marks k m some = let l : k < length xs = (lowest_mark limit xs marks k m some).0 in omega (arith, m.limited, m.within)

-- the first unknown index, where there is one below the limit
abbrev first_unknown : ℕ → ℕ → Option Entity
first_unknown limit known = if nat_lt known limit then Some (record { index = known; generation = 0 }) else None

next_free : (limit : ℕ) (xs : List (IndexState Registration)) (e : Entity) → lowest_free 0 xs ≡ Some e →
    next_entity {A = Registration} (record { limit = limit; indices = xs }) ≡ Some e
next_free limit xs e low = ap (λ o. option_or o (first_unknown limit (length xs))) low

next_unknown : (limit : ℕ) (xs : List (IndexState Registration)) → lowest_free 0 xs ≡ None →
    next_entity {A = Registration} (record { limit = limit; indices = xs }) ≡ first_unknown limit (length xs)
next_unknown limit xs low = ap (λ o. option_or o (first_unknown limit (length xs))) low

-- more free indices at the end

pub fits-append : {A : Type 0} (xs ys : List (IndexState A)) → ((i : ℕ) → GenerationFits (slice_get xs i))
    → ((i : ℕ) → GenerationFits (slice_get ys i)) → (i : ℕ) → GenerationFits (slice_get (xs ++ ys) i)
fits-append [] ys f g i = g i
fits-append (x ∷ xs) ys f g zero = f zero
fits-append (x ∷ xs) ys f g (suc i) = fits-append xs ys (λ j. f (suc j)) g i

fits-fresh : (A : Type 0) (n i : ℕ) → GenerationFits {A = A} (slice_get (replicate n (Free 0)) i)
fits-fresh A zero i = tt
fits-fresh A (suc n) zero = omega arith
fits-fresh A (suc n) (suc i) = fits-fresh A n i

fits-one : (g : ℕ) (r : Registration) → g ≤ 65535 → (i : ℕ) → GenerationFits (slice_get (Living g r ∷ []) i)
fits-one g r l zero = l
fits-one g r l (suc i) = tt

abbrev with_last : ℕ → Registration → Indexed Registration → Indexed Registration
with_last g r v = record v { indices = v.indices ++ Living g r ∷ [] }

cases_lt : (a b : ℕ) → (a < b) ⊎ (b ≤ a)
cases_lt a b = grind (arith, common_steps, cases_Bool, ltb-true, ltb-false)

-- the marks fit the states, and the slots with their labels show the index
abbrev pub ShowsMarked : ℕ → Names → List Slot → List Bool → Indexed Registration → Type 0
ShowsMarked limit label slots marks w = IsMarked limit (states label slots) marks × Shows limit label slots w

-- what is kept

module _ (kept : Inside) (w : Indexed Registration) (m : IsMarked kept.limit (states (labels kept) (items kept)) kept.free) (view : View kept w) where
  -- the states that are shown
  abbrev seen : List (IndexState Registration)
  seen = states (labels kept) (items kept)

  length_seen : length seen ≡ length (items kept)
  length_seen = length-states (labels kept) (items kept)

  pub length_shown : length w.indices ≡ length (items kept)
  length_shown = ap (λ (v : Indexed Registration). length v.indices) (sym view) ∙ length_seen

  pub marks_as_slots : length kept.free ≡ length (items kept)
  marks_as_slots = ap length m.marked ∙ (length-map seen is_free ∙ length_seen)

  -- what a slot shows where it was read
  state_read : (i : ℕ) (x : Slot) → i < length (items kept) → x ≡ get_or (items kept) i x → slice_get seen i ≡ Some (state_of (labels kept i) x)
  state_read i x l read = slice_get-states (labels kept) (items kept) i
      ∙ ap (option_map (state_of (labels kept i))) (slice_get_read (items kept) (length (items kept)) i x refl l read)

  living_there : (e : Entity) → is_alive w e ≡ true → (r : Registration) × (slice_get seen e.index ≡ Some (Living e.generation r))
  living_there e alive = grind (arith, common_steps, alive_known)

  within_by : (i : ℕ) (x : IndexState Registration) → slice_get seen i ≡ Some x → i < length (items kept)
  within_by i x known = omega (arith, slice_get_within seen i x known, length_seen)

  pub alive_within : (e : Entity) → is_alive w e ≡ true → e.index < length (items kept)
  alive_within e alive = grind (arith, common_steps, labels, items, living_there, within_by)

  pub free_within : (e : Entity) → is_free_at w e ≡ true → e.index < length (items kept)
  free_within e free = within_by e.index (Free e.generation) (ap (λ (v : Indexed Registration). slice_get v.indices e.index) view ∙ free_known w e free)

  -- a change of what is kept of a living entity, with its label
  pub slot_changed : (label' : Names) (e : Entity) (old new : Slot) (change : Registration → Registration) →
      AgreeBeside e.index (labels kept) label' → is_alive w e ≡ true →
      old ≡ get_or (items kept) e.index old → state_of (label' e.index) new ≡ map_state change (state_of (labels kept e.index) old) →
      ShowsMarked kept.limit label' (set (items kept) e.index new) kept.free (changed w e change)
  slot_changed label' e old new change apart alive read is =
      let within : e.index < length (items kept) = alive_within e alive in
      let here : slice_get seen e.index ≡ Some (state_of (labels kept e.index) old) = state_read e.index old within read in
      let known : is_alive (record { limit = kept.limit; indices = seen }) e ≡ true = ap (λ (v : Indexed Registration). is_alive v e) view ∙ alive in
      let shown : states label' (set (items kept) e.index new) ≡ set seen e.index (state_of (label' e.index) new) =
      states-set (labels kept) label' (items kept) e.index new apart in (
        rw (shown, is) (marked_kept kept.limit seen kept.free e.index (map_state change (state_of (labels kept e.index) old))
            (state_of (labels kept e.index) old) m here (is_free-map_state change (state_of (labels kept e.index) old))
            (fits-map_state change (state_of (labels kept e.index) old)
            (fits_at kept.limit seen kept.free e.index (state_of (labels kept e.index) old) m here))),
        rw shown (changed_states kept.limit seen e (state_of (label' e.index) new) (state_of (labels kept e.index) old) change known here is
            ∙ ap (λ (v : Indexed Registration). changed v e change) view),
      )

  -- who has no name loses none
  pub unnamed_same : (e : Entity) (old : Slot) → is_alive w e ≡ true → old ≡ get_or (items kept) e.index old → is_named old.state ≡ false
      → w ≡ changed w e (renamed None)
  unnamed_same e old alive read nameless =
      let same : (items kept) ≡ set (items kept) e.index old = sym (ap (set (items kept) e.index) read ∙ set-get_or (items kept) e.index old) in
      sym view ∙ (ap (λ ss. record { limit = kept.limit; indices = states (labels kept) ss }) same
      ∙ (slot_changed (labels kept) e old old (renamed None) (λ k n. refl) alive read (nameless_kept (labels kept e.index) old nameless)).1)

  -- another state at a known index
  pub slot_put : (marks' : List Bool) (i : ℕ) (new : Slot) (x : IndexState Registration) → i < length (items kept) →
      state_of (labels kept i) new ≡ x → GenerationFits (Some x) → marks' ≡ set kept.free i (is_free x) →
      ShowsMarked kept.limit (labels kept) (set (items kept) i new) marks' (record w { indices = slice_set w.indices i x })
  slot_put marks' i new x l is fits mark =
      let shown : states (labels kept) (set (items kept) i new) ≡ set seen i x =
      states-set (labels kept) (labels kept) (items kept) i new (λ k n. refl) ∙ ap (set seen i) is in
      let within : i < length seen = rw length_seen l in (
        rw shown (marked-set kept.limit seen kept.free marks' i x m within fits mark),
        rw shown (ap (with_state i x) view),
      )

  -- who lives isn't marked
  pub living_unmarked : (e : Entity) → is_alive w e ≡ true → kept.free ≡ set kept.free e.index false
  living_unmarked e alive =
      let living : (r : Registration) × (slice_get seen e.index ≡ Some (Living e.generation r)) = living_there e alive in
      let within : e.index < length seen = slice_get_within seen e.index (Living e.generation living.0) living.1 in
      let mark : get_or kept.free e.index false ≡ false = ap (λ ms. get_or ms e.index false) m.marked
      ∙ (get_or-map is_free seen e.index (Living e.generation living.0) false within
      ∙ ap is_free (get_or_from_slice_get seen e.index (Living e.generation living.0) (Living e.generation living.0) living.1)) in
      sym (ap (λ b. set kept.free e.index b) (sym mark) ∙ set-get_or kept.free e.index false)

  -- the state that a death leaves
  pub slot_died : (marks' : List Bool) (e : Entity) (new : Slot) → is_alive w e ≡ true → state_of (labels kept e.index) new ≡ raised e.generation
      → marks' ≡ set kept.free e.index (is_free (state_of (labels kept e.index) new)) →
      ShowsMarked kept.limit (labels kept) (set (items kept) e.index new) marks' (with_death w e)
  slot_died marks' e new alive is mark = slot_put marks' e.index new (raised e.generation) (alive_within e alive) is (fits-raised Registration e.generation)
      (mark ∙ ap (λ x. set kept.free e.index (is_free x)) is)

  pub next_marked : (k g : ℕ) → Some k ≡ position_from (λ b. b) 0 kept.free →
      g ≡ next_generation (slice_get w.indices k) → Some (record { index = k; generation = g }) ≡ next_entity w
  next_marked k g some is =
      let same : g ≡ next_generation (slice_get seen k) = is ∙ ap (λ (v : Indexed Registration). next_generation (slice_get v.indices k)) (sym view) in
      ap (λ n. Some (record { index = k; generation = n })) same ∙ (sym (next_free kept.limit seen _ (lowest_mark kept.limit seen kept.free k m some).1)
      ∙ ap next_entity view)

  pub next_fresh : (k g : ℕ) → None ≡ position_from (λ b. b) 0 kept.free → k ≡ length (items kept) →
      k < kept.limit → g ≡ next_generation (slice_get w.indices k) → Some (record { index = k; generation = g }) ≡ next_entity w
  next_fresh k g none known below is =
      let whole : length seen ≡ k = length_seen ∙ sym known in
      let past : slice_get seen k ≡ None = slice_get_past seen k (omega arith) in
      let zero_is : g ≡ 0 = is ∙ (ap (λ (v : Indexed Registration). next_generation (slice_get v.indices k)) (sym view) ∙ ap next_generation past) in
      ap (λ n. Some (record { index = k; generation = n })) zero_is
      ∙ (sym (ap (first_unknown kept.limit) whole ∙ cond-true (nat_lt k kept.limit) (Some (record { index = k; generation = 0 })) None
      (lt-ltb k kept.limit below)) ∙ (sym (next_unknown kept.limit seen (lowest_unmarked kept.limit seen kept.free m none)) ∙ ap next_entity view))

  pub next_over : None ≡ position_from (λ b. b) 0 kept.free → kept.limit ≤ length (items kept) → None ≡ next_entity w
  next_over none over =
      let whole : length seen ≡ length (items kept) = length_seen in
      sym (ap (first_unknown kept.limit) whole ∙ cond-false (nat_lt (length (items kept)) kept.limit)
      (Some (record { index = length (items kept); generation = 0 })) None (le-ltb (length (items kept)) kept.limit over))
      ∙ (sym (next_unknown kept.limit seen (lowest_unmarked kept.limit seen kept.free m none)) ∙ ap next_entity view)

  pub slots_admitted : (slots' : List Slot) (grown marks' : List Bool) (n : ℕ) (new : Slot) →
      length (items kept) + n ≤ kept.limit → slots' ≡ (items kept) ++ replicate n new → ((l : Option (List ℕ)) → state_of l new ≡ Free 0)
      → grown ≡ kept.free ++ replicate n false → marks' ≡ take (length (items kept)) grown ++ replicate (length grown - length (items kept)) true →
      ShowsMarked kept.limit (labels kept) slots' marks' (admitted n w)
  slots_admitted slots' grown marks' n new room more fresh zeros filled = grind (
    arith,
    common_steps,
    labels,
    items,
    length-states,
    length-map,
    length-append,
    length-replicate,
    take_at,
    states-copies,
    map-append,
    map-replicate,
    fits-append,
    fits-fresh,
  )

  pub room_inside : (n : ℕ) → length w.indices + n ≤ w.limit → length (items kept) + n ≤ kept.limit
  room_inside n room = grind (arith, common_steps, items, length_shown)

  -- ---- the next entity's slot, at its index or after the last one
  next_within : (e : Entity) → next_entity w ≡ Some e → (e.index ≤ length (items kept))
      × (length (items kept) ≤ e.index → length (items kept) + 1 ≤ kept.limit)
  next_within e next =
      let known : length w.indices ≡ length (items kept) = length_shown in
      let bound : kept.limit ≡ w.limit = ap (λ (v : Indexed Registration). v.limit) view in
      elim (next_is w e next) [
        | inl free ↦
            let there : e.index < length w.indices = slice_get_within w.indices e.index (Free e.generation) free in
            (omega arith, λ past. absurd (omega arith))
        | inr fresh ↦
            let below : length w.indices < w.limit = fresh.0 in
            let index : length w.indices ≡ e.index = ap (λ (x : Entity). x.index) fresh.1 in
            (omega arith, λ past. omega arith)
      ]

  pub next_slot : (e : Entity) → next_entity w ≡ Some e → IsNextSlot e.index (length (items kept)) (length kept.free)
  next_slot e next = grind (arith, common_steps, labels, items, length-states, next_within, marks_as_slots)

  -- another label there, and still nobody
  pub next_unlabelled : (e : Entity) (label' : Names) → AgreeBeside e.index (labels kept) label' → next_entity w ≡ Some e
      → states label' (items kept) ≡ seen
  next_unlabelled e label' apart next = states_beside (labels kept) label' (items kept) e.index apart (λ s there. elim (next_is w e next) [
    | inl free ↦
        let shown : Some (state_of (labels kept e.index) s) ≡ Some (Free e.generation) =
        sym (state_shown kept w view e.index (Some s) (sym there)) ∙ free in
        let is : is_free (state_of (labels kept e.index) s) ≡ true = ap is_free (same_Some _ _ shown) in
        free_slot (labels kept e.index) (label' e.index) s is ∙ sym (free_slot (labels kept e.index) (labels kept e.index) s is)
    | inr fresh ↦
        let within : e.index < length (items kept) = slice_get_within (items kept) e.index s there in
        let known : length w.indices ≡ length (items kept) = length_shown in
        let index : length w.indices ≡ e.index = ap (λ (x : Entity). x.index) fresh.1 in
        absurd (omega arith)
  ])

  -- it lives with this kept of it, and isn't marked
  pub slot_settled : (e : Entity) (label' : Names) (slots' : List Slot) (marks' : List Bool) (new : Slot) (r : Registration) →
      AgreeBeside e.index (labels kept) label' → next_entity w ≡ Some e →
      e.generation ≤ 65535 → state_of (label' e.index) new ≡ Living e.generation r → slots' ≡ put_at e.index new (items kept)
      → marks' ≡ put_at e.index false kept.free → ShowsMarked kept.limit label' slots' marks' (with_new w e r)
  slot_settled e label' slots' marks' new r apart next small is put unmarked =
      let at : (e.index ≤ length (items kept)) × (length (items kept) ≤ e.index → length (items kept) + 1 ≤ kept.limit) = next_within e next in
      let same = length_seen in
      let known : length w.indices ≡ length (items kept) = length_shown in
      let marked : length kept.free ≡ length (items kept) = marks_as_slots in
      elim (cases_lt e.index (length (items kept))) [
        | inl l ↦
            let slots_are : slots' ≡ set (items kept) e.index new = put ∙ cond-true (nat_lt e.index (length (items kept))) _ _ (lt-ltb _ _ l) in
            let marks_are : marks' ≡ set kept.free e.index false = unmarked
            ∙ cond-true (nat_lt e.index (length kept.free)) _ _ (lt-ltb _ _ (omega arith)) in
            let shown : states label' slots' ≡ set seen e.index (Living e.generation r) =
            ap (states label') slots_are ∙ (states-set (labels kept) label' (items kept) e.index new apart ∙ ap (set seen e.index) is) in (
              rw shown (marked-set kept.limit seen kept.free marks' e.index (Living e.generation r) m (omega arith) small marks_are),
              rw shown (ap (with_state e.index (Living e.generation r)) view
                  ∙ sym (cond-true (nat_lt e.index (length w.indices)) (with_record w e r) _ (lt-ltb _ _ (omega arith)))),
            )
        | inr past ↦
            let there : e.index ≡ length (items kept) = let within : e.index ≤ length (items kept) = at.0 in omega arith in
            let room : length (items kept) + 1 ≤ kept.limit = at.1 past in
            let slots_are : slots' ≡ (items kept) ++ new ∷ [] = put ∙ cond-false (nat_lt e.index (length (items kept))) _ _ (le-ltb _ _ past) in
            let marks_are : marks' ≡ kept.free ++ false ∷ [] = unmarked ∙ cond-false (nat_lt e.index (length kept.free)) _ _ (le-ltb _ _ (omega arith)) in
            let shown : states label' slots' ≡ seen ++ Living e.generation r ∷ [] = grind (arith, common_steps, states-push, labels, items) in (
              rw shown (record {
                limited = m.limited;
                within = rw (length-append, same) room;
                marked = marks_are ∙ (ap (λ ms. ms ++ false ∷ []) m.marked ∙ sym (map-append is_free seen (Living e.generation r ∷ [])));
                fit = fits-append seen (Living e.generation r ∷ []) m.fit (fits-one e.generation r small);
              }),
              rw shown (ap (with_last e.generation r) view
                  ∙ sym (cond-false (nat_lt e.index (length w.indices)) (with_record w e r) _ (le-ltb _ _ (omega arith)))),
            )
      ]
