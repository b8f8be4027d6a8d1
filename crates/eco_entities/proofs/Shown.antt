-- What slots and labels show of the indices.
use Rattle.eco_entities.proofs.Common.{common_steps, ◌≡◌, ◌≢◌, ℕ, zero, suc, ◌<◌, ◌==◌, ◌&&◌, Bool, true, false, cond}
use Rattle.eco_entities.proofs.Common.{if◌then◌else◌, List, [], ◌∷◌, ◌++◌, length, set, get_or, slice_get, replicate, refl, sym, ap, ◌∙◌}
use Rattle.eco_entities.proofs.Common.{Option, Some, None, is_some, option_map, option_and_then, arith, false≢true, slice_get_read, Entity, Indexed}
use Rattle.eco_entities.proofs.Common.{get_or_from_slice_get, slice_get_within, subst, IsSome}
use Rattle.eco_entities.proofs.Common.{IndexState, Retired, Free, Living, record_in, record_of, is_alive, is_free_in, map_state, own_name, Registration}
use Rattle.eco_entities.proofs.Common.{given_name, entity_at, entity_in, own_arity, own_place, renamed, is_living, is_named, arity_in, place_in}
use Rattle.eco_entities.proofs.Common.{registration_of, state_at, state_of, states, living_in, living_slot, is_free, next_generation, label_of, Slot, Inside}
use Rattle.eco_entities.specs.declared.slot.State.{State}

-- names by index
abbrev pub Names : Type 0
Names = ℕ → Option (List ℕ)

-- two that differ at one index at most
abbrev pub AgreeBeside : ℕ → Names → Names → Type 0
AgreeBeside i label label' = (k : ℕ) → k ≢ i → label' k ≡ label k

states_same : (label label' : Names) (xs : List Slot) → ((k : ℕ) → label' k ≡ label k) → states label' xs ≡ states label xs
states_same label label' xs p = let same : label' ≡ label = λ i. λ k. p k i in ap (λ l. states l xs) same

pub length-states : (label : Names) (xs : List Slot) → length (states label xs) ≡ length xs
length-states label [] = refl
length-states label (x ∷ xs) = ap suc (length-states (λ n. label (suc n)) xs)

pub slice_get-states : (label : Names) (xs : List Slot) (i : ℕ) → slice_get (states label xs) i ≡ option_map (state_of (label i)) (slice_get xs i)
slice_get-states label [] i = refl
slice_get-states label (x ∷ xs) zero = refl
slice_get-states label (x ∷ xs) (suc i) = slice_get-states (λ n. label (suc n)) xs i

suc_apart : {i k : ℕ} → k ≢ i → suc k ≢ suc i
suc_apart {i} {k} n e = n (omega arith)

pub states-set : (label label' : Names) (xs : List Slot) (i : ℕ) (x : Slot) → AgreeBeside i label label' →
    states label' (set xs i x) ≡ set (states label xs) i (state_of (label' i) x)
states-set label label' [] i x a = refl
states-set label label' (y ∷ ys) zero x a =
    ap (λ zs. state_of (label' 0) x ∷ zs) (states_same (λ n. label (suc n)) (λ n. label' (suc n)) ys (λ k. a (suc k) (omega arith)))
states-set label label' (y ∷ ys) (suc i) x a =
    ap (λ l. state_of l y ∷ states (λ n. label' (suc n)) (set ys i x)) (a 0 (omega arith))
    ∙ ap (λ zs. state_of (label 0) y ∷ zs) (states-set (λ n. label (suc n)) (λ n. label' (suc n)) ys i x (λ k n. a (suc k) (suc_apart n)))

pub states-push : (label label' : Names) (xs : List Slot) (x : Slot) → AgreeBeside (length xs) label label' →
    states label' (xs ++ x ∷ []) ≡ states label xs ++ state_of (label' (length xs)) x ∷ []
states-push label label' [] x a = refl
states-push label label' (y ∷ ys) x a =
    ap (λ l. state_of l y ∷ states (λ n. label' (suc n)) (ys ++ x ∷ [])) (a 0 (omega arith))
    ∙ ap (λ zs. state_of (label 0) y ∷ zs) (states-push (λ n. label (suc n)) (λ n. label' (suc n)) ys x (λ k n. a (suc k) (suc_apart n)))

pub states-copies : (label : Names) (xs : List Slot) (n : ℕ) (x : Slot) → ((l : Option (List ℕ)) → state_of l x ≡ Free 0) →
    states label (xs ++ replicate n x) ≡ states label xs ++ replicate n (Free 0)
states-copies label [] zero x f = refl
states-copies label [] (suc n) x f =
    ap (λ y. y ∷ states (λ k. label (suc k)) (replicate n x)) (f (label 0)) ∙ ap (λ ys. Free 0 ∷ ys) (states-copies (λ k. label (suc k)) [] n x f)
states-copies label (y ∷ ys) n x f = ap (λ zs. state_of (label 0) y ∷ zs) (states-copies (λ k. label (suc k)) ys n x f)

-- ---- who lives

in_state : (l : Option (List ℕ)) (s : Slot) (g : ℕ) (st : State) →
    record_in (Some (state_at st s.generation (registration_of l s))) g
    ≡ option_map (registration_of l) (if is_living st && g == s.generation then Some s else None)
in_state l s g st = grind (arith, common_steps)

in_slot : (l : Option (List ℕ)) (o : Option Slot) (g : ℕ) → record_in (option_map (state_of l) o) g ≡ option_map (registration_of l) (living_in o g)
in_slot l None g = refl
in_slot l (Some s) g = in_state l s g s.state

same_if : (s t : Slot) (b : Bool) → cond b (Some s) None ≡ Some t → t ≡ s
same_if s t b h = grind arith

living_same : (s t : Slot) (g : ℕ) → living_in (Some s) g ≡ Some t → t ≡ s
living_same s t g h = same_if s t (is_living s.state && g == s.generation) h

place_if : (s : Slot) (b : Bool) → IsSome (option_and_then place_in (cond b (Some s) None)) →
    option_and_then place_in (cond b (Some s) None) ≡ place_in s
place_if s true h = refl
place_if s false h = absurd (false≢true h)

-- who has a place has a slot, which tells it
place_found : (o : Option Slot) (g : ℕ) → IsSome (option_and_then place_in (living_in o g)) →
    (s : Slot) × (o ≡ Some s) × (option_and_then place_in (living_in o g) ≡ place_in s)
place_found None g h = absurd (false≢true h)
place_found (Some s) g h = (s, refl, place_if s (is_living s.state && g == s.generation) h)

-- what slots show of an index
abbrev pub Shows : ℕ → Names → List Slot → Indexed Registration → Type 0
Shows limit label slots w = ◌≡◌ {A = Indexed Registration} (record { limit = limit; indices = states label slots }) w

some_map : (l : Option (List ℕ)) (o : Option Slot) → is_some (option_map (registration_of l) o) ≡ is_some o
some_map l o = grind arith

place_map : (l : Option (List ℕ)) (o : Option Slot) → option_and_then (λ r. r.place) (option_map (registration_of l) o) ≡ option_and_then place_in o
place_map l o = grind arith

arity_map : (l : Option (List ℕ)) (o : Option Slot) → option_and_then (λ r. r.arity) (option_map (registration_of l) o) ≡ option_and_then arity_in o
arity_map l o = grind arith

-- the name in a slot with this label
abbrev pub name_in : Option (List ℕ) → Slot → Option (List ℕ)
name_in l s = if is_named s.state then l else None

name_map : (l : Option (List ℕ)) (o : Option Slot) → option_and_then given_name (option_map (registration_of l) o) ≡ option_and_then (name_in l) o
name_map l o = grind arith

-- the labels and the slots of an index
abbrev pub labels : Inside → Names
labels s = label_of s.labels

abbrev pub items : Inside → List Slot
items s = s.slots.items

abbrev pub View : Inside → Indexed Registration → Type 0
View s w = Shows s.limit (labels s) (items s) w

module _ (kept : Inside) (w : Indexed Registration) (view : View kept w) (e : Entity) where
  pub record_shown : record_of w e ≡ option_map (registration_of ((labels kept) e.index)) (living_slot (items kept) e)
  record_shown = grind (arith, common_steps, slice_get-states, in_slot)

  pub alive_shown : is_some (living_slot (items kept) e) ≡ is_alive w e
  alive_shown = sym (ap is_some record_shown ∙ some_map ((labels kept) e.index) (living_slot (items kept) e))

  pub place_shown : option_and_then place_in (living_slot (items kept) e) ≡ own_place w e
  place_shown = sym (ap (option_and_then (λ r. r.place)) record_shown ∙ place_map ((labels kept) e.index) (living_slot (items kept) e))

  pub seat_found : IsSome (own_place w e) → (s : Slot) × (slice_get (items kept) e.index ≡ Some s) × (own_place w e ≡ place_in s)
  seat_found h =
      let (s, there, is) = place_found (slice_get (items kept) e.index) e.generation (subst IsSome (sym place_shown) h) in
      (s, there, sym place_shown ∙ is)

  -- the slot of who has a place is there
  pub seat_within : IsSome (own_place w e) → e.index < length (items kept)
  seat_within h = let (s, there, _) = seat_found h in slice_get_within (items kept) e.index s there

  -- and where it was read, it tells the place
  pub seat_read : (s : Slot) → IsSome (own_place w e) → s ≡ get_or (items kept) e.index s → own_place w e ≡ place_in s
  seat_read s h read =
      let (t, there, is) = seat_found h in
      is ∙ ap place_in (sym (read ∙ get_or_from_slice_get (items kept) e.index t s there))

  pub arity_shown : option_and_then arity_in (living_slot (items kept) e) ≡ own_arity w e
  arity_shown = sym (ap (option_and_then (λ r. r.arity)) record_shown ∙ arity_map ((labels kept) e.index) (living_slot (items kept) e))

  pub name_shown : option_and_then (name_in ((labels kept) e.index)) (living_slot (items kept) e) ≡ own_name given_name w e
  name_shown = sym (ap (option_and_then given_name) record_shown ∙ name_map ((labels kept) e.index) (living_slot (items kept) e))

  -- where a living entity's slot was read
  pub name_read : (s : Slot) → is_alive w e ≡ true → e.index < length (items kept) → s ≡ get_or (items kept) e.index s
      → name_in ((labels kept) e.index) s ≡ own_name given_name w e
  name_read s alive within read = grind (arith, common_steps, slice_get_read, alive_shown, false≢true, living_same, name_shown)

-- who has no name loses none
nameless : (l : Option (List ℕ)) (s : Slot) (st : State) → is_named st ≡ false →
    state_at st s.generation (record (registration_of l s) { name = if is_named st then l else None })
    ≡ map_state (renamed None) (state_at st s.generation (record (registration_of l s) { name = if is_named st then l else None }))
nameless l s st h = grind (arith, common_steps)

pub nameless_kept : (l : Option (List ℕ)) (s : Slot) → is_named s.state ≡ false → state_of l s ≡ map_state (renamed None) (state_of l s)
nameless_kept l s h = nameless l s s.state h

-- ---- what a slot shows, by its state

pub living_shows : (st : State) (g : ℕ) (r : Registration) → is_living st ≡ true → state_at st g r ≡ Living g r
living_shows st g r h = grind (arith, common_steps)

pub nobody_shows : (n : ℕ) (st : State) (g : ℕ) (r : Registration) → is_living st ≡ false → entity_in n (Some (state_at st g r)) ≡ None
nobody_shows n st g r h = grind (arith, common_steps)

free_shows : (st : State) (g : ℕ) (r : Registration) → is_free (state_at st g r) ≡ true → (r' : Registration) → state_at st g r' ≡ Free g
free_shows st g r h r' = grind (arith, common_steps)

-- a free slot shows the same under each label
pub free_slot : (l l' : Option (List ℕ)) (s : Slot) → is_free (state_of l s) ≡ true → state_of l' s ≡ Free s.generation
free_slot l l' s h = free_shows s.state s.generation (registration_of l s) h (registration_of l' s)

used_in : (x : IndexState Registration) (g : ℕ) → is_free x ≡ false → is_free_in (Some x) g ≡ false
used_in Retired g h = refl
used_in (Free f) g h = absurd (false≢true (sym h))
used_in (Living f r) g h = refl

used_next : (x : IndexState Registration) → is_free x ≡ false → next_generation (Some x) ≡ 0
used_next Retired h = refl
used_next (Free f) h = absurd (false≢true (sym h))
used_next (Living f r) h = refl

module _ (kept : Inside) (w : Indexed Registration) (view : View kept w) (i : ℕ) where
  pub state_shown : (o : Option Slot) → o ≡ slice_get (items kept) i → slice_get w.indices i ≡ option_map (state_of ((labels kept) i)) o
  state_shown o is =
      ap (λ (v : Indexed Registration). slice_get v.indices i) (sym view)
      ∙ (slice_get-states (labels kept) (items kept) i ∙ ap (option_map (state_of ((labels kept) i))) (sym is))

  pub entity_shown : (s : Slot) → Some s ≡ slice_get (items kept) i → is_living s.state ≡ true
      → Some (record { index = i; generation = s.generation }) ≡ entity_at w i
  entity_shown s is lives = grind (arith, common_steps, state_shown, living_shows)

  pub nobody_shown : (s : Slot) → Some s ≡ slice_get (items kept) i → is_living s.state ≡ false → None ≡ entity_at w i
  nobody_shown s is dead =
      sym (ap (entity_in i) (state_shown (Some s) is) ∙ nobody_shows i s.state s.generation (registration_of ((labels kept) i) s) dead)

  pub free_shown : (s : Slot) → Some s ≡ slice_get (items kept) i → is_free (state_of ((labels kept) i) s) ≡ true
      → slice_get w.indices i ≡ Some (Free s.generation)
  free_shown s is free = state_shown (Some s) is ∙ ap Some (free_slot ((labels kept) i) ((labels kept) i) s free)

  pub used_shown : (s : Slot) (g : ℕ) → Some s ≡ slice_get (items kept) i → is_free (state_of ((labels kept) i) s) ≡ false
      → is_free_in (slice_get w.indices i) g ≡ false
  used_shown s g is used = ap (λ o. is_free_in o g) (state_shown (Some s) is) ∙ used_in (state_of ((labels kept) i) s) g used

  pub used_shows_none : (s : Slot) → Some s ≡ slice_get (items kept) i → is_free (state_of ((labels kept) i) s) ≡ false
      → next_generation (slice_get w.indices i) ≡ 0
  used_shows_none s is used = ap next_generation (state_shown (Some s) is) ∙ used_next (state_of ((labels kept) i) s) used

-- a label counts only where somebody lives
pub states_beside : (label label' : Names) (xs : List Slot) (i : ℕ) → AgreeBeside i label label' →
    ((s : Slot) → slice_get xs i ≡ Some s → state_of (label' i) s ≡ state_of (label i) s) → states label' xs ≡ states label xs
states_beside label label' [] i a h = refl
states_beside label label' (y ∷ ys) zero a h =
    ap (λ zs. state_of (label' 0) y ∷ zs) (states_same (λ n. label (suc n)) (λ n. label' (suc n)) ys (λ k. a (suc k) (omega arith)))
    ∙ ap (λ z. z ∷ states (λ n. label (suc n)) ys) (h y refl)
states_beside label label' (y ∷ ys) (suc i) a h =
    ap (λ l. state_of l y ∷ states (λ n. label' (suc n)) ys) (a 0 (omega arith))
    ∙ ap (λ zs. state_of (label 0) y ∷ zs) (states_beside (λ n. label (suc n)) (λ n. label' (suc n)) ys i (λ k n. a (suc k) (suc_apart n)) h)
