-- Many entities die, one after another.
use Rattle.eco_store.proofs.Common.{◌≡◌, ◌≢◌, ℕ, zero, suc, ◌+◌, ◌<◌, Bool, true, false, true≢false, ◌||◌, IsTrue}
use Rattle.eco_store.proofs.Common.{if◌then◌else◌, List, [], ◌∷◌, ◌++◌, drop, take, length, get_or, slice_get, Option, Some, None, option_map}
use Rattle.eco_store.proofs.Common.{is_some, refl, sym, ap, ◌∙◌, arith, drop-take, take-append-drop, take-take, take_more, list_any-append, Entity}
use Rattle.eco_store.proofs.Common.{Indexed, IndexState, Retired, Free, Living, record_in, is_alive, with_death, map_from, raised, entity_cmp, entity_eq}
use Rattle.eco_store.proofs.Common.{has_item, Record, entity_eq_is, entity_eq_itself, living_at, record_here, death_at, after_deaths}
use Rattle.eco_store.proofs.Views.{alike_but, alike_set, alive_record, raised_either}

get_map_from : (f : ℕ → IndexState Record → IndexState Record) (n : ℕ) (xs : List (IndexState Record)) (k : ℕ)
    → slice_get (map_from f n xs) k ≡ option_map (f (n + k)) (slice_get xs k)
get_map_from f n [] k = refl
get_map_from f n (x ∷ xs) zero = ap (λ m. Some (f m x)) (omega arith)
get_map_from f n (x ∷ xs) (suc k) =
    let at : n + 1 + k ≡ n + suc k = omega arith in
    get_map_from f (n + 1) xs k ∙ ap (λ m. option_map (f m) (slice_get xs k)) at

at_index : (f : ℕ → IndexState Record → IndexState Record) (xs : List (IndexState Record)) (k : ℕ)
    → slice_get (map_from f 0 xs) k ≡ option_map (f k) (slice_get xs k)
at_index f xs k = let own : 0 + k ≡ k = omega arith in get_map_from f 0 xs k ∙ ap (λ m. option_map (f m) (slice_get xs k)) own

-- who died lives no more
none_lives : (g h : ℕ) (r : Record) → ◌≡◌ {A = Option (IndexState Record)} (Some (raised g)) (Some (Living h r)) → ⊥
none_lives g h r =
    raised_either g (λ x. ◌≡◌ {A = Option (IndexState Record)} (Some x) (Some (Living h r)) → ⊥) (λ k same. absurd (cc)) (λ same. absurd (cc))

module _ (dies more : Entity → Bool) (e : Entity) (one_more : (x : Entity) → more x ≡ (dies x || entity_eq e x)) where
  as_before : (x : Entity) → e ≢ x → more x ≡ dies x
  as_before x other = one_more x ∙ by (dies x) (entity_eq e x) refl
    where
      by : (b c : Bool) → entity_eq e x ≡ c → (b || c) ≡ b
      by b true same = absurd (other (entity_eq_is e x same))
      by true false same = refl
      by false false same = refl

  dies_now : more e ≡ true
  dies_now = one_more e ∙ ap (λ b. dies e || b) (entity_eq_itself e) ∙ by (dies e)
    where
      by : (b : Bool) → (b || true) ≡ true
      by true = refl
      by false = refl

  -- at another index all is as before
  elsewhere : (j : ℕ) (o : Option (IndexState Record)) → j ≢ e.index → option_map (death_at more j) o ≡ option_map (death_at dies j) o
  elsewhere j None apart = refl
  elsewhere j (Some Retired) apart = refl
  elsewhere j (Some (Free g)) apart = refl
  elsewhere j (Some (Living g r)) apart =
      ap (λ b. Some (if b then raised g else Living g r))
      (as_before (record { index = j; generation = g }) (λ same. apart (ap (λ (x : Entity). x.index) (sym same))))

  -- at its own index, where it lived
  kills : (o : Option (IndexState Record)) (r : Record) → option_map (death_at dies e.index) o ≡ Some (Living e.generation r)
      → option_map (death_at more e.index) o ≡ Some (raised e.generation)
  kills None r lives = absurd (cc)
  kills (Some Retired) r lives = absurd (cc)
  kills (Some (Free g)) r lives = absurd (cc)
  kills (Some (Living g k)) r lives = by (dies (record { index = e.index; generation = g })) lives
    where
      by : (b : Bool) → ◌≡◌ {A = Option (IndexState Record)} (Some (if b then raised g else Living g k)) (Some (Living e.generation r))
          → option_map (death_at more e.index) (Some (Living g k)) ≡ Some (raised e.generation)
      by true lives = absurd (none_lives g e.generation r lives)
      by false lives =
          let own : g ≡ e.generation = cc in
          ap (λ h. option_map (death_at more e.index) (Some (Living h k))) own
          ∙ ap (λ b. Some (if b then raised e.generation else Living e.generation k)) dies_now

  -- and where it did not
  passes : (o : Option (IndexState Record)) → is_some (record_in (option_map (death_at dies e.index) o) e.generation) ≡ false
      → option_map (death_at more e.index) o ≡ option_map (death_at dies e.index) o
  passes None dead = refl
  passes (Some Retired) dead = refl
  passes (Some (Free g)) dead = refl
  passes (Some (Living g k)) dead = by (dies x) refl dead
    where
      x : Entity
      x = record { index = e.index; generation = g }

      by : (b : Bool) → dies x ≡ b → is_some (record_in (Some (if b then raised g else Living g k)) e.generation) ≡ false
          → ◌≡◌ {A = Option (IndexState Record)} (Some (if more x then raised g else Living g k)) (Some (if b then raised g else Living g k))
      by true is dead = ap (λ b. Some (if b then raised g else Living g k)) (one_more x ∙ ap (λ b. b || entity_eq e x) is)
      by false is dead =
          let other : e ≢ x = λ same.
          let here = ap (record_in (Some (Living g k))) (ap (λ (y : Entity). y.generation) same) ∙ record_here g k in
          true≢false (sym (ap is_some here) ∙ dead) in
          ap (λ b. Some (if b then raised g else Living g k)) (as_before x other ∙ is)

  pub one_dies : (w : Indexed Record) → IsTrue (is_alive (after_deaths w dies) e) → after_deaths w more ≡ with_death (after_deaths w dies) e
  one_dies w lives =
      let before = map_from (death_at dies) 0 w.indices in
      let r = alive_record (after_deaths w dies) e lives in
      let was = living_at (after_deaths w dies) e r.0 r.1 in
      let there = sym (at_index (death_at dies) w.indices e.index) ∙ was in
      let all = at_index (death_at more) w.indices in
      let same = alike_set (map_from (death_at more) 0 w.indices) before e.index (raised e.generation) _ was (all e.index ∙ kills _ r.0 there)
      (λ j other. all j ∙ elsewhere j (slice_get w.indices j) other ∙ sym (at_index (death_at dies) w.indices j)) in
      λ t. record { limit = w.limit; indices = same t }

  pub none_dies : (w : Indexed Record) → is_alive (after_deaths w dies) e ≡ false → after_deaths w more ≡ after_deaths w dies
  none_dies w dead =
      let before = map_from (death_at dies) 0 w.indices in
      let gone = ap (λ o. is_some (record_in o e.generation)) (sym (at_index (death_at dies) w.indices e.index)) ∙ dead in
      let all = at_index (death_at more) w.indices in
      let same = alike_but (map_from (death_at more) 0 w.indices) before e.index
      (all e.index ∙ passes (slice_get w.indices e.index) gone ∙ sym (at_index (death_at dies) w.indices e.index))
      (λ j other. all j ∙ elsewhere j (slice_get w.indices j) other ∙ sym (at_index (death_at dies) w.indices j)) in
      λ t. record { limit = w.limit; indices = same t }

-- the first of some entities, and one more
pub first_more : (es : List Entity) (i : ℕ) (d : Entity) → i < length es → (x : Entity)
    → has_item entity_cmp (take (i + 1) es) x ≡ (has_item entity_cmp (take i es) x || entity_eq (get_or es i d) x)
first_more es i d within x =
    ap (λ ys. has_item entity_cmp ys x) (take_more es i d within)
    ∙ list_any-append (λ y. entity_eq y x) (take i es) (get_or es i d ∷ []) ∙ by (has_item entity_cmp (take i es) x) (entity_eq (get_or es i d) x)
  where
    by : (a b : Bool) → (a || (b || false)) ≡ (a || b)
    by true b = refl
    by false true = refl
    by false false = refl

-- nobody dies where none are named
pub nobody_dies : (w : Indexed Record) → after_deaths w (has_item entity_cmp []) ≡ w
nobody_dies w = λ t. record { limit = w.limit; indices = each 0 w.indices t }
  where
    stays : (n : ℕ) (x : IndexState Record) → death_at (has_item entity_cmp []) n x ≡ x
    stays n Retired = refl
    stays n (Free g) = refl
    stays n (Living g r) = refl

    each : (n : ℕ) (xs : List (IndexState Record)) → map_from (death_at (has_item entity_cmp [])) n xs ≡ xs
    each n [] = refl
    each n (x ∷ xs) = let first = stays n x in let rest = each (n + 1) xs in λ t. first t ∷ rest t

-- the first one, who lives, dies
pub first_dies : (w : Indexed Record) (es : List Entity) (d : Entity) → 0 < length es → IsTrue (is_alive w (get_or es 0 d))
    → after_deaths w (has_item entity_cmp (take 1 es)) ≡ with_death w (get_or es 0 d)
first_dies w es d some lives =
    let e = get_or es 0 d in
    one_dies (has_item entity_cmp []) (has_item entity_cmp (take 1 es)) e (first_more es 0 d some) w (ap (λ v. is_alive v e) (nobody_dies w) ∙ lives)
    ∙ ap (λ v. with_death v e) (nobody_dies w)

-- nothing changes where it lives no more
pub first_passes : (w : Indexed Record) (es : List Entity) (d : Entity) → 0 < length es → is_alive w (get_or es 0 d) ≡ false
    → after_deaths w (has_item entity_cmp (take 1 es)) ≡ w
first_passes w es d some dead =
    let e = get_or es 0 d in
    none_dies (has_item entity_cmp []) (has_item entity_cmp (take 1 es)) e (first_more es 0 d some) w (ap (λ v. is_alive v e) (nobody_dies w) ∙ dead)
    ∙ nobody_dies w

-- some die, and then others
module _ (f g : Entity → Bool) where
  stays_dead : (n h : ℕ) → death_at g n (raised h) ≡ raised h
  stays_dead n h = raised_either h (λ x. death_at g n x ≡ x) (λ k. refl) refl

  both_at : (n : ℕ) (x : IndexState Record) → death_at g n (death_at f n x) ≡ death_at (λ e. f e || g e) n x
  both_at n Retired = refl
  both_at n (Free h) = refl
  both_at n (Living h r) = by (f e)
    where
      e : Entity
      e = record { index = n; generation = h }

      by : (b : Bool) → death_at g n (if b then raised h else Living h r) ≡ (if b || g e then raised h else Living h r)
      by true = stays_dead n h
      by false = refl

  both_die : (n : ℕ) (xs : List (IndexState Record)) → map_from (death_at g) n (map_from (death_at f) n xs) ≡ map_from (death_at (λ e. f e || g e)) n xs
  both_die n [] = refl
  both_die n (x ∷ xs) = let first = both_at n x in let rest = both_die (n + 1) xs in λ t. first t ∷ rest t

-- the first of some entities, and so many more
pub more_die : (w : Indexed Record) (es : List Entity) (i n : ℕ) → after_deaths (after_deaths w (has_item entity_cmp (take i es)))
    (has_item entity_cmp (take n (drop i es))) ≡ after_deaths w (has_item entity_cmp (take (i + n) es))
more_die w es i n =
    let f = has_item entity_cmp (take i es) in
    let g = has_item entity_cmp (take n (drop i es)) in
    let all : has_item entity_cmp (take (i + n) es) ≡ (λ e. f e || g e) =
    ap (has_item entity_cmp) (sym (take-append-drop i (take (i + n) es)) ∙ (λ t. take-take i (i + n) es (omega arith) t ++ drop-take i n es t))
    ∙ (λ t e. list_any-append (λ y. entity_eq y e) (take i es) (take n (drop i es)) t) in
    (λ t. record { limit = w.limit; indices = both_die f g 0 w.indices t }) ∙ sym (ap (after_deaths w) all)
