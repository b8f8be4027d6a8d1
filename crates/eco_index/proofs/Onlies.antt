-- The only choices that a cache keeps, slot by slot.
use Rattle.eco_index.proofs.CachesCommon.{◌≡◌, ◌≢◌, ℕ, suc, ◌+◌, ◌-◌, ◌<◌, ◌≤◌, Bool, true, false, true≢false, cond, not, ◌||◌}
use Rattle.eco_index.proofs.CachesCommon.{nat_eq, List, [], ◌∷◌, ◌++◌, length, map, take, get_or, position, Option, Some, None, IfSome, is_some, refl, sym}
use Rattle.eco_index.proofs.CachesCommon.{ap, ◌∙◌, arith, subst, if◌then◌else◌, take-append_seam, Id, QuerySlot, slot_view, term_view, asked, asks}
use Rattle.eco_index.proofs.CachesCommon.{ChoicesState, AreKept, AreOnly, AreThose, ChangesType, KeepsNew, KeepsOnly, LosesOnly, choices_on, fulfils}
use Rattle.std.specs.Option.{option_map_or}
use Rattle.std.specs.Prelude.{IfNone, MatchBool, drop, nat_lt, zero}
use Rattle.indexmap.specs.IndexMap.{swap_remove_by}
use Rattle.indexmap.specs.IndexSet.{insert_key}
use Rattle.std.specs.List.{AllByRecursion, list_any, swap_remove, position_or_len, IsDistinct}
use Rattle.std.proofs.lemmas.Bool.Decides.{Decides-eqb, Decides-ltb}
use Rattle.std.proofs.lemmas.List.{get_or_default, map-append, map-set, set-append_left, take-map, length-append, length-map, length-set, take_all, take_more}
use Rattle.std.proofs.Math.ListN.{get_or-map, set}
use Rattle.eco_ids.specs.Answer.{choices}
use Rattle.eco_ids.specs.Terms.{QueryTerm}
use Rattle.eco_query.specs.declared.slot.Slot.{Slot}

-- functions that give the same
pub map_alike : {X : Type 0} {f g : ℕ → X} → ((m : ℕ) → g m ≡ f m) → (ns : List ℕ) → map g ns ≡ map f ns
map_alike same [] = refl
map_alike {f = f} {g = g} same (k ∷ ns) = ap (λ x. x ∷ map g ns) (same k) ∙ ap (λ xs. f k ∷ xs) (map_alike same ns)

-- a function that differs at a number alone gives the same on a list without it
pub map_apart : {X : Type 0} (f g : ℕ → X) (n : ℕ) (ns : List ℕ) → ((m : ℕ) → m ≢ n → g m ≡ f m) → list_any (nat_eq n) ns ≡ false
    → map g ns ≡ map f ns
map_apart f g n [] same none = refl
map_apart f g n (k ∷ ns) same none = by (nat_eq n k) refl (map_apart f g n ns same) none
  where
    by : (b : Bool) → nat_eq n k ≡ b → (list_any (nat_eq n) ns ≡ false → map g ns ≡ map f ns) → (b || list_any (nat_eq n) ns) ≡ false
        → map g (k ∷ ns) ≡ map f (k ∷ ns)
    by true e rest h = absurd (true≢false h)
    by false e rest h =
        let other : g k ≡ f k = same k (λ is. true≢false (sym ((Decides-eqb n k).1 (sym is)) ∙ e)) in
        ap (λ x. x ∷ map g ns) other ∙ ap (λ xs. f k ∷ xs) (rest h)

none_alike : (k : ℕ) (ns : List ℕ) → AllByRecursion (λ y. nat_eq k y ≡ false) ns → list_any (nat_eq k) ns ≡ false
none_alike k [] all = refl
none_alike k (y ∷ ns) all = ap (λ b. b || list_any (nat_eq k) ns) all.0 ∙ none_alike k ns all.1

-- on a list that has it once it gives the same but there
pub map_changed : {X : Type 0} (f g : ℕ → X) (n : ℕ) (ns : List ℕ) → ((m : ℕ) → m ≢ n → g m ≡ f m) → IsDistinct nat_eq ns
    → list_any (nat_eq n) ns ≡ true → map g ns ≡ set (map f ns) (position_or_len (nat_eq n) ns) (g n)
unfolding IsDistinct
map_changed f g n [] same once there = absurd (true≢false (sym there))
map_changed f g n (k ∷ ns) same once there = by (nat_eq n k) refl (map_changed f g n ns same once.1) there
  where
    by : (b : Bool) → nat_eq n k ≡ b → (list_any (nat_eq n) ns ≡ true → map g ns ≡ set (map f ns) (position_or_len (nat_eq n) ns) (g n))
        → (b || list_any (nat_eq n) ns) ≡ true
        → g k ∷ map g ns ≡ set (f k ∷ map f ns) (cond (not b) (1 + position_or_len (nat_eq n) ns) 0) (g n)
    by true e rest h =
        let is : n ≡ k = (Decides-eqb n k).0 e in
        ap (λ m. g m ∷ map g ns) (sym is)
        ∙ ap (λ xs. g n ∷ xs) (map_apart f g n ns same (ap (λ m. list_any (nat_eq m) ns) is ∙ none_alike k ns once.0))
    by false e rest h =
        let other : g k ≡ f k = same k (λ is. true≢false (sym ((Decides-eqb n k).1 (sym is)) ∙ e)) in
        let next : suc (position_or_len (nat_eq n) ns) ≡ 1 + position_or_len (nat_eq n) ns = omega arith in
        ap (λ x. x ∷ map g ns) other ∙ ap (λ xs. f k ∷ xs) (rest h) ∙ ap (λ j. set (f k ∷ map f ns) j (g n)) next

position_within : (test : ℕ → Bool) (ns : List ℕ) → list_any test ns ≡ true → position_or_len test ns < length ns
position_within test [] there = absurd (true≢false (sym there))
position_within test (k ∷ ns) there = by (test k) (position_within test ns) there
  where
    by : (b : Bool) → (list_any test ns ≡ true → position_or_len test ns < length ns) → (b || list_any test ns) ≡ true
        → cond (not b) (1 + position_or_len test ns) 0 < suc (length ns)
    by true rest h = omega arith
    by false rest h = let less = rest h in omega (arith, less)

-- what comes to the end takes the place of another
pub swapped_in : {X : Type 0} (xs : List X) (x d : X) (k : ℕ) → k < length xs → swap_remove (xs ++ x ∷ []) k d ≡ set xs k x
swapped_in {X = X} xs x d k there =
    let long : length (xs ++ x ∷ []) ≡ length xs + 1 = length-append xs (x ∷ []) in
    let end : length (xs ++ x ∷ []) - 1 ≡ length xs = omega (arith, long) in
    ap (λ j. take j (set (xs ++ x ∷ []) k (get_or (xs ++ x ∷ []) j d))) end
    ∙ ap (λ y. take (length xs) (set (xs ++ x ∷ []) k y)) (last xs)
    ∙ ap (take (length xs)) (set-append_left xs (x ∷ []) k x there)
    ∙ ap (λ j. take j (set xs k x ++ x ∷ [])) (sym (length-set xs k x))
    ∙ take-append_seam (set xs k x) (x ∷ [])
  where
    last : (xs : List X) → get_or (xs ++ x ∷ []) (length xs) d ≡ x
    last [] = refl
    last (y ∷ xs) = last xs

-- a function on each after one was swapped out
pub map_swapped : {X Y : Type 0} (f : X → Y) (xs : List X) (k : ℕ) (d : X) → map f (swap_remove xs k d) ≡ swap_remove (map f xs) k (f d)
map_swapped f xs k d =
    let long : length xs - 1 ≡ length (map f xs) - 1 = ap (λ j. j - 1) (sym (length-map xs f)) in
    sym (take-map f (length xs - 1) (set xs k (get_or xs (length xs - 1) d)))
    ∙ ap (take (length xs - 1)) (map-set f xs k (get_or xs (length xs - 1) d) ∙ ap (set (map f xs) k) (sym (get_or-map f xs (length xs - 1) d)))
    ∙ ap (λ j. take j (set (map f xs) k (get_or (map f xs) j (f d)))) long

swapped_default : {X : Type 0} (xs : List X) (k : ℕ) (d e : X) → 0 < length xs → swap_remove xs k d ≡ swap_remove xs k e
swapped_default xs k d e some =
    ap (λ x. take (length xs - 1) (set xs k x)) (get_or_default xs (length xs - 1) d e (omega (arith, some)))

module _ (types types' : ℕ → Option (List Id)) (n : ℕ) (o : Option (List Id)) (q : List QuerySlot) (change : ChangesType types types' n o) where
  abbrev on : ℕ → List (List (Option Id))
  on m = choices_on (asked q) (types m)

  abbrev on' : ℕ → List (List (Option Id))
  on' m = choices_on (asked q) (types' m)

  same : (m : ℕ) → m ≢ n → on' m ≡ on m
  same m other = ap (choices_on (asked q)) (change.others m other)

  -- a slot that none had takes no choice away
  pub kept_apart : (slots : List ℕ) (c : ChoicesState) → list_any (nat_eq n) slots ≡ false → AreKept types q slots c → AreKept types' q slots c
  kept_apart slots c none kept = record { wide = kept.wide; only = map_apart on on' n slots same none ∙ kept.only }

  -- a slot comes in
  pub kept_new : (slots : List ℕ) (c d : ChoicesState) → list_any (nat_eq n) slots ≡ false → AreKept types q slots c
      → KeepsNew c d (choices_on (asked q) o) → AreKept types' q (slots ++ n ∷ []) d
  kept_new slots c d none kept keeps = record {
    wide = keeps.wide ∙ kept.wide;
    only =
        map-append on' slots (n ∷ [])
        ∙ ap (λ xs. xs ++ on' n ∷ []) (map_apart on on' n slots same none ∙ kept.only)
        ∙ ap (λ x. map (λ y. y ∷ []) c.all ++ x ∷ []) (ap (choices_on (asked q)) change.there ∙ keeps.alone)
        ∙ sym (ap (map (λ y. y ∷ [])) keeps.all ∙ map-append (λ y. y ∷ []) c.all (keeps.choice ∷ []));
  }

  many : (slots : List ℕ) (c : ChoicesState) → AreKept types q slots c → length c.all ≡ length slots
  many slots c kept = sym (length-map c.all (λ y. y ∷ [])) ∙ ap length (sym kept.only) ∙ length-map slots on

  -- the type of a slot changes that was there
  pub kept_there : (slots : List ℕ) (c m d : ChoicesState) → IsDistinct nat_eq slots → list_any (nat_eq n) slots ≡ true → AreKept types q slots c
      → KeepsNew c m (choices_on (asked q) o) → LosesOnly m d (position_or_len (nat_eq n) slots) → AreKept types' q slots d
  kept_there slots c m d once there kept keeps loses =
      let place = position_or_len (nat_eq n) slots in
      let long = many slots c kept in
      let low = position_within (nat_eq n) slots there in
      record {
        wide = loses.wide ∙ keeps.wide ∙ kept.wide;
        only =
            map_changed on on' n slots same once there
            ∙ ap (λ xs. set xs place (on' n)) kept.only
            ∙ ap (set (map (λ y. y ∷ []) c.all) place) (ap (choices_on (asked q)) change.there ∙ keeps.alone)
            ∙ sym (map-set (λ y. y ∷ []) c.all place keeps.choice)
            ∙ ap (map (λ y. y ∷ [])) (sym (loses.all ∙ ap (λ xs. swap_remove xs place []) keeps.all
            ∙ swapped_in c.all keeps.choice [] place (omega (arith, low, long))));
      }

  -- a slot goes
  pub kept_lost : (slots left : List ℕ) (c d : ChoicesState) (place first : ℕ) → left ≡ swap_remove slots place first
      → list_any (nat_eq n) left ≡ false
      → AreKept types q slots c → LosesOnly c d place → AreKept types' q left d
  kept_lost slots left c d place first is none kept loses =
      let long : length c.all ≡ length (map on slots) = many slots c kept ∙ sym (length-map slots on) in
      record {
        wide = loses.wide ∙ kept.wide;
        only =
            map_apart on on' n left same none ∙ ap (map on) is ∙ map_swapped on slots place first
            ∙ swapped_default (map on slots) place (on first) ([] ∷ []) (let there = loses.there in omega (arith, long, there))
            ∙ ap (λ xs. swap_remove xs place ([] ∷ [])) kept.only
            ∙ sym (ap (map (λ y. y ∷ [])) loses.all ∙ map_swapped (λ y. y ∷ []) c.all place []);
      }

-- ---- a cache is told

-- the slots are those of the new types
pub those_told : (types types' : ℕ → Option (List Id)) (n : ℕ) (o : Option (List Id)) (q : List QuerySlot) (b : Bool) (old new : List ℕ)
    → ChangesType types types' n o → b ≡ fulfils o q → ((m : ℕ) → list_any (nat_eq m) new ≡ cond (nat_eq n m) b (list_any (nat_eq m) old))
    → AreThose types q old → AreThose types' q new
those_told types types' n o q b old new change is turns those m = turns m ∙ by (nat_eq n m) refl
  where
    by : (c : Bool) → nat_eq n m ≡ c → cond c b (list_any (nat_eq m) old) ≡ fulfils (types' m) q
    by true e =
        let here : n ≡ m = (Decides-eqb n m).0 e in
        is ∙ ap (λ x. fulfils x q) (sym (ap types' (sym here) ∙ change.there))
    by false e =
        those m ∙ ap (λ x. fulfils x q) (sym (change.others m (λ same. true≢false (sym ((Decides-eqb n m).1 (sym same)) ∙ e))))

-- the choices with that of a slot that came in or was there
pub kept_told : (types types' : ℕ → Option (List Id)) (n : ℕ) (o : Option (List Id)) (q : List QuerySlot) (keys keys' : List ℕ) (place : ℕ)
    (is_new : Bool) (c : ChoicesState) (r : Option ChoicesState) → ChangesType types types' n o → IsDistinct nat_eq keys'
    → keys' ≡ insert_key nat_eq keys n
    → is_new ≡ not (list_any (nat_eq n) keys) → place ≡ position_or_len (nat_eq n) keys → AreKept types q keys c
    → IfSome r (λ d. KeepsOnly c d (choices_on (asked q) o) place is_new) → IfSome r (AreKept types' q keys')
kept_told types types' n o q keys keys' place is_new c None change once is new at kept keeps = keeps
kept_told types types' n o q keys keys' place is_new c (Some d) change once is new at kept keeps = by (list_any (nat_eq n) keys) refl
  where
    standing : (b : Bool) → list_any (nat_eq n) keys ≡ b → MatchBool (not b) (d ≡ keeps.more) (LosesOnly keeps.more d (position_or_len (nat_eq n) keys))
    standing b e =
        subst (λ x. MatchBool x (d ≡ keeps.more) (LosesOnly keeps.more d (position_or_len (nat_eq n) keys))) (new ∙ ap not e)
        (subst (λ p. MatchBool is_new (d ≡ keeps.more) (LosesOnly keeps.more d p)) at keeps.stands)

    by : (b : Bool) → list_any (nat_eq n) keys ≡ b → AreKept types' q keys' d
    by true e =
        let stays : keys' ≡ keys = is ∙ ap (λ b. if b then keys else keys ++ n ∷ []) e in
        subst (λ ns. AreKept types' q ns d) (sym stays)
        (kept_there types types' n o q change keys c keeps.more d (subst (IsDistinct nat_eq) stays once) e kept keeps.came (standing true e))
    by false e =
        let more : keys' ≡ keys ++ n ∷ [] = is ∙ ap (λ b. if b then keys else keys ++ n ∷ []) e in
        subst (λ ns. AreKept types' q ns d) (sym more)
        (subst (AreKept types' q (keys ++ n ∷ [])) (sym (standing false e)) (kept_new types types' n o q change keys c keeps.more e kept keeps.came))

-- the same, where the cache had these
pub kept_in : (types types' : ℕ → Option (List Id)) (n : ℕ) (o : Option (List Id)) (q : List QuerySlot) (keys keys' : List ℕ) (place : ℕ)
    (is_new : Bool) (old : Option ChoicesState) (c : ChoicesState) (r : Option ChoicesState) → ChangesType types types' n o → IsDistinct nat_eq keys'
    → keys' ≡ insert_key nat_eq keys n → is_new ≡ not (list_any (nat_eq n) keys) → place ≡ position_or_len (nat_eq n) keys → old ≡ Some c
    → IfSome old (AreKept types q keys) → IfSome r (λ d. KeepsOnly c d (choices_on (asked q) o) place is_new) → IfSome r (AreKept types' q keys')
kept_in types types' n o q keys keys' place is_new old c r change once is new at had kept keeps =
    kept_told types types' n o q keys keys' place is_new c r change once is new at (rw had at kept) keeps

swapped_at : (test : ℕ → Bool) (keys : List ℕ) (place : ℕ) → position test keys ≡ Some place
    → swap_remove_by test keys ≡ swap_remove keys place (get_or keys 0 0)
swapped_at test [] place at = absurd (let bad : ◌≡◌ {A = Option ℕ} None (Some place) = at in cc)
swapped_at test (k ∷ keys) place at = ap (λ o. option_map_or (λ i. swap_remove (k ∷ keys) i k) o (k ∷ keys)) at

-- the choices without that of a slot that went
pub kept_without : (types types' : ℕ → Option (List Id)) (n : ℕ) (o : Option (List Id)) (q : List QuerySlot) (keys keys' : List ℕ) (place : ℕ)
    (c : ChoicesState) (r : Option ChoicesState) → ChangesType types types' n o → position (nat_eq n) keys ≡ Some place
    → keys' ≡ swap_remove_by (nat_eq n) keys → list_any (nat_eq n) keys' ≡ false → AreKept types q keys c → IfSome r (λ d. LosesOnly c d place)
    → IfSome r (AreKept types' q keys')
kept_without types types' n o q keys keys' place c None change at is none kept loses = loses
kept_without types types' n o q keys keys' place c (Some d) change at is none kept loses =
    kept_lost types types' n o q change keys keys' c d place (get_or keys 0 0) (is ∙ swapped_at (nat_eq n) keys place at) none kept loses

-- the same, where the cache had these
pub kept_taken : (types types' : ℕ → Option (List Id)) (n : ℕ) (o : Option (List Id)) (q : List QuerySlot) (keys keys' : List ℕ) (place : ℕ)
    (old : Option ChoicesState) (c : ChoicesState) (r : Option ChoicesState) → ChangesType types types' n o → position (nat_eq n) keys ≡ Some place
    → keys' ≡ swap_remove_by (nat_eq n) keys → list_any (nat_eq n) keys' ≡ false → old ≡ Some c → IfSome old (AreKept types q keys)
    → IfSome r (λ d. LosesOnly c d place) → IfSome r (AreKept types' q keys')
kept_taken types types' n o q keys keys' place old c r change at is none had kept loses =
    kept_without types types' n o q keys keys' place c r change at is none (rw had at kept) loses

place_within : (test : ℕ → Bool) (keys : List ℕ) (place : ℕ) → position test keys ≡ Some place → place < length keys
place_within test keys place at = by (nat_lt (position_or_len test keys) (length keys)) refl at
  where
    by : (b : Bool) → nat_lt (position_or_len test keys) (length keys) ≡ b
        → cond b (Some (position_or_len test keys)) None ≡ Some place → place < length keys
    by true e is = let same : position_or_len test keys ≡ place = cc in subst (λ j. j < length keys) same ((Decides-ltb _ _).0 e)
    by false e is = absurd (let bad : ◌≡◌ {A = Option ℕ} None (Some place) = is in cc)

-- the choices without one that is there are choices
pub keeps_still : (types : ℕ → Option (List Id)) (n : ℕ) (q : List QuerySlot) (keys : List ℕ) (place : ℕ) (old : Option ChoicesState)
    (c : ChoicesState) (r : Option ChoicesState) → position (nat_eq n) keys ≡ Some place → old ≡ Some c → IfSome old (AreKept types q keys)
    → IfNone r (length c.all ≤ place) → is_some r ≡ is_some old
keeps_still types n q keys place old c (Some d) at had kept none = sym (ap is_some had)
keeps_still types n q keys place old c None at had kept none =
    let own : AreKept types q keys c = rw had at kept in
    let long : length c.all ≡ length keys =
    sym (length-map c.all (λ y. y ∷ [])) ∙ ap length (sym own.only) ∙ length-map keys (λ m. choices_on (asked q) (types m)) in
    let within = place_within (nat_eq n) keys place at in
    absurd (omega (arith, long, within, none))

swapped_none : (test : ℕ → Bool) (keys : List ℕ) → position test keys ≡ None → swap_remove_by test keys ≡ keys
swapped_none test [] at = refl
swapped_none test (k ∷ keys) at = ap (λ o. option_map_or (λ i. swap_remove (k ∷ keys) i k) o (k ∷ keys)) at

-- no slot went
pub kept_still : (types types' : ℕ → Option (List Id)) (n : ℕ) (o : Option (List Id)) (q : List QuerySlot) (keys keys' : List ℕ)
    (r : Option ChoicesState) → ChangesType types types' n o → position (nat_eq n) keys ≡ None → keys' ≡ swap_remove_by (nat_eq n) keys
    → list_any (nat_eq n) keys' ≡ false → IfSome r (AreKept types q keys) → IfSome r (AreKept types' q keys')
kept_still types types' n o q keys keys' None change at is none kept = kept
kept_still types types' n o q keys keys' (Some c) change at is none kept =
    let stays : keys' ≡ keys = is ∙ swapped_none (nat_eq n) keys at in
    kept_apart types types' n o q change keys' c none (subst (λ ns. AreKept types q ns c) (sym stays) kept)

-- one more type has one choice
pub only_more : (types : ℕ → Option (List Id)) (terms : List QueryTerm) (slots : List ℕ) (i d : ℕ) (all cs new : List (List (Option Id)))
    → i < length slots
    → AreOnly types terms (take i slots) all → choices_on terms (types (get_or slots i d)) ≡ cs → length cs ≡ 1 → new ≡ all ++ cs
    → AreOnly types terms (take (i + 1) slots) new
only_more types terms slots i d all [] new within only are one is = absurd (omega (arith, one))
only_more types terms slots i d all (c ∷ e ∷ cs) new within only are one is = absurd (omega (arith, one))
only_more types terms slots i d all (c ∷ []) new within only are one is =
    ap (map (λ n. choices_on terms (types n))) (take_more slots i d within)
    ∙ map-append (λ n. choices_on terms (types n)) (take i slots) (get_or slots i d ∷ [])
    ∙ ap (λ xs. xs ++ choices_on terms (types (get_or slots i d)) ∷ []) only
    ∙ ap (λ x. map (λ y. y ∷ []) all ++ x ∷ []) are
    ∙ sym (ap (map (λ y. y ∷ [])) is ∙ map-append (λ y. y ∷ []) all (c ∷ []))

asks_asked : (terms : List Slot) (q : List QuerySlot) → map slot_view terms ≡ q → asks terms ≡ asked q
asks_asked terms q is = go terms ∙ ap asked is
  where
    go : (terms : List Slot) → asks terms ≡ asked (map slot_view terms)
    go [] = refl
    go (s ∷ terms) = ap (λ xs. term_view s.term ∷ xs) (go terms)

one_item : {X : Type 0} (xs : List X) → length xs ≡ 1 → (x : X) × (xs ≡ x ∷ [])
one_item [] one = absurd (omega (arith, one))
one_item (x ∷ []) one = (x, refl)
one_item (x ∷ y ∷ xs) one = absurd (omega (arith, one))

-- the only choice was put behind the others
pub new_kept : (old new : ChoicesState) (terms : List Slot) (q : List QuerySlot) (ids : List Id) → map slot_view terms ≡ q
    → length (choices ids (asks terms)) ≡ 1 → new ≡ record old { all = old.all ++ choices ids (asks terms) }
    → KeepsNew old new (choices ids (asked q))
new_kept old new terms q ids is one pushed =
    let own = one_item (choices ids (asks terms)) one in
    record {
      choice = own.0;
      alone = ap (choices ids) (sym (asks_asked terms q is)) ∙ own.1;
      wide = ap (λ (s : ChoicesState). s.width) pushed;
      all = ap (λ (s : ChoicesState). s.all) pushed ∙ ap (λ cs. old.all ++ cs) own.1;
    }

-- all slots have one choice
pub all_kept : (types : ℕ → Option (List Id)) (terms : List Slot) (q : List QuerySlot) (slots : List ℕ) (i : ℕ) (c : ChoicesState)
    → map slot_view terms ≡ q → length slots ≤ i → c.width ≡ length terms → AreOnly types (asks terms) (take i slots) c.all
    → AreKept types q slots c
all_kept types terms q slots i c is most wide made = record {
  wide = wide ∙ sym (length-map terms slot_view) ∙ ap length is;
  only = subst (λ ts. AreOnly types ts slots c.all) (asks_asked terms q is) (subst (λ ns. AreOnly types (asks terms) ns c.all) (take_all i slots most) made);
}

-- where choices are kept for slots, the type of each has just one
pub kept_alone : (types : ℕ → Option (List Id)) (terms : List Slot) (q : List QuerySlot) (slots : List ℕ) (i d : ℕ) (c : ChoicesState)
    → map slot_view terms ≡ q → i < length slots → AreKept types q slots c → length (choices_on (asks terms) (types (get_or slots i d))) ≡ 1
kept_alone types terms q slots i d c is within kept =
    subst (λ ts. length (choices_on ts (types (get_or slots i d))) ≡ 1) (sym (asks_asked terms q is)) (go slots c.all i kept.only within)
  where
    go : (ns : List ℕ) (all : List (List (Option Id))) (i : ℕ) → AreOnly types (asked q) ns all → i < length ns
        → length (choices_on (asked q) (types (get_or ns i d))) ≡ 1
    go [] all i only within = absurd (omega (arith, within))
    go (n ∷ ns) [] i only within = absurd (omega (arith, ap length only))
    go (n ∷ ns) (e ∷ all) zero only within = ap (λ cs. length (get_or cs 0 [])) only
    go (n ∷ ns) (e ∷ all) (suc i) only within = go ns all i (ap (drop 1) only) (omega (arith, within))
