-- Those who pass as a query's test, each with the ids of its table, give the answer.
use Rattle.eco_store.proofs.AnswersCommon.{◌≡◌, ℕ, suc, ◌+◌, ◌<◌, Bool, true, false, true≢false, cond, ◌&&◌, ◌||◌, List, [], ◌∷◌}
use Rattle.eco_store.proofs.AnswersCommon.{◌++◌, map, flat_map, filter, length, slice_get, Option, Some, option_map, unwrap_or, refl, sym, ap, ◌∙◌, arith}
use Rattle.eco_store.proofs.AnswersCommon.{length-append, length-map, list_any, All, AllByRecursion, nil_from_length, get_or, drop, IsTrue, slice_index_or}
use Rattle.eco_store.proofs.AnswersCommon.{All-from_recursion, recursion_from_All, answer, choices, entries_of, QueryTerm, Entity, Id, Slot, QuerySlot, has_any}
use Rattle.eco_store.proofs.AnswersCommon.{holds, matches_type, slot_view, term_view, TableState, table_in, Standing, asked, asks, results, results_at, FitsQuery}
use Rattle.eco_ids.specs.World.{Record}
use Rattle.eco_ids.specs.Indices.{Indexed, IndexState, Retired, Free, Living, living, living_from, record_of}
use Rattle.eco_ids.proofs.States.{record_at}
use Rattle.eco_archetypes.specs.Holders.{entities_whose, passes}
use Rattle.eco_store.specs.Ranking.{StandsIn}
use Rattle.eco_archetypes.specs.Records.{record_ids, type_in_store}
use Rattle.eco_archetypes.specs.Worlds.{world_of}
use Rattle.eco_ids.specs.Answer as answers

-- ---- which ids have a choice

no_rest : {X : Type 0} (es : List X) (cs : List (List X)) → cs ≡ [] → flat_map (λ e. map (λ rest. e ∷ rest) cs) es ≡ []
no_rest [] cs h = refl
no_rest (e ∷ es) cs h = ap (λ z. map (λ rest. e ∷ rest) z ++ flat_map (λ e. map (λ rest. e ∷ rest) cs) es) h ∙ no_rest es cs h

no_entry : {X : Type 0} (es : List X) (cs : List (List X)) → has_any es ≡ false → flat_map (λ e. map (λ rest. e ∷ rest) cs) es ≡ []
no_entry [] cs h = refl
no_entry (e ∷ es) cs h = absurd (true≢false h)

-- where some slot doesn't hold there is no choice
no_choice : (ids : List Id) (q : List QuerySlot) → matches_type ids q ≡ false → choices ids (asked q) ≡ []
no_choice ids [] h = absurd (true≢false h)
no_choice ids (s ∷ q) h = by (no_choice ids q) (holds ids s.term) refl h
  where
    by : (matches_type ids q ≡ false → choices ids (asked q) ≡ []) → (b : Bool) → holds ids s.term ≡ b → (b && matches_type ids q) ≡ false
        → flat_map (λ e. map (λ rest. e ∷ rest) (choices ids (asked q))) (entries_of ids s.term) ≡ []
    by rest true e h = no_rest (entries_of ids s.term) (choices ids (asked q)) (rest h)
    by rest false e h = no_entry (entries_of ids s.term) (choices ids (asked q)) e

some_led : {X : Type 0} (es : List X) (cs : List (List X)) → has_any es ≡ true → 0 < length cs
    → 0 < length (flat_map (λ e. map (λ rest. e ∷ rest) cs) es)
some_led [] cs h some = absurd (true≢false (sym h))
some_led (e ∷ es) cs h some =
    let both = length-append (map (λ rest. e ∷ rest) cs) (flat_map (λ e. map (λ rest. e ∷ rest) cs) es) in
    let one = length-map cs (λ rest. e ∷ rest) in
    omega (arith, both, one, some)

-- where all slots hold there is one
some_choice : (ids : List Id) (q : List QuerySlot) → matches_type ids q ≡ true → 0 < length (choices ids (asked q))
some_choice ids [] h = omega arith
some_choice ids (s ∷ q) h = by (some_choice ids q) (holds ids s.term) refl h
  where
    by : (matches_type ids q ≡ true → 0 < length (choices ids (asked q))) → (b : Bool) → holds ids s.term ≡ b → (b && matches_type ids q) ≡ true
        → 0 < length (flat_map (λ e. map (λ rest. e ∷ rest) (choices ids (asked q))) (entries_of ids s.term))
    by rest true e h = some_led (entries_of ids s.term) (choices ids (asked q)) e (rest h)
    by rest false e h = absurd (true≢false (sym h))

-- ---- the results of entities with what is kept of them

abbrev Kept : Type 0
Kept = Entity × Record

-- the results of one, and of all
abbrev of_one : List QuerySlot → Kept → List answers.Row
of_one q p = results p.0 (record_ids p.1) (asked q)

abbrev pub passing : List QuerySlot → Kept → Bool
passing q p = passes (λ ids. matches_type ids q) p.1

-- the results of those who pass are all results
answer_passing : (q : List QuerySlot) (ps : List Kept) → flat_map (of_one q) (filter (passing q) ps) ≡ flat_map (of_one q) ps
answer_passing q [] = refl
answer_passing q (p ∷ ps) = by (answer_passing q ps) (passing q p) refl
  where
    by : flat_map (of_one q) (filter (passing q) ps) ≡ flat_map (of_one q) ps → (b : Bool) → passing q p ≡ b
        → flat_map (of_one q) (cond b (p ∷ filter (passing q) ps) (filter (passing q) ps)) ≡ of_one q p ++ flat_map (of_one q) ps
    by rest true e = ap (λ zs. of_one q p ++ zs) rest
    by rest false e = rest
        ∙ ap (λ (cs : List (List (Option Id))). map (λ es. let r : answers.Row = record { entity = p.0; entries = es } in r) cs ++ flat_map (of_one q) ps)
        (sym (no_choice (record_ids p.1) q e))

-- where one passes there is a result
pub passing_answers : (q : List QuerySlot) (ps : List Kept) → list_any (passing q) ps ≡ true → 0 < length (flat_map (of_one q) ps)
passing_answers q [] h = absurd (true≢false (sym h))
passing_answers q (p ∷ ps) h = by (passing_answers q ps) (passing q p) refl h
  where
    both : length (of_one q p ++ flat_map (of_one q) ps) ≡ length (of_one q p) + length (flat_map (of_one q) ps)
    both = length-append (of_one q p) (flat_map (of_one q) ps)

    one : length (of_one q p) ≡ length (choices (record_ids p.1) (asked q))
    one = length-map (choices (record_ids p.1) (asked q)) (λ es. let r : answers.Row = record { entity = p.0; entries = es } in r)

    by : (list_any (passing q) ps ≡ true → 0 < length (flat_map (of_one q) ps)) → (b : Bool) → passing q p ≡ b
        → (b || list_any (passing q) ps) ≡ true
        → 0 < length (of_one q p ++ flat_map (of_one q) ps)
    by rest true e h = let some = some_choice (record_ids p.1) q e in omega (arith, both, one, some)
    by rest false e h = let some = rest h in omega (arith, both, some)

-- where somebody is listed who passes, one does
pub listed_passes : (t : Kept → Bool) (ps : List Kept) → 0 < length (map (λ (p : Kept). p.0) (filter t ps)) → list_any t ps ≡ true
listed_passes t [] h = absurd (omega (arith, h))
listed_passes t (p ∷ ps) h = by (listed_passes t ps) (t p) h
  where
    by : (0 < length (map (λ (p : Kept). p.0) (filter t ps)) → list_any t ps ≡ true) → (b : Bool)
        → 0 < length (map (λ (p : Kept). p.0) (cond b (p ∷ filter t ps) (filter t ps))) → (b || list_any t ps) ≡ true
    by rest true h = refl
    by rest false h = rest h

-- ---- the results of a list of entities, each with its own ids

-- the ids of an entity; none, where it isn't living
abbrev own_ids : Indexed Record → Entity → List Id
own_ids w e = unwrap_or (type_in_store w e) []

by_entity : (w : Indexed Record) (tables : List (Option TableState)) (ns : List ℕ) (terms : List QueryTerm) (ss : List Standing)
    → AllByRecursion (StandsIn w tables ns) ss
    → results_at tables ns terms ss ≡ flat_map (λ e. results e (own_ids w e) terms) (map (λ (s : Standing). s.entity) ss)
by_entity w tables ns terms [] all = refl
by_entity w tables ns terms (s ∷ ss) all =
    ap (λ o. results s.entity (unwrap_or o []) terms ++ results_at tables ns terms ss) (sym all.0.1)
    ∙ ap (λ zs. results s.entity (own_ids w s.entity) terms ++ zs) (by_entity w tables ns terms ss all.1)

of_kept : (w : Indexed Record) (terms : List QueryTerm) (ps : List Kept) → AllByRecursion (λ (p : Kept). record_of w p.0 ≡ Some p.1) ps
    → flat_map (λ e. results e (own_ids w e) terms) (map (λ (p : Kept). p.0) ps) ≡ flat_map (λ (p : Kept). results p.0 (record_ids p.1) terms) ps
of_kept w terms [] all = refl
of_kept w terms (p ∷ ps) all =
    ap (λ o. results p.0 (unwrap_or (option_map record_ids o) []) terms ++ flat_map (λ e. results e (own_ids w e) terms) (map (λ (p : Kept). p.0) ps)) all.0
    ∙ ap (λ zs. results p.0 (record_ids p.1) terms ++ zs) (of_kept w terms ps all.1)

all_filtered : (P : Kept → Type 0) (t : Kept → Bool) (ps : List Kept) → AllByRecursion P ps → AllByRecursion P (filter t ps)
all_filtered P t [] all = tt
all_filtered P t (p ∷ ps) all = by (t p) (all_filtered P t ps all.1)
  where
    by : (b : Bool) → AllByRecursion P (filter t ps) → AllByRecursion P (cond b (p ∷ filter t ps) (filter t ps))
    by true rest = (all.0, rest)
    by false rest = rest

-- an entity at an index is kept there
abbrev HasAt : Indexed Record → ℕ → List (IndexState Record) → Type 0
HasAt w n xs = (k g : ℕ) (r : Record) → slice_get xs k ≡ Some (Living g r) → record_of w (record { index = n + k; generation = g }) ≡ Some r

one_on : (w : Indexed Record) (n : ℕ) (x : IndexState Record) (xs : List (IndexState Record)) → HasAt w n (x ∷ xs) → HasAt w (n + 1) xs
one_on w n x xs h = λ k g r at. let e : n + 1 + k ≡ n + suc k = omega arith in ap (λ j. record_of w (record { index = j; generation = g })) e
    ∙ h (suc k) g r at

living_kept : (w : Indexed Record) (n : ℕ) (xs : List (IndexState Record)) → HasAt w n xs
    → AllByRecursion (λ (p : Kept). record_of w p.0 ≡ Some p.1) (living_from n xs)
living_kept w n [] h = tt
living_kept w n (Retired ∷ xs) h = living_kept w (n + 1) xs (one_on w n Retired xs h)
living_kept w n (Free f ∷ xs) h = living_kept w (n + 1) xs (one_on w n (Free f) xs h)
living_kept w n (Living f b ∷ xs) h = (
  (let e : n ≡ n + 0 = omega arith in ap (λ j. record_of w (record { index = j; generation = f })) e ∙ h 0 f b refl),
  living_kept w (n + 1) xs (one_on w n (Living f b) xs h),
)

all_kept : (w : Indexed Record) → AllByRecursion (λ (p : Kept). record_of w p.0 ≡ Some p.1) (living w)
all_kept w =
    living_kept w 0 w.indices
    (λ k g r at. let e : 0 + k ≡ k = omega arith in ap (λ j. record_of w (record { index = j; generation = g })) e
    ∙ record_at w (record { index = k; generation = g }) r at)

-- all who pass, each with the ids of the table at its place, give the answer
pub standings_answer : (w : Indexed Record) (tables : List (Option TableState)) (ns : List ℕ) (q : List QuerySlot) (ss : List Standing)
    → map (λ (s : Standing). s.entity) ss ≡ entities_whose w (λ ids. matches_type ids q) → All (StandsIn w tables ns) ss
    → results_at tables ns (asked q) ss ≡ answer (world_of w) (asked q)
standings_answer w tables ns q ss are right =
    by_entity w tables ns (asked q) ss (recursion_from_All (StandsIn w tables ns) ss right)
    ∙ ap (flat_map (λ e. results e (own_ids w e) (asked q))) are
    ∙ of_kept w (asked q) (filter (passing q) (living w)) (all_filtered (λ (p : Kept). record_of w p.0 ≡ Some p.1) (passing q) (living w) (all_kept w))
    ∙ answer_passing q (living w)

-- ---- whose types fulfil the query

filtered_pass : (t : Kept → Bool) (ps : List Kept) → AllByRecursion (λ (p : Kept). IsTrue (t p)) (filter t ps)
filtered_pass t [] = tt
filtered_pass t (p ∷ ps) = by (t p) refl (filtered_pass t ps)
  where
    by : (b : Bool) → t p ≡ b → AllByRecursion (λ (x : Kept). IsTrue (t x)) (filter t ps)
        → AllByRecursion (λ (x : Kept). IsTrue (t x)) (cond b (p ∷ filter t ps) (filter t ps))
    by true e rest = (e, rest)
    by false e rest = rest

each_fits : (w : Indexed Record) (tables : List (Option TableState)) (ns : List ℕ) (q : List QuerySlot) (ss : List Standing) (ps : List Kept)
    → map (λ (s : Standing). s.entity) ss ≡ map (λ (p : Kept). p.0) ps → AllByRecursion (StandsIn w tables ns) ss
    → AllByRecursion (λ (p : Kept). record_of w p.0 ≡ Some p.1) ps → AllByRecursion (λ (p : Kept). IsTrue (passing q p)) ps
    → AllByRecursion (FitsQuery tables ns q) ss
each_fits w tables ns q [] ps same right kept pass = tt
each_fits w tables ns q (s ∷ ss) [] same right kept pass = absurd (omega (arith, ap length same))
each_fits w tables ns q (s ∷ ss) (p ∷ ps) same right kept pass =
    let own : s.entity ≡ p.0 = ap (λ es. get_or es 0 p.0) same in
    let ids : (table_in tables (slice_index_or ns s.place 0)).ids ≡ record_ids p.1 =
    ap (λ o. unwrap_or o []) (sym right.0.1 ∙ ap (type_in_store w) own ∙ ap (option_map record_ids) kept.0) in
    (ap (λ is. matches_type is q) ids ∙ pass.0, each_fits w tables ns q ss ps (ap (drop 1) same) right.1 kept.1 pass.1)

-- all who pass stand in tables whose types fulfil the query
pub all_fit : (w : Indexed Record) (tables : List (Option TableState)) (ns : List ℕ) (q : List QuerySlot) (ss : List Standing)
    → map (λ (s : Standing). s.entity) ss ≡ entities_whose w (λ ids. matches_type ids q) → All (StandsIn w tables ns) ss
    → All (FitsQuery tables ns q) ss
all_fit w tables ns q ss are right =
    All-from_recursion (FitsQuery tables ns q) ss
    (each_fits w tables ns q ss (filter (passing q) (living w)) are (recursion_from_All (StandsIn w tables ns) ss right)
    (all_filtered (λ (p : Kept). record_of w p.0 ≡ Some p.1) (passing q) (living w) (all_kept w)) (filtered_pass (passing q) (living w)))

-- what the slots ask is what the query asks
pub asks_asked : (slots : List Slot) (q : List QuerySlot) → map slot_view slots ≡ q → asks slots ≡ asked q
asks_asked slots q is = go slots ∙ ap asked is
  where
    go : (slots : List Slot) → asks slots ≡ asked (map slot_view slots)
    go [] = refl
    go (s ∷ slots) = ap (λ zs. term_view s.term ∷ zs) (go slots)

-- where nobody stands there is no answer
pub none_answers : (w : Indexed Record) (tables : List (Option TableState)) (ns : List ℕ) (q : List QuerySlot) (ss : List Standing)
    → map (λ (s : Standing). s.entity) ss ≡ entities_whose w (λ ids. matches_type ids q) → All (StandsIn w tables ns) ss → length ss ≡ 0
    → (rs : List answers.Row) → length rs ≡ 0 → rs ≡ answer (world_of w) (asked q)
none_answers w tables ns q ss are right none rs empty =
    nil_from_length rs empty ∙ ap (results_at tables ns (asked q)) (sym (nil_from_length ss none)) ∙ standings_answer w tables ns q ss are right

-- where somebody stands there is one
pub some_answers : (w : Indexed Record) (q : List QuerySlot) (ss : List Standing)
    → map (λ (s : Standing). s.entity) ss ≡ entities_whose w (λ ids. matches_type ids q) → 0 < length ss → 0 < length (answer (world_of w) (asked q))
some_answers w q ss are some =
    let long : length (entities_whose w (λ ids. matches_type ids q)) ≡ length ss = ap length (sym are) ∙ length-map ss (λ (s : Standing). s.entity) in
    passing_answers q (living w) (listed_passes (passing q) (living w) (omega (arith, long, some)))

-- where one passes there is one
pub held_answers : (w : Indexed Record) (q : List QuerySlot) → list_any (passing q) (living w) ≡ true → 0 < length (answer (world_of w) (asked q))
held_answers w q h = passing_answers q (living w) h
