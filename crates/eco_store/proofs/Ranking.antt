-- Who stands in the tables that a test finds, by entity, are those who pass.
use Rattle.eco_store.proofs.AnswersCommon.{◌≡◌, ℕ, suc, ◌+◌, ◌<◌, Bool, true, nat_eq, List, [], ◌∷◌, ◌++◌, map, length, drop, slice_get}
use Rattle.eco_store.proofs.AnswersCommon.{get_or, Option, Some, refl, sym, ap, ◌∙◌, subst, arith, is_lt, add-one, append_assoc, option_map, All, AllByRecursion}
use Rattle.eco_store.proofs.AnswersCommon.{IsDistinct, list_any, IsPermutation, IsSorted, IsSortedByKey, IsTotalOrder, IsAntisymmetric, get_or-map, length-map}
use Rattle.eco_store.proofs.AnswersCommon.{map-append, All-from_recursion, All-permutation, IsPermutation-map, Record, Entity, Id, Indexed, entity_cmp}
use Rattle.eco_store.proofs.AnswersCommon.{AscendingAreSets, TableRow, TableState, entities_of, slot_of, table_in, is_found_by, standing_in, entities_whose}
use Rattle.eco_store.proofs.AnswersCommon.{in_first, IsPermutation-refl}
use Rattle.eco_store.proofs.AnswersCommon.{AreRanked, standings, StandsIn, IsShown, record_ids, Standing}
use Rattle.std.proofs.Common.{drop-cons, take, ◌≤◌}
use Rattle.std.proofs.Math.Seq.{take-add}
use Rattle.std.proofs.lemmas.List.{length-take-le}
use Rattle.std.proofs.lemmas.Option.{slice_get-get_or, slice_get-map}
use Rattle.std.specs.Prelude.{slice_index_or}
use Rattle.eco_archetypes.proofs.Holders.{found_matches, row_kept, standing_apart, standing_whose, whose_ascend}
use Rattle.eco_archetypes.proofs.Sorting.{sorted_is}

at : ℕ → Entity → Standing
at i e = record { entity = e; place = i }

placed : (i : ℕ) (es : List Entity) → map (λ (s : Standing). s.entity) (map (λ e. let s : Standing = record { entity = e; place = i } in s) es) ≡ es
placed i [] = refl
placed i (e ∷ es) = ap (λ zs. e ∷ zs) (placed i es)

standings_entities : (i : ℕ) (tables : List (Option TableState)) (ns : List ℕ)
    → map (λ (s : Standing). s.entity) (standings i tables ns) ≡ standing_in tables ns
standings_entities i tables [] = refl
standings_entities i tables (n ∷ ns) =
    map-append (λ (s : Standing). s.entity)
    (map (λ e. let s : Standing = record { entity = e; place = i } in s) (entities_of (table_in tables n).rows)) (standings (suc i) tables ns)
    ∙ ap (λ zs. zs ++ map (λ (s : Standing). s.entity) (standings (suc i) tables ns)) (placed i (entities_of (table_in tables n).rows))
    ∙ ap (λ zs. entities_of (table_in tables n).rows ++ zs) (standings_entities (suc i) tables ns)

-- what is sorted by a key has sorted keys
keys_sorted : (ss : List Standing) → IsSortedByKey (λ (s : Standing). s.entity) entity_cmp ss → IsSorted entity_cmp (map (λ (s : Standing). s.entity) ss)
keys_sorted ss up = λ k d low within.
    let s : Standing = record { entity = d; place = 0 } in
    let inside : k + 1 < length ss = rw (length-map ss (λ (s : Standing). s.entity)) at within in
    ap (λ a. is_lt (entity_cmp a (get_or (map (λ (s : Standing). s.entity) ss) k d))) (get_or-map (λ (s : Standing). s.entity) ss (k + 1) s d inside)
    ∙ ap (λ b. is_lt (entity_cmp (get_or ss (k + 1) s).entity b)) (get_or-map (λ (s : Standing). s.entity) ss k s d (omega (arith, inside)))
    ∙ up k s low inside

-- entities that ascend do so in the first table
pub first_sorted : (es : List Entity) → IsSorted entity_cmp es → IsSortedByKey (λ (s : Standing). s.entity) entity_cmp (map in_first es)
first_sorted es up = λ k s low within.
    let e = s.entity in
    let inside : k + 1 < length es = rw (length-map es in_first) at within in
    ap (λ (a : Standing). is_lt (entity_cmp a.entity (get_or (map in_first es) k s).entity)) (get_or-map in_first es (k + 1) e s inside)
    ∙ ap (λ (b : Standing). is_lt (entity_cmp (get_or es (k + 1) e) b.entity)) (get_or-map in_first es k e s (omega (arith, inside)))
    ∙ up k e low inside

-- entities that ascend as they stand are ranked so
pub in_order_ranked : (es list : List Entity) → list ≡ es → IsSorted entity_cmp es → AreRanked (map in_first es) (map in_first list)
in_order_ranked es list same up = rw same (record { all = IsPermutation-refl (map in_first es); sorted = first_sorted es up })

-- all who stand in the first table share it
pub share_first : (ss : List Standing) (es : List Entity) (one other : ℕ) → ss ≡ map in_first es → one < length ss → other < length ss
    → option_map (λ (s : Standing). s.place) (slice_get ss one) ≡ option_map (λ (s : Standing). s.place) (slice_get ss other)
share_first ss es one other same a b = in_first_place one a ∙ sym (in_first_place other b) where
  in_first_place : (k : ℕ) → k < length ss → option_map (λ (s : Standing). s.place) (slice_get ss k) ≡ Some 0
  in_first_place k within =
      let nobody : Entity = record { index = 0; generation = 0 } in
      let inside : k < length es = rw (ap length same ∙ length-map es in_first) at within in
      ap (λ z. option_map (λ (s : Standing). s.place) (slice_get z k)) same
      ∙ ap (option_map (λ (s : Standing). s.place)) (slice_get-map in_first es k ∙ ap (option_map in_first) (slice_get-get_or es k nobody inside))

-- one more slot is done
pub standings_step : (i : ℕ) (tables : List (Option TableState)) (ns : List ℕ) (items more all : List Standing) (es : List Entity) → i < length ns
    → more ≡ items ++ map (λ e. record { entity = e; place = i }) es → es ≡ entities_of (table_in tables (get_or ns i 0)).rows
    → items ++ standings i tables (drop i ns) ≡ all → more ++ standings (i + 1) tables (drop (i + 1) ns) ≡ all
standings_step i tables ns items more all es lt added same so_far =
    let st : List Standing = standings (suc i) tables (drop (suc i) ns) in
    let here : Entity → Standing = λ e. record { entity = e; place = i } in
    ap (λ j. more ++ standings j tables (drop j ns)) (add-one i)
    ∙ ap (λ z. z ++ st) (added ∙ ap (λ z. items ++ map here z) same)
    ∙ append_assoc items (map here (entities_of (table_in tables (get_or ns i 0)).rows)) st
    ∙ ap (λ z. items ++ standings i tables z) (sym (drop-cons ns i 0 lt))
    ∙ so_far

module _ (w : Indexed Record) (tables : List (Option TableState)) (shown : IsShown w tables) where
  rows_placed : (P : Standing → Type 0) (i : ℕ) (rows : List TableRow)
      → ((row : ℕ) (r : TableRow) → slice_get rows row ≡ Some r → P (record { entity = r.entity; place = i }))
      → AllByRecursion P (map (λ e. record { entity = e; place = i }) (entities_of rows))
  rows_placed P i [] h = tt
  rows_placed P i (r ∷ rows) h = (h 0 r refl, rows_placed P i rows (λ row x at. h (suc row) x at))

  append_all : (P : Standing → Type 0) (xs ys : List Standing) → AllByRecursion P xs → AllByRecursion P ys → AllByRecursion P (xs ++ ys)
  append_all P [] ys one two = two
  append_all P (x ∷ xs) ys one two = (one.0, append_all P xs ys one.1 two)

  -- the slots from i on are these
  abbrev AreFrom : List ℕ → ℕ → List ℕ → Type 0
  AreFrom all i ns = (k : ℕ) → k < length ns → (i + k < length all) × (slice_index_or all (i + k) 0 ≡ slice_index_or ns k 0)

  all_placed : (all : List ℕ) (i : ℕ) (ns : List ℕ) → AreFrom all i ns → AllByRecursion (StandsIn w tables all) (standings i tables ns)
  all_placed all i [] from = tt
  all_placed all i (n ∷ ns) from =
      let first = from 0 (omega arith) in
      let same : i ≡ i + 0 = omega arith in
      let here : slice_index_or all i 0 ≡ n = ap (λ j. slice_index_or all j 0) same ∙ first.1 in
      append_all (StandsIn w tables all) (map (λ e. record { entity = e; place = i }) (entities_of (table_in tables n).rows)) (standings (suc i) tables ns)
      (rows_placed (StandsIn w tables all) i (table_in tables n).rows (λ row r at.
      let own = row_kept w tables (λ ids. true) shown n row r at in (
        (let within = first.0 in omega (arith, within)),
        ap (option_map record_ids) own.1 ∙ ap Some own.2 ∙ ap (λ m. Some (table_in tables m).ids) (sym here),
      )))
      (all_placed all (suc i) ns (λ k lt.
      let e : suc i + k ≡ i + suc k = omega arith in
      let next = from (suc k) (omega (arith, lt)) in
      ((let within = next.0 in omega (arith, within)), ap (λ j. slice_index_or all j 0) e ∙ next.1)))

  -- each who stands in one of the tables has its ids
  pub ranked_placed : (ns : List ℕ) (ss : List Standing) → IsPermutation (standings 0 tables ns) ss → All (StandsIn w tables ns) ss
  ranked_placed ns ss moved =
      All-permutation (StandsIn w tables ns) (standings 0 tables ns) ss moved
      (All-from_recursion (StandsIn w tables ns) (standings 0 tables ns)
      (all_placed ns 0 ns (λ k lt. let e : 0 + k ≡ k = omega arith in (omega (arith, lt), ap (λ j. slice_index_or ns j 0) e))))

  -- all who stand in the tables that a test finds, by entity, are those who pass it
  pub ranked_whose : IsTotalOrder entity_cmp → IsAntisymmetric entity_cmp → AscendingAreSets entity_cmp → (test : List Id → Bool) (ns : List ℕ)
      → ((n : ℕ) → list_any (nat_eq n) ns ≡ is_found_by test (slot_of tables n)) → IsDistinct nat_eq ns
      → (ss : List Standing) → AreRanked (standings 0 tables ns) ss → map (λ (s : Standing). s.entity) ss ≡ entities_whose w test
  ranked_whose total ties sets test ns listed distinct ss are =
      sorted_is total ties sets (standing_in tables ns) (map (λ (s : Standing). s.entity) ss) (entities_whose w test)
      (subst (λ zs. IsPermutation zs (map (λ (s : Standing). s.entity) ss)) (standings_entities 0 tables ns)
      (IsPermutation-map (λ (s : Standing). s.entity) (standings 0 tables ns) ss are.all))
      (keys_sorted ss are.sorted)
      (standing_apart w tables test shown ns distinct)
      (whose_ascend w test)
      (standing_whose w tables test shown ns (λ n h. found_matches test (slot_of tables n) (sym (listed n) ∙ h)) (λ n h. listed n ∙ h))

-- ---- a list that is copied chunk by chunk

-- one chunk more
pub chunk_more : (es items more : List Entity) (n m : ℕ) → items ≡ take n es → n + m ≤ length es → more ≡ items ++ take m (drop n es)
    → (length more ≡ n + m) × (more ≡ take (n + m) es)
chunk_more es items more n m begun within h =
    let all : more ≡ take (n + m) es = h ∙ ap (λ xs. xs ++ take m (drop n es)) begun ∙ sym (take-add n m es) in
    (ap length all ∙ length-take-le (n + m) es within, all)
