-- Rows for the choices of blocks.
use Rattle.eco_store.proofs.AnswersCommon.{◌≡◌, ℕ, zero, suc, ◌+◌, ◌-◌, ◌<◌, ◌≤◌, List, [], ◌∷◌, ◌++◌, map, length, take, drop}
use Rattle.eco_store.proofs.AnswersCommon.{None, Some, get_or, option_map, unwrap_or, choices, Option, refl, sym, ap, ◌∙◌, subst, arith, append_assoc}
use Rattle.eco_store.proofs.AnswersCommon.{map-append, AllByRecursion, All, drop-cons, slice_index_or, get_or_default, length-map, recursion_from_All}
use Rattle.eco_store.proofs.AnswersCommon.{All-from_recursion, QueryTerm, Entity, Id, TableState, no_table, slot_of, table_in, Standing, IsEven, AreBlocks, IsBlock}
use Rattle.eco_store.proofs.AnswersCommon.{block_at, standings_in, standings_from, results, results_at, standings_of, shown}
use Rattle.std.proofs.Math.ListN.{get_or-map}
use Rattle.eco_index.specs.Caching.{AreOnly, choices_on}
use Rattle.eco_archetypes.specs.Archetypes.{type_at}
use Rattle.eco_store.specs.declared.blocks.Block.{Block}
use Rattle.eco_store.specs.declared.blocks.Blocks.{Blocks}
use Rattle.eco_ids.specs.Answer as answers

rows_more : (e : Entity) (first n : ℕ) → standings_from e first (suc n) ≡ standings_from e first n ++ record { entity = e; place = first + n } ∷ []
rows_more e first zero = let k : first ≡ first + 0 = omega arith in ap (λ j. record { entity = e; place = j } ∷ []) k
rows_more e first (suc n) =
    let k : suc first + n ≡ first + suc n = omega arith in
    ap (λ zs. record { entity = e; place = first } ∷ zs) (rows_more e (suc first) n)
    ∙ ap (λ j. record { entity = e; place = first } ∷ (standings_from e (suc first) n ++ record { entity = e; place = j } ∷ [])) k

-- one more choice has its row
pub rows_step : (e : Entity) (first at : ℕ) (old rows more : List Standing) → first ≤ at → rows ≡ old ++ standings_from e first (at - first)
    → more ≡ rows ++ record { entity = e; place = at } ∷ [] →
    more ≡ old ++ standings_from e first (at + 1 - first)
rows_step e first at old rows more low so_far pushed =
    let n : ℕ = at - first in
    let k : first + n ≡ at = omega (arith, low) in
    let m : suc n ≡ at + 1 - first = omega (arith, low) in
    pushed ∙ ap (λ zs. zs ++ record { entity = e; place = at } ∷ []) so_far
    ∙ append_assoc old (standings_from e first n) (record { entity = e; place = at } ∷ [])
    ∙ ap (λ j. old ++ (standings_from e first n ++ record { entity = e; place = j } ∷ [])) (sym k)
    ∙ ap (λ zs. old ++ zs) (sym (rows_more e first n))
    ∙ ap (λ j. old ++ standings_from e first j) m

-- the rows of a block show its choices
pub rows_show : (all : List (List (Option Id))) (e : Entity) (first n : ℕ) → first + n ≤ length all →
    map (shown all) (standings_from e first n) ≡ map (λ es. record { entity = e; entries = es }) (take n (drop first all))
rows_show all e first zero within = refl
rows_show all e first (suc n) within =
    ap (λ zs. shown all (record { entity = e; place = first }) ∷ zs) (rows_show all e (suc first) n (omega (arith, within)))
    ∙ ap (λ zs. map (λ es. record { entity = e; entries = es }) (take (suc n) zs)) (sym (drop-cons all first [] (omega (arith, within))))

-- ---- together

-- the rows of a block show the results of an entity with the ids whose choices it has
block_shows : (all : List (List (Option Id))) (e : Entity) (b : Block) (ids : List Id) (terms : List QueryTerm)
    → IsBlock all (answers.choices ids terms) b →
    map (shown all) (standings_in b e) ≡ results e ids terms
block_shows all e b ids terms is =
    rows_show all e b.first (b.end - b.first) (let r = is.rises in let w = is.within in omega (arith, r, w))
    ∙ ap (map (λ es. record { entity = e; entries = es })) is.are

-- where all stand at places of blocks, the rows show the results
pub rows_shown : (tables : List (Option TableState)) (ns : List ℕ) (terms : List QueryTerm) (b : Blocks) → AreBlocks tables ns terms b →
    (ss : List Standing) → AllByRecursion (λ (s : Standing). s.place < length ns) ss →
    map (shown b.choices.all) (standings_of b.list.items ss) ≡ results_at tables ns terms ss
rows_shown tables ns terms b are [] within = refl
rows_shown tables ns terms b are (s ∷ ss) within =
    let all = b.choices.all in
    let block = block_at b.list.items s.place in
    map-append (shown all) (standings_in block s.entity) (standings_of b.list.items ss)
    ∙ ap (λ zs. zs ++ map (shown all) (standings_of b.list.items ss))
    (block_shows all s.entity block (table_in tables (slice_index_or ns s.place 0)).ids terms (are.each s.place within.0))
    ∙ ap (λ zs. results s.entity (table_in tables (slice_index_or ns s.place 0)).ids terms ++ zs) (rows_shown tables ns terms b are ss within.1)

-- ---- one choice for each table

-- the only choice on the type of a slot
only_at : (tables : List (Option TableState)) (ns : List ℕ) (terms : List QueryTerm) (all : List (List (Option Id))) → AreOnly (type_at tables) terms ns all
    → (k : ℕ) → k < length ns → choices (table_in tables (slice_index_or ns k 0)).ids terms ≡ slice_index_or all k [] ∷ []
only_at tables ns terms all are k lt = there (slot_of tables (slice_index_or ns k 0)) (
    sym (get_or-map on ns k 0) ∙ ap (λ xs. get_or xs k (on 0)) are
    ∙ get_or_default (map (λ c. c ∷ []) all) k (on 0) ([] ∷ []) (let long = ap length are in let own = length-map ns on in omega (arith, lt, long, own))
    ∙ get_or-map (λ c. c ∷ []) all k [])
  where
    on : ℕ → List (List (Option Id))
    on n = choices_on terms (type_at tables n)

    there : (o : Option TableState) {c : List (Option Id)} → choices_on terms (option_map (λ (t : TableState). t.ids) o) ≡ c ∷ []
        → choices (unwrap_or o no_table).ids terms ≡ c ∷ []
    there None {c} is = absurd (let bad : ◌≡◌ {A = List (List (Option Id))} [] (c ∷ []) = is in cc)
    there (Some t) is = is

-- there are as many choices as slots
pub only_long : (tables : List (Option TableState)) (ns : List ℕ) (terms : List QueryTerm) (all : List (List (Option Id)))
    → AreOnly (type_at tables) terms ns all → length all ≡ length ns
only_long tables ns terms all are =
    sym (length-map all (λ c. c ∷ [])) ∙ ap length (sym are) ∙ length-map ns (λ n. choices_on terms (type_at tables n))

-- where each table has one choice, all who stand there are the rows
pub only_shown : (tables : List (Option TableState)) (ns : List ℕ) (terms : List QueryTerm) (all : List (List (Option Id)))
    → AreOnly (type_at tables) terms ns all → (ss : List Standing) → All (λ (s : Standing). s.place < length ns) ss
    → map (shown all) ss ≡ results_at tables ns terms ss
only_shown tables ns terms all are ss within = go ss (recursion_from_All (λ (s : Standing). s.place < length ns) ss within)
  where
    go : (ss : List Standing) → AllByRecursion (λ (s : Standing). s.place < length ns) ss → map (shown all) ss ≡ results_at tables ns terms ss
    go [] within = refl
    go (s ∷ ss) within =
        ap (λ zs. shown all s ∷ zs) (go ss within.1)
        ∙ ap (λ cs. map (λ es. record { entity = s.entity; entries = es }) cs ++ results_at tables ns terms ss)
        (sym (only_at tables ns terms all are s.place within.0))

-- ---- the results

pub all_shown : (tables : List (Option TableState)) (ns : List ℕ) (terms : List QueryTerm) (b : Blocks) → AreBlocks tables ns terms b →
    (ss : List Standing) → All (λ (s : Standing). s.place < length ns) ss
    → map (shown b.choices.all) (standings_of b.list.items ss) ≡ results_at tables ns terms ss
all_shown tables ns terms b are ss within = rows_shown tables ns terms b are ss (recursion_from_All (λ (s : Standing). s.place < length ns) ss within)

append_within : (n : ℕ) (xs ys : List Standing) → AllByRecursion (λ (s : Standing). s.place < n) xs → AllByRecursion (λ (s : Standing). s.place < n) ys
    → AllByRecursion (λ (s : Standing). s.place < n) (xs ++ ys)
append_within n [] ys one two = two
append_within n (x ∷ xs) ys one two = (one.0, append_within n xs ys one.1 two)

from_within : (e : Entity) (first n high : ℕ) → first + n ≤ high → AllByRecursion (λ (s : Standing). s.place < high) (standings_from e first n)
from_within e first zero high le = tt
from_within e first (suc n) high le = (omega (arith, le), from_within e (suc first) n high (omega (arith, le)))

-- each row stands at the place of a choice
pub rows_within : (tables : List (Option TableState)) (ns : List ℕ) (terms : List QueryTerm) (b : Blocks) → AreBlocks tables ns terms b →
    (ss : List Standing) → All (λ (s : Standing). s.place < length ns) ss
    → All (λ (s : Standing). s.place < length b.choices.all) (standings_of b.list.items ss)
rows_within tables ns terms b are ss within =
    All-from_recursion (λ (s : Standing). s.place < length b.choices.all) (standings_of b.list.items ss)
    (go ss (recursion_from_All (λ (s : Standing). s.place < length ns) ss within))
  where
    go : (ss : List Standing) → AllByRecursion (λ (s : Standing). s.place < length ns) ss
        → AllByRecursion (λ (s : Standing). s.place < length b.choices.all) (standings_of b.list.items ss)
    go [] within = tt
    go (s ∷ ss) within =
        let block = block_at b.list.items s.place in
        let is = are.each s.place within.0 in
        append_within (length b.choices.all) (standings_in block s.entity) (standings_of b.list.items ss)
        (from_within s.entity block.first (block.end - block.first) (length b.choices.all) (let r = is.rises in let w = is.within in omega (arith, r, w)))
        (go ss within.1)

even_at : (w : ℕ) (all : List (List (Option Id))) → IsEven w all → (k : ℕ) → k < length all → length (slice_index_or all k []) ≡ w
even_at w [] even k lt = absurd (omega (arith, lt))
even_at w (x ∷ all) even zero lt = even.0
even_at w (x ∷ all) even (suc k) lt = even_at w all even.1 k (omega (arith, lt))

-- each row has as many entries as each choice
pub rows_even : (w : ℕ) (all : List (List (Option Id))) → IsEven w all → (ss : List Standing) → All (λ (s : Standing). s.place < length all) ss
    → All (λ (r : answers.Row). length r.entries ≡ w) (map (shown all) ss)
rows_even w all even ss within =
    All-from_recursion (λ (r : answers.Row). length r.entries ≡ w) (map (shown all) ss)
    (go ss (recursion_from_All (λ (s : Standing). s.place < length all) ss within))
  where
    go : (ss : List Standing) → AllByRecursion (λ (s : Standing). s.place < length all) ss
        → AllByRecursion (λ (r : answers.Row). length r.entries ≡ w) (map (shown all) ss)
    go [] within = tt
    go (s ∷ ss) within = (even_at w all even s.place within.0, go ss within.1)

-- what holds of the places of rows holds of those that are left
pub rest_within : (all : List (List (Option Id))) (rows : List Standing) (r : Standing) (rest : List Standing) → rows ≡ r ∷ rest
    → All (λ (s : Standing). s.place < length all) rows → All (λ (s : Standing). s.place < length all) rest
rest_within all rows r rest same within =
    let whole : All (λ (s : Standing). s.place < length all) (r ∷ rest) = subst (λ ss. All (λ (s : Standing). s.place < length all) ss) same within in
    λ k d lt. whole (suc k) d (omega (arith, lt))
