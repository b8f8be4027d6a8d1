-- What a root, or a table that falls, leads to.
use Rattle.eco_traits.proofs.CleanupCommon.{◌≡◌, ℕ, zero, suc, ◌+◌, ◌<◌, get_or, length, take, Bool, true, false, cond, not, nat_eq, nat_lt, ◌&&◌}
use Rattle.eco_traits.proofs.CleanupCommon.{◌||◌, ◌↔◌, ◌⊎◌, inl, inr, List, [], ◌∷◌, ◌++◌, map, filter, flat_map, Option, Some, None}
use Rattle.eco_traits.proofs.CleanupCommon.{unwrap_or, option_map, is_some, refl, sym, ap, ◌∙◌, subst, true≢false, IsTrue, arith, and-false, and-true}
use Rattle.eco_traits.proofs.CleanupCommon.{or-false, or_assoc, Decides-eqb, list_any-append, list_any, Entity, Id, Is, Any, Pattern, entity_eq, names_entity}
use Rattle.eco_traits.proofs.CleanupCommon.{WorldState, first, any_is, or_parts, or_right, entity_eq_itself, TableState, entities_of, no_table, slot_of}
use Rattle.eco_traits.proofs.CleanupCommon.{table_in, type_names, is_found, is_found_by, type_at, type_matches, has_rows, AddsNodes, AreStarts, all_nodes, falls}
use Rattle.eco_traits.proofs.CleanupCommon.{is_naming, is_one_of, leads, named_node, nodes_at, nodes_from, touches, touches_by, Node, Root, Falling, Named}
use Rattle.std.proofs.Math.Seq.{take-suc}
use Rattle.std.proofs.lemmas.Bool.{or_left}
use Rattle.std.proofs.lemmas.Map.Views.{any-filter_same}
use Rattle.eco_ids.specs.declared.pattern.Pattern.TheVariants.{One, Two}
use Rattle.eco_ids.specs.Matching.{pattern_matches}
use Rattle.eco_ids.specs.OrderLaws.{entity_ties}
use Rattle.eco_ids.proofs.Facts.{entity_eq_sym}
use Rattle.eco_ids.specs.declared.id.Id.TheVariants as id
use Rattle.eco_traits.specs.contracts.node.NodePartialEq.TheImpl as node_impl

abbrev same_node : Node → Node → Bool
same_node = (node_impl.eq-value).it

-- a test by cases, as a fact
pub or_fact : (a b c : Bool) → a ≡ (b || c) → IsTrue a ↔ (IsTrue b ⊎ IsTrue c)
or_fact a b c e = (λ h. or_parts b c (sym e ∙ h), λ h. e ∙ elim h as (λ _. IsTrue (b || c)) [ inl k ↦ or_left b c k | inr k ↦ or_right b c k ])

pub joined : (old more : List Node) (b : Node) → is_one_of (old ++ more) b ≡ (is_one_of old b || is_one_of more b)
joined old more b = list_any-append _ old more

-- ---- kinds of nodes

-- nodes of one kind are none of another
pub no_others : {A : Type 0} (kind : A → Node) (xs : List A) (b : Node) → ((x : A) → same_node b (kind x) ≡ false)
    → is_one_of (map kind xs) b ≡ false
no_others kind [] b none = refl
no_others kind (x ∷ xs) b none = ap (λ t. t || is_one_of (map kind xs) b) (none x) ∙ no_others kind xs b none

-- roots, and tables that fall, are starts
pub roots_start : (es : List Entity) → AreStarts (map Root es)
roots_start es (Root e) h = refl
roots_start es (Falling n) h = refl
roots_start es (Named n) h = sym (no_others Root es (Named n) (λ x. refl)) ∙ h

pub tables_start : (ns : List ℕ) → AreStarts (map Falling ns)
tables_start ns (Root e) h = refl
tables_start ns (Falling n) h = refl
tables_start ns (Named n) h = sym (no_others Falling ns (Named n) (λ x. refl)) ∙ h

pub tables_are : (ns : List ℕ) (n : ℕ) → is_one_of (map Falling ns) (Falling n) ≡ list_any (nat_eq n) ns
tables_are [] n = refl
tables_are (k ∷ ns) n = ap (λ t. nat_eq n k || t) (tables_are ns n)

spread : (a b p : Bool) → ((a && p) || (b && p)) ≡ ((a || b) && p)
spread a b p = grind arith

-- a test that is asked of each
pub spread_right : (m : Bool) {B : Type 0} (t : B → Bool) (bs : List B) → list_any (λ b. t b && m) bs ≡ (list_any t bs && m)
spread_right m t [] = refl
spread_right m t (b ∷ bs) = ap (λ x. (t b && m) || x) (spread_right m t bs) ∙ spread (t b) (list_any t bs) m

-- ---- tables that name an entity

abbrev listed : List ℕ → ℕ → Bool
listed found n = list_any (nat_eq n) found

any_filtered : (p : ℕ → Bool) (ns : List ℕ) (k : ℕ) → listed (filter p ns) k ≡ (p k && listed ns k)
any_filtered p ns k = any-filter_same (nat_eq k) p (p k) (λ n same. ap p (sym ((Decides-eqb k n).0 same))) ns

-- a table is found by its type and its rows
found_parts : (p : Pattern) (o : Option TableState)
    → (nat_lt 0 (length (unwrap_or o no_table).rows) && type_matches (option_map (λ (t : TableState). t.ids) o) p) ≡ is_found p o
found_parts p None = refl
found_parts p (Some t) = refl

-- an id names the entity where it is that single, or a pair with that relationship or target
one_named : (m : Entity) (i : Id)
    → names_entity i m ≡ ((pattern_matches (One m) i || pattern_matches (Two (Is m) Any) i) || pattern_matches (Two Any (Is m)) i)
one_named m (id.One x) = entity_eq_sym x m ∙ single (entity_eq m x)
  where
    single : (a : Bool) → a ≡ ((a || false) || false)
    single true = refl
    single false = refl
one_named m (id.Two r t) = (λ k. entity_eq_sym r m k || entity_eq_sym t m k) ∙ pair (entity_eq m r) (entity_eq m t)
  where
    pair : (a b : Bool) → (a || b) ≡ ((a && true) || b)
    pair true b = refl
    pair false b = refl

shuffle : (a b c x y z : Bool) → (((a || b) || c) || ((x || y) || z)) ≡ (((a || x) || (b || y)) || (c || z))
shuffle a b c x y z = grind arith

any_three : (k f g h : Id → Bool) → ((i : Id) → k i ≡ ((f i || g i) || h i)) → (is : List Id)
    → list_any k is ≡ ((list_any f is || list_any g is) || list_any h is)
any_three k f g h each [] = refl
any_three k f g h each (i ∷ is) =
    (λ t. each i t || any_three k f g h each is t) ∙ shuffle (f i) (g i) (h i) (list_any f is) (list_any g is) (list_any h is)

found_three : (m : Entity) (o : Option TableState)
    → is_found_by (λ is. type_names is m) o ≡ ((is_found (One m) o || is_found (Two (Is m) Any) o) || is_found (Two Any (Is m)) o)
found_three m None = refl
found_three m (Some t) = by (nat_lt 0 (length t.rows))
  where
    by : (b : Bool) → (b && type_names t.ids m) ≡ (((b && list_any (pattern_matches (One m)) t.ids)
        || (b && list_any (pattern_matches (Two (Is m) Any)) t.ids)) || (b && list_any (pattern_matches (Two Any (Is m))) t.ids))
    by true =
        any_three (λ i. names_entity i m) (pattern_matches (One m)) (pattern_matches (Two (Is m) Any)) (pattern_matches (Two Any (Is m))) (one_named m) t.ids
    by false = refl

module _ (w : WorldState) (slots : List (Option TableState)) (m : Entity) where
  -- a node of a kind comes where the table of its slot is of that kind
  come : (b : Node) (k : ℕ) (t : ℕ → Bool) → ((n : ℕ) → same_node b (named_node w slots m n) ≡ (nat_eq k n && t n)) → (found : List ℕ)
      → is_one_of (map (named_node w slots m) found) b ≡ (listed found k && t k)
  come b k t one [] = refl
  come b k t one (n ∷ found) =
      (λ x. (one n ∙ here (nat_eq k n) refl) x || come b k t one found x) ∙ spread (nat_eq k n) (listed found k) (t k)
    where
      here : (s : Bool) → nat_eq k n ≡ s → (s && t n) ≡ (s && t k)
      here true same = ap t (sym ((Decides-eqb k n).0 same))
      here false same = refl

  one_fall : (k n : ℕ) → same_node (Falling k) (named_node w slots m n) ≡ (nat_eq k n && falls w slots m n)
  one_fall k n = elim (falls w slots m n) as (λ f. same_node (Falling k) (cond f (Falling n) (Named n)) ≡ (nat_eq k n && f)) [
    | true ↦ sym (and-true (nat_eq k n))
    | false ↦ sym (and-false (nat_eq k n))
  ]

  one_stays : (k n : ℕ) → same_node (Named k) (named_node w slots m n) ≡ (nat_eq k n && not (falls w slots m n))
  one_stays k n = elim (falls w slots m n) as (λ f. same_node (Named k) (cond f (Falling n) (Named n)) ≡ (nat_eq k n && not f)) [
    | true ↦ sym (and-false (nat_eq k n))
    | false ↦ sym (and-true (nat_eq k n))
  ]

  one_root : (n : ℕ) (e : Entity) → same_node (Root e) (named_node w slots m n) ≡ false
  one_root n e = elim (falls w slots m n) as (λ f. same_node (Root e) (cond f (Falling n) (Named n)) ≡ false) [ true ↦ refl | false ↦ refl ]

  -- the tables that have rows
  as_mapped : (found : List ℕ) → flat_map (nodes_at w slots m) found ≡ map (named_node w slots m) (filter (has_rows slots) found)
  as_mapped [] = refl
  as_mapped (n ∷ found) = by (has_rows slots n) (as_mapped found)
    where
      by : (b : Bool) → flat_map (nodes_at w slots m) found ≡ map (named_node w slots m) (filter (has_rows slots) found)
          → (cond b (named_node w slots m n ∷ []) [] ++ flat_map (nodes_at w slots m) found)
          ≡ map (named_node w slots m) (cond b (n ∷ filter (has_rows slots) found) (filter (has_rows slots) found))
      by true rest = ap (λ xs. named_node w slots m n ∷ xs) rest
      by false rest = rest

  touched : (p : Pattern) (found : List ℕ) → ((n : ℕ) → listed found n ≡ is_found p (slot_of slots n)) → (b : Node)
      → is_one_of (map (named_node w slots m) found) b ≡ touches_by w slots m p b
  touched p found all (Root e) = no_others (named_node w slots m) found (Root e) (λ n. one_root n e)
  touched p found all (Falling k) = come (Falling k) k (falls w slots m) (one_fall k) found ∙ ap (λ t. t && falls w slots m k) (all k)
  touched p found all (Named k) = come (Named k) k (λ n. not (falls w slots m n)) (one_stays k) found ∙ ap (λ t. t && not (falls w slots m k)) (all k)

  -- the tables that a pattern finds come
  pub listed_come : (p : Pattern) (found : List ℕ) (old new : List Node) → ((n : ℕ) → listed found n ≡ type_matches (type_at slots n) p)
      → new ≡ old ++ flat_map (nodes_at w slots m) found → AddsNodes (touches_by w slots m p) old new
  listed_come p found old new all is b =
      ap (λ xs. is_one_of xs b) (is ∙ ap (λ xs. old ++ xs) (as_mapped found))
      ∙ joined old (map (named_node w slots m) (filter (has_rows slots) found)) b
      ∙ ap (λ t. is_one_of old b || t) (touched p (filter (has_rows slots) found) with_rows b)
    where
      with_rows : (n : ℕ) → listed (filter (has_rows slots) found) n ≡ is_found p (slot_of slots n)
      with_rows n = any_filtered (has_rows slots) found n ∙ ap (λ t. has_rows slots n && t) (all n) ∙ found_parts p (slot_of slots n)

  -- those of all three patterns are all that are touched
  both_ways : (n : ℕ) (f : Bool)
      → (((is_found (One m) (slot_of slots n) && f) || (is_found (Two (Is m) Any) (slot_of slots n) && f))
      || (is_found (Two Any (Is m)) (slot_of slots n) && f))
      ≡ (is_naming slots m n && f)
  both_ways n f =
      ap (λ t. t || (is_found (Two Any (Is m)) (slot_of slots n) && f))
      (spread (is_found (One m) (slot_of slots n)) (is_found (Two (Is m) Any) (slot_of slots n)) f)
      ∙ spread (is_found (One m) (slot_of slots n) || is_found (Two (Is m) Any) (slot_of slots n)) (is_found (Two Any (Is m)) (slot_of slots n)) f
      ∙ ap (λ t. t && f) (sym (found_three m (slot_of slots n)))

  all_three : (b : Node) → ((touches_by w slots m (One m) b || touches_by w slots m (Two (Is m) Any) b) || touches_by w slots m (Two Any (Is m)) b)
      ≡ touches w slots m b
  all_three (Root e) = refl
  all_three (Falling n) = both_ways n (falls w slots m n)
  all_three (Named n) = both_ways n (not (falls w slots m n))

  pub three_come : (old one two new : List Node) → AddsNodes (touches_by w slots m (One m)) old one
      → AddsNodes (touches_by w slots m (Two (Is m) Any)) one two
      → AddsNodes (touches_by w slots m (Two Any (Is m))) two new → AddsNodes (touches w slots m) old new
  three_come old one two new single relationship target b =
      target b
      ∙ ap (λ t. t || touches_by w slots m (Two Any (Is m)) b) (relationship b ∙ ap (λ t. t || touches_by w slots m (Two (Is m) Any) b) (single b))
      ∙ or_assoc (is_one_of old b || touches_by w slots m (One m) b) (touches_by w slots m (Two (Is m) Any) b) (touches_by w slots m (Two Any (Is m)) b)
      ∙ or_assoc (is_one_of old b) (touches_by w slots m (One m) b) (touches_by w slots m (Two (Is m) Any) b || touches_by w slots m (Two Any (Is m)) b)
      ∙ ap (λ t. is_one_of old b || t)
      (sym (or_assoc (touches_by w slots m (One m) b) (touches_by w slots m (Two (Is m) Any) b) (touches_by w slots m (Two Any (Is m)) b)) ∙ all_three b)

-- ---- all who stand in a table

-- one more of a list
pub one_more : {A : Type 0} (test : A → Bool) (xs : List A) (k : ℕ) (d : A) → k < length xs → (old now : Bool)
    → now ≡ (old || list_any test (take k xs))
    → (now || test (get_or xs k d)) ≡ (old || list_any test (take (k + 1) xs))
one_more test xs k d within old now is =
    let next : k + 1 ≡ suc k = omega arith in
    let parts = list_any-append test (take k xs) (get_or xs k d ∷ []) ∙ ap (λ t. list_any test (take k xs) || t) (or-false (test (get_or xs k d))) in
    ap (λ t. t || test (get_or xs k d)) is ∙ or_assoc old (list_any test (take k xs)) (test (get_or xs k d))
    ∙ sym (ap (λ t. old || t) (ap (list_any test) (ap (λ n. take n xs) next ∙ take-suc xs k d within) ∙ parts))

module _ (w : WorldState) (slots : List (Option TableState)) where
  -- what a node leads to comes
  pub come_of : (a c : Node) (old new : List Node) → a ≡ c → AddsNodes (leads w slots c) old new
      → (b : Node) → IsTrue (is_one_of new b) ↔ (IsTrue (is_one_of old b) ⊎ IsTrue (leads w slots a b))
  come_of a c old new at come b =
      subst (λ x. IsTrue (is_one_of new b) ↔ (IsTrue (is_one_of old b) ⊎ IsTrue (leads w slots x b))) (sym at) (or_fact _ _ _ (come b))

-- ---- all nodes

pub node_itself : (b : Node) → same_node b b ≡ true
node_itself (Root e) = entity_ties e e ∙ entity_eq_itself e
node_itself (Falling n) = (Decides-eqb n n).1 refl
node_itself (Named n) = (Decides-eqb n n).1 refl

-- nodes of a kind that each slot has
within : (kind : ℕ → Node) → ((n : ℕ) (rest : Bool) → IsTrue (same_node (kind n) (Falling n) || (same_node (kind n) (Named n) || rest)))
    → (n : ℕ) (os : List (Option TableState)) (k : ℕ) → IsTrue (is_some (slot_of os k)) → IsTrue (is_one_of (nodes_from n os) (kind (n + k)))
within kind own n [] k there = absurd (true≢false (sym there))
within kind own n (o ∷ os) zero there =
    let same : n ≡ n + 0 = omega arith in
    subst (λ x. IsTrue (is_one_of (nodes_from n (o ∷ os)) (kind x))) same (own n (is_one_of (nodes_from (n + 1) os) (kind n)))
within kind own n (o ∷ os) (suc k) there =
    let same : n + 1 + k ≡ n + suc k = omega arith in
    or_right _ _ (or_right _ _ (subst (λ x. IsTrue (is_one_of (nodes_from (n + 1) os) (kind x))) same (within kind own (n + 1) os k there)))

there_if_found : (test : List Id → Bool) (o : Option TableState) → IsTrue (is_found_by test o) → IsTrue (is_some o)
there_if_found test None h = absurd (true≢false (sym h))
there_if_found test (Some t) h = refl

module _ (w : WorldState) (slots : List (Option TableState)) where
  -- a node of either kind, where the type of its table names the entity
  known : (kind : ℕ → Node) → ((n : ℕ) (rest : Bool) → IsTrue (same_node (kind n) (Falling n) || (same_node (kind n) (Named n) || rest)))
      → (m : Entity) (n : ℕ) → IsTrue (is_naming slots m n) → IsTrue (is_one_of (all_nodes slots) (kind n))
  known kind own m n h =
      let same : 0 + n ≡ n = omega arith in
      subst (λ x. IsTrue (is_one_of (all_nodes slots) (kind x))) same
      (within kind own 0 slots n (there_if_found (λ is. type_names is m) (slot_of slots n) h))

  touched_known : (m : Entity) (b : Node) → IsTrue (touches w slots m b) → IsTrue (is_one_of (all_nodes slots) b)
  touched_known m (Root x) h = absurd (true≢false (sym h))
  touched_known m (Falling n) h = known Falling (λ k rest. or_left _ _ (node_itself (Falling k))) m n (first _ _ h)
  touched_known m (Named n) h = known Named (λ k rest. or_left _ _ (node_itself (Named k))) m n (first _ _ h)

  -- whatever anything leads to is one of them
  pub all_known : (a b : Node) → IsTrue (leads w slots a b) → IsTrue (is_one_of (all_nodes slots) b)
  all_known (Root m) b h = touched_known m b h
  all_known (Falling n) b h = let one = any_is (λ e. touches w slots e b) (entities_of (table_in slots n).rows) h in touched_known one.0 b one.1
  all_known (Named n) b h = absurd (true≢false (sym h))
