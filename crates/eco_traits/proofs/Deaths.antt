-- Who dies by the nodes that the search finds is who is doomed.
use Rattle.eco_traits.proofs.CleanupCommon.{◌≡◌, ◌≢◌, ℕ, Bool, false, ◌↔◌, ◌||◌, inl, inr, List, [], ◌∷◌, map, Option, Some, refl, sym}
use Rattle.eco_traits.proofs.CleanupCommon.{same_tests, ap, ◌∙◌, subst, true≢false, IsTrue, or-false, false_from_ne_true, list_any-append, list_any, Entity}
use Rattle.eco_traits.proofs.CleanupCommon.{DELETE, Doomed, HoldsOn, Indexed, Least, root, next, entity_cmp, entity_eq, has_item, names_entity, Record, has, both}
use Rattle.eco_traits.proofs.CleanupCommon.{second, any_is, or_left, or_parts, or_right, entity_eq_is, entity_eq_itself, TableRow, TableState, entities_of, slot_of}
use Rattle.eco_traits.proofs.CleanupCommon.{table_in, type_names, row_at, IsShown, AreStarts, IsSearch, falls, is_falling, is_naming, is_one_of, is_root, leads}
use Rattle.eco_traits.proofs.CleanupCommon.{node_same, taken_among, taken_by, touches, names_on, world_of, Node, Root, Falling, Named}
use Rattle.eco_traits.proofs.CleanupNoted.{node_itself}
use Rattle.eco_traits.proofs.Roles.{names_on_exact, names_on_names}
use Rattle.eco_traits.proofs.Standing.{any_id, found_at, has_at, row_of, some_id, stands_among, stands_with}
use Rattle.eco_traits.specs.contracts.node.NodePartialEq.TheImpl as node_impl

-- ---- who dies by some nodes

pub one_itself : (e : Entity) → IsTrue (has_item entity_cmp (e ∷ []) e)
one_itself e = or_left (entity_eq e e) false (entity_eq_itself e)

pub one_is : (x e : Entity) → IsTrue (has_item entity_cmp (x ∷ []) e) → x ≡ e
one_is x e h = entity_eq_is x e (sym (or-false (entity_eq x e)) ∙ h)

module _ (slots : List (Option TableState)) where
  -- who dies by a node
  abbrev pub Takes : Node → Entity → Type 0
  Takes a e = IsTrue (has_item entity_cmp (taken_by slots a) e)

  taken_any : (nodes : List Node) (e : Entity)
      → has_item entity_cmp (taken_among slots nodes) e ≡ list_any (λ a. has_item entity_cmp (taken_by slots a) e) nodes
  taken_any [] e = refl
  taken_any (a ∷ nodes) e =
      list_any-append (λ y. entity_eq y e) (taken_by slots a) (taken_among slots nodes)
      ∙ ap (λ t. has_item entity_cmp (taken_by slots a) e || t) (taken_any nodes e)

  pub by_one : (nodes : List Node) (e : Entity) (a : Node) → IsTrue (is_one_of nodes a) → Takes a e
      → IsTrue (has_item entity_cmp (taken_among slots nodes) e)
  by_one nodes e a there takes =
      let one = any_is ((node_impl.eq-value).it a) nodes there in
      taken_any nodes e
      ∙ one.2 (λ x. has_item entity_cmp (taken_by slots x) e) (subst (λ x. Takes x e) (node_same a one.0 one.1) takes)

  pub by_which : (nodes : List Node) (e : Entity) → IsTrue (has_item entity_cmp (taken_among slots nodes) e)
      → (a : Node) × IsTrue (is_one_of nodes a) × Takes a e
  by_which nodes e h =
      let one = any_is (λ a. has_item entity_cmp (taken_by slots a) e) nodes (sym (taken_any nodes e) ∙ h) in
      (one.0, one.2 ((node_impl.eq-value).it one.0) (node_itself one.0), one.1)

  -- who stands in one table alone dies as a root, or where that falls
  pub dies_there : (nodes : List Node) (e : Entity) (n : ℕ) → (row : ℕ) × (r : TableRow) × (row_at slots n row ≡ Some r) × (r.entity ≡ e)
      → ((m row : ℕ) (r : TableRow) → row_at slots m row ≡ Some r → r.entity ≡ e → m ≡ n)
      → (is_root nodes e || is_falling nodes n) ≡ has_item entity_cmp (taken_among slots nodes) e
  dies_there nodes e n row only = same_tests _ _
      (λ h. elim (or_parts (is_root nodes e) (is_falling nodes n) h) as (λ _. IsTrue (has_item entity_cmp (taken_among slots nodes) e)) [
        | inl own ↦ by_one nodes e (Root e) own (one_itself e)
        | inr falls ↦ by_one nodes e (Falling n) falls
            (subst (λ x. IsTrue (has_item entity_cmp (entities_of (table_in slots n).rows) x)) row.3
            (stands_among (table_in slots n).rows row.0 row.1 row.2))
      ]) (λ h. let one = by_which nodes e h in by one.0 one.1 one.2)
    where
      by : (a : Node) → IsTrue (is_one_of nodes a) → Takes a e → IsTrue (is_root nodes e || is_falling nodes n)
      by (Root x) there takes = or_left (is_root nodes e) (is_falling nodes n) (subst (λ y. IsTrue (is_root nodes y)) (one_is x e takes) there)
      by (Falling k) there takes =
          let other = row_of (table_in slots k).rows e takes in
          or_right (is_root nodes e) (is_falling nodes n) (subst (λ m. IsTrue (is_falling nodes m)) (only k other.0 other.1 other.2 other.3) there)
      by (Named k) there takes = absurd (true≢false (sym takes))

  -- and who stands nowhere as a root
  pub dies_nowhere : (nodes : List Node) (e : Entity) → ((m row : ℕ) (r : TableRow) → row_at slots m row ≡ Some r → r.entity ≢ e)
      → is_root nodes e ≡ has_item entity_cmp (taken_among slots nodes) e
  dies_nowhere nodes e nowhere =
      same_tests _ _ (λ own. by_one nodes e (Root e) own (one_itself e)) (λ h. let one = by_which nodes e h in by one.0 one.1 one.2)
    where
      by : (a : Node) → IsTrue (is_one_of nodes a) → Takes a e → IsTrue (is_root nodes e)
      by (Root x) there takes = subst (λ y. IsTrue (is_root nodes y)) (one_is x e takes) there
      by (Falling k) there takes = let other = row_of (table_in slots k).rows e takes in absurd (nowhere k other.0 other.1 other.2 other.3)
      by (Named k) there takes = absurd (true≢false (sym takes))

  -- by roots, these alone
  pub taken_roots : (es : List Entity) → taken_among slots (map Root es) ≡ es
  taken_roots [] = refl
  taken_roots (e ∷ es) = ap (λ xs. e ∷ xs) (taken_roots es)

-- ---- who passes a test

pub some_entity : (p : Entity → Bool) (es : List Entity) → IsTrue (list_any p es) → (e : Entity) × IsTrue (has_item entity_cmp es e) × IsTrue (p e)
some_entity p es h = let one = any_is p es h in (one.0, one.2 (λ y. entity_eq y one.0) (entity_eq_itself one.0), one.1)

pub any_entity : (p : Entity → Bool) (es : List Entity) (e : Entity) → IsTrue (has_item entity_cmp es e) → IsTrue (p e) → IsTrue (list_any p es)
any_entity p es e there passes =
    let one = any_is (λ y. entity_eq y e) es there in one.2 p (subst (λ y. IsTrue (p y)) (sym (entity_eq_is one.0 e one.1)) passes)

-- ---- who is found

module _ (v : Indexed Record) (slots : List (Option TableState)) (shown : IsShown v slots) (starts : List Node) (begin : AreStarts starts) where
  abbrev IsRoot : Entity → Type 0
  IsRoot x = IsTrue (has_item entity_cmp (taken_among slots starts) x)

  abbrev Found : Node → Type 0
  Found = Least (λ a. IsTrue (is_one_of starts a)) (λ a b. IsTrue (leads (world_of v) slots a b))

  abbrev Standing : ℕ → Entity → Type 0
  Standing n e = IsTrue (has_item entity_cmp (entities_of (table_in slots n).rows) e)

  -- what a node that is found means
  abbrev Meant : Node → Type 0
  Meant (Root e) = Doomed (world_of v) IsRoot e
  Meant (Falling n) = (e : Entity) → Standing n e → Doomed (world_of v) IsRoot e
  Meant (Named n) = Unit {0}

  begins : (a : Node) → IsTrue (is_one_of starts a) → Meant a
  begins (Root e) h = root (by_one slots starts e (Root e) h (one_itself e))
  begins (Falling n) h = λ e standing. root (by_one slots starts e (Falling n) h standing)
  begins (Named n) h = tt

  -- who stands in a table that falls holds a member under the policy Delete
  falls_with : (n : ℕ) (e m : Entity) → Doomed (world_of v) IsRoot m → IsTrue (falls (world_of v) slots m n) → Standing n e
      → Doomed (world_of v) IsRoot e
  falls_with n e m doomed falling standing =
      let row = row_of (table_in slots n).rows e standing in
      let id = some_id (names_on (world_of v) DELETE m) (table_in slots n).ids falling in
      next doomed (
        id.0,
        subst (λ x. IsTrue (has (world_of v) x id.0)) row.3 (has_at v slots shown n row.0 row.1 id.0 row.2 ∙ id.1),
        (names_on_exact (world_of v) DELETE m id.0).0 id.2,
      )

  goes_on : (a b : Node) → Meant a → IsTrue (leads (world_of v) slots a b) → Meant b
  goes_on (Root m) (Root x) meant h = absurd (true≢false (sym h))
  goes_on (Root m) (Falling n) meant h = λ e standing. falls_with n e m meant (second (is_naming slots m n) (falls (world_of v) slots m n) h) standing
  goes_on (Root m) (Named n) meant h = tt
  goes_on (Falling n) (Root x) meant h =
      let m = some_entity (λ e. touches (world_of v) slots e (Root x)) (entities_of (table_in slots n).rows) h in absurd (true≢false (sym m.2))
  goes_on (Falling n) (Falling k) meant h = λ e standing.
      let m = some_entity (λ x. touches (world_of v) slots x (Falling k)) (entities_of (table_in slots n).rows) h in
      falls_with k e m.0 (meant m.0 m.1) (second (is_naming slots m.0 k) (falls (world_of v) slots m.0 k) m.2) standing
  goes_on (Falling n) (Named k) meant h = tt
  goes_on (Named n) b meant h = absurd (true≢false (sym h))

  pub sound : {a : Node} → Found a → Meant a
  sound (root {a = a} h) = begins a h
  sound (next {a = a} {b = b} found edge) = goes_on a b (sound found) edge

  pub taken_doomed : (a : Node) → Meant a → (e : Entity) → Takes slots a e → Doomed (world_of v) IsRoot e
  taken_doomed (Root x) meant e takes = subst (Doomed (world_of v) IsRoot) (one_is x e takes) meant
  taken_doomed (Falling n) meant e takes = meant e takes
  taken_doomed (Named n) meant e takes = absurd (true≢false (sym takes))

  -- what one who dies by a node touches follows
  pub touched_next : (a : Node) (m : Entity) (b : Node) → Takes slots a m → IsTrue (touches (world_of v) slots m b)
      → IsTrue (leads (world_of v) slots a b)
  touched_next (Root x) m b takes h = subst (λ y. IsTrue (touches (world_of v) slots y b)) (sym (one_is x m takes)) h
  touched_next (Falling k) m b takes h = any_entity (λ e. touches (world_of v) slots e b) (entities_of (table_in slots k).rows) m takes h
  touched_next (Named k) m b takes h = takes

  -- it dies by some node that is found
  abbrev Dies : Entity → Type 0
  Dies e = (a : Node) × Found a × Takes slots a e

  holder_dies : (m h : Entity) → Dies m → HoldsOn (world_of v) DELETE m h → Dies h
  holder_dies m h dies holds =
      let row = stands_with v slots shown h holds.0 holds.1 in
      let n = row.0 in
      let ids = (table_in slots n).ids in
      let on = (names_on_exact (world_of v) DELETE m holds.0).1 holds.2 in
      let named = any_id (λ i. names_entity i m) ids holds.0 row.5 (names_on_names (world_of v) DELETE m holds.0 on) in
      let falling = any_id (names_on (world_of v) DELETE m) ids holds.0 row.5 on in
      let found = found_at (λ ids. type_names ids m) (slot_of slots n) row.1 row.2 row.3 named in (
        Falling n,
        next {b = Falling n} dies.1 (touched_next dies.0 m (Falling n) dies.2 (both (is_naming slots m n) (falls (world_of v) slots m n) found falling)),
        subst (λ x. Standing n x) row.4 (stands_among (table_in slots n).rows row.1 row.2 row.3),
      )

  pub complete : {e : Entity} → Doomed (world_of v) IsRoot e → Dies e
  complete (root {a = e} h) = let one = by_which slots starts e h in (one.0, root one.1, one.2)
  complete (next {a = m} {b = h} member holds) = holder_dies m h (complete member) holds

-- ---- what the search says of who dies

module _ (v : Indexed Record) (slots : List (Option TableState)) (shown : IsShown v slots) (starts keys : List Node) (begin : AreStarts starts)
    (exact : IsSearch (world_of v) slots starts keys) where
  -- who dies is the doomed
  pub doomed_exactly : (e : Entity) → IsTrue (has_item entity_cmp (taken_among slots keys) e)
      ↔ Doomed (world_of v) (λ x. IsTrue (has_item entity_cmp (taken_among slots starts) x)) e
  doomed_exactly e = (
    λ h.
        let one = by_which slots keys e h in
        taken_doomed v slots shown starts begin one.0 (sound v slots shown starts begin ((exact one.0).0 one.1)) e one.2,
    λ d. let one = complete v slots shown starts begin d in by_one slots keys e one.0 ((exact one.0).1 one.1) one.2,
  )

  -- what one who dies touches is found
  pub touched_there : (m : Entity) (b : Node) → IsTrue (has_item entity_cmp (taken_among slots keys) m) → IsTrue (touches (world_of v) slots m b)
      → IsTrue (is_one_of keys b)
  touched_there m b dies h =
      let one = by_which slots keys m dies in
      (exact b).1 (next {b = b} ((exact one.0).0 one.1) (touched_next v slots shown starts begin one.0 m b one.2 h))

  -- the table of who does not die stays
  pub spare : (h : Entity) (n : ℕ) → IsTrue (has_item entity_cmp (entities_of (table_in slots n).rows) h)
      → has_item entity_cmp (taken_among slots keys) h ≡ false → is_falling keys n ≡ false
  spare h n standing outside =
      false_from_ne_true (is_falling keys n) (λ is. true≢false (sym (by_one slots keys h (Falling n) is standing) ∙ outside))
