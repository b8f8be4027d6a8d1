-- What is found among the nodes is what a delete does.
use Rattle.eco_traits.proofs.CleanupCommon.{◌≡◌, ℕ, nat_lt, Bool, true, false, cond, not, length, ◌↔◌, ◌||◌, inl, inr, List, [], ◌∷◌}
use Rattle.eco_traits.proofs.CleanupCommon.{same_tests, ◌++◌, map, flat_map, slice_get, Option, Some, None, unwrap_or, refl, sym, ap, ◌∙◌, subst}
use Rattle.eco_traits.proofs.CleanupCommon.{true≢false, IsTrue, IsFalse, arith, All, Contains, list_any, map-append, none-some, Entity, Id, One, Two, Doomed}
use Rattle.eco_traits.proofs.CleanupCommon.{IsDoomed, after_delete, names_any, Indexed, record_of, without, Least, root, next, entity_cmp, entity_eq, has_item}
use Rattle.eco_traits.proofs.CleanupCommon.{names_entity, Record, first, second, or_left, or_parts, or_right, entity_eq_is, entity_eq_itself, RowsHaveIds}
use Rattle.eco_traits.proofs.CleanupCommon.{TableState, entities_of, TableRow, no_row, no_table, slot_of, table_in, is_found_by, IsShown, Stands, record_ids}
use Rattle.eco_traits.proofs.CleanupCommon.{TypeChange, AreStarts, IsSearch, falls, is_falling, is_naming, is_one_of, leads, node_same, taken_among, touches, Ascend}
use Rattle.eco_traits.proofs.CleanupCommon.{IsDeletePlan, TakesOut, TakesOutOfAll, change_in, changes_at, changes_of, spared, world_of, Node, Root, Falling, Named}
use Rattle.std.proofs.lemmas.List.Elements.{All-nil, All-cons, All-append, Contains-append_left, Contains-append_right}
use Rattle.eco_index.specs.TypeTests.{type_names as any_names}
use Rattle.eco_traits.proofs.Deaths.{by_one, doomed_exactly, one_itself, some_entity, spare}
use Rattle.eco_traits.proofs.Forbidden.{named_there}
use Rattle.eco_traits.proofs.CleanupNoted.{node_itself}
use Rattle.eco_traits.proofs.Standing.{any_id, found_at, some_id, stands_among}
use Rattle.eco_traits.specs.contracts.node.NodePartialEq.TheImpl as node_impl

-- ---- ids that name who dies

-- ids name the same whatever lists them
pub named_alike : (dead others : List Entity) → ((e : Entity) → has_item entity_cmp dead e ≡ has_item entity_cmp others e)
    → (i : Id) → names_any dead i ≡ names_any others i
named_alike dead others same (One e) = same e
named_alike dead others same (Two r t) = λ k. same r k || same t k

-- an id names one of them where one of them is named by it
pub some_named : (es : List Entity) (m : Entity) (i : Id) → IsTrue (has_item entity_cmp es m) → IsTrue (names_entity i m) → IsTrue (names_any es i)
some_named es m (One e) among names = ap (has_item entity_cmp es) (entity_eq_is e m names) ∙ among
some_named es m (Two r t) among names =
    elim (or_parts (entity_eq r m) (entity_eq t m) names) as (λ _. IsTrue (has_item entity_cmp es r || has_item entity_cmp es t)) [
      | inl head ↦ or_left (has_item entity_cmp es r) (has_item entity_cmp es t) (ap (has_item entity_cmp es) (entity_eq_is r m head) ∙ among)
      | inr tail ↦ or_right (has_item entity_cmp es r) (has_item entity_cmp es t) (ap (has_item entity_cmp es) (entity_eq_is t m tail) ∙ among)
    ]

pub named_some : (es : List Entity) (i : Id) → IsTrue (names_any es i) → (m : Entity) × IsTrue (has_item entity_cmp es m) × IsTrue (names_entity i m)
named_some es (One e) names = (e, names, entity_eq_itself e)
named_some es (Two r t) names =
    elim (or_parts (has_item entity_cmp es r) (has_item entity_cmp es t) names) as
    (λ _. (m : Entity) × IsTrue (has_item entity_cmp es m) × IsTrue (entity_eq r m || entity_eq t m)) [
      | inl head ↦ (r, head, or_left (entity_eq r r) (entity_eq t r) (entity_eq_itself r))
      | inr tail ↦ (t, tail, or_right (entity_eq r t) (entity_eq t t) (entity_eq_itself t))
    ]

-- ---- the type of a record

pub ids_standing : (o : Option Record) (t : TableState) (row : ℕ) (r : Record) → o ≡ Some r → Stands o t row → RowsHaveIds t
    → record_ids r ≡ t.ids
ids_standing o t row r at stands own =
    let there = subst (λ x. Stands x t row) at stands in
    ap (map (λ p. p.0)) (there.held no_row) ∙ own row no_row there.within

among_change : (dead : List Entity) (o : Option TableState) (k : ℕ) (r : TableRow) (b : Bool) (ids : List Id)
    → slice_get (unwrap_or o no_table).rows k ≡ Some r
    → b ≡ false → ids ≡ (unwrap_or o no_table).ids → Contains (map (λ (c : TypeChange). c.from) (cond b [] (change_in dead o))) ids
among_change dead None k r b ids at is same = absurd (none-some r at)
among_change dead (Some t) k r true ids at is same = absurd (true≢false is)
among_change dead (Some t) k r false ids at is same = (0, omega arith, sym same)

module _ (v : Indexed Record) (slots : List (Option TableState)) (shown : IsShown v slots) (starts keys : List Node) (begin : AreStarts starts)
    (exact : IsSearch (world_of v) slots starts keys) where
  abbrev Found : Node → Type 0
  Found = Least (λ r. IsTrue (is_one_of starts r)) (λ x b. IsTrue (leads (world_of v) slots x b))

  -- who dies
  abbrev dying : List Entity
  dying = taken_among slots keys

  -- a member led to a table that is named
  abbrev IsLed : Node → Type 0
  IsLed (Root e) = Unit {0}
  IsLed (Falling n) = Unit {0}
  IsLed (Named n) = (m : Entity) × IsTrue (has_item entity_cmp dying m) × IsTrue (is_naming slots m n)

  begins : (a : Node) → IsTrue (is_one_of starts a) → IsLed a
  begins (Root e) h = tt
  begins (Falling n) h = tt
  begins (Named n) h = absurd (true≢false (sym (begin (Named n) h)))

  goes_on : (a b : Node) → Found a → IsTrue (leads (world_of v) slots a b) → IsLed b
  goes_on a (Root e) found h = tt
  goes_on a (Falling n) found h = tt
  goes_on (Root m) (Named n) found h =
      (m, by_one slots keys m (Root m) ((exact (Root m)).1 found) (one_itself m), first (is_naming slots m n) (not (falls (world_of v) slots m n)) h)
  goes_on (Falling k) (Named n) found h =
      let m = some_entity (λ e. touches (world_of v) slots e (Named n)) (entities_of (table_in slots k).rows) h in (
        m.0,
        by_one slots keys m.0 (Falling k) ((exact (Falling k)).1 found) m.1,
        first (is_naming slots m.0 n) (not (falls (world_of v) slots m.0 n)) m.2,
      )
  goes_on (Named k) (Named n) found h = absurd (true≢false (sym h))

  led : {a : Node} → Found a → IsLed a
  led (root {a = a} h) = begins a h
  led (next {a = a} {b = b} found edge) = goes_on a b found edge

  -- ---- each change takes out

  abbrev Takes : TypeChange → Type 0
  Takes = TakesOut (names_any dying)

  taken_in : (o : Option TableState) (m : Entity) → IsTrue (has_item entity_cmp dying m) → IsTrue (is_found_by (λ ids. any_names ids m) o)
      → All Takes (change_in dying o)
  taken_in None m dies found = absurd (true≢false (sym found))
  taken_in (Some t) m dies found =
      let named = some_id (λ i. names_entity i m) t.ids (second (nat_lt 0 (length t.rows)) (any_names t.ids m) found) in
      All-cons Takes (record { from = t.ids; to = spared dying t.ids }) []
      (record { there = any_id (names_any dying) t.ids named.0 named.1 (some_named dying m named.0 dies named.2); taken = refl }) (All-nil Takes)

  taken_of : (a : Node) → IsTrue (is_one_of keys a) → All Takes (changes_at slots keys a)
  taken_of (Root e) there = All-nil Takes
  taken_of (Falling n) there = All-nil Takes
  taken_of (Named n) there =
      let by_whom = led ((exact (Named n)).0 there) in
      unless (is_falling keys n) (taken_in (slot_of slots n) by_whom.0 by_whom.1 by_whom.2)
    where
      unless : (b : Bool) → All Takes (change_in dying (slot_of slots n)) → All Takes (cond b [] (change_in dying (slot_of slots n)))
      unless true all = All-nil Takes
      unless false all = all

  all_taken : (nodes : List Node) → ((a : Node) → IsTrue (is_one_of nodes a) → IsTrue (is_one_of keys a))
      → All Takes (flat_map (changes_at slots keys) nodes)
  all_taken [] within = All-nil Takes
  all_taken (a ∷ nodes) within =
      All-append Takes (changes_at slots keys a) (flat_map (changes_at slots keys) nodes) (taken_of a (within a (or_left _ _ (node_itself a))))
      (all_taken nodes (λ b there. within b (or_right _ _ there)))

  -- ---- every type that has to change does

  among_all : (nodes : List Node) (n : ℕ) (ids : List Id) → IsTrue (is_one_of nodes (Named n))
      → Contains (map (λ (c : TypeChange). c.from) (changes_at slots keys (Named n))) ids
      → Contains (map (λ (c : TypeChange). c.from) (flat_map (changes_at slots keys) nodes)) ids
  among_all [] n ids there among = absurd (true≢false (sym there))
  among_all (a ∷ nodes) n ids there among =
      subst (λ xs. Contains xs ids) (sym (map-append (λ (c : TypeChange). c.from) (changes_at slots keys a) (flat_map (changes_at slots keys) nodes)))
      (elim (or_parts ((node_impl.eq-value).it (Named n) a) (is_one_of nodes (Named n)) there) as
      (λ _. Contains (froms (changes_at slots keys a) ++ froms (flat_map (changes_at slots keys) nodes)) ids) [
        | inl same ↦ Contains-append_left (froms (changes_at slots keys a)) (froms (flat_map (changes_at slots keys) nodes)) ids
            (subst (λ x. Contains (froms (changes_at slots keys x)) ids) (node_same (Named n) a same) among)
        | inr later ↦ Contains-append_right (froms (changes_at slots keys a)) (froms (flat_map (changes_at slots keys) nodes)) ids
            (among_all nodes n ids later among)
      ])
    where
      froms : List TypeChange → List (List Id)
      froms = map (λ (c : TypeChange). c.from)

  every_type : (e : Entity) (r : Record) → record_of v e ≡ Some r → IsFalse (has_item entity_cmp dying e)
      → IsTrue (list_any (names_any dying) (record_ids r))
      → Contains (map (λ (c : TypeChange). c.from) (changes_of slots keys)) (record_ids r)
  every_type e r at outside some =
      let row = shown.living e r at in
      let n = row.0 in
      let t = table_in slots n in
      let same : record_ids r ≡ t.ids =
      ids_standing (record_of v (row.2).entity) t row.1 r (ap (record_of v) row.4 ∙ at) (shown.rows n row.1 row.2 row.3) (shown.own n) in
      let id = some_id (names_any dying) t.ids (sym (ap (list_any (names_any dying)) same) ∙ some) in
      let m = named_some dying id.0 id.2 in
      let named = found_at (λ ids. any_names ids m.0) (slot_of slots n) row.1 row.2 row.3 (any_id (λ i. names_entity i m.0) t.ids id.0 id.1 m.2) in
      let standing = subst (λ x. IsTrue (has_item entity_cmp (entities_of t.rows) x)) row.4 (stands_among t.rows row.1 row.2 row.3) in
      let stays = spare v slots shown starts keys begin exact e n standing outside in
      let there = named_there v slots shown starts keys begin exact dying (λ x. refl) m.0 n m.1 named stays (falls (world_of v) slots m.0 n) refl in
      among_all keys n (record_ids r) there (among_change dying (slot_of slots n) row.1 row.2 (is_falling keys n) (record_ids r) row.3 stays same)

  pub planned : (dead : List Entity) (changes : List TypeChange) → dead ≡ dying → changes ≡ changes_of slots keys → Ascend changes
      → IsDeletePlan v (λ x. IsTrue (has_item entity_cmp (taken_among slots starts) x)) dead changes
  planned dead changes who what ascend =
      subst (IsDeletePlan v (λ x. IsTrue (has_item entity_cmp (taken_among slots starts) x)) dead) (sym what) (record { doomed = doomed; taken = taken })
    where
      listed : (e : Entity) → has_item entity_cmp dying e ≡ has_item entity_cmp dead e
      listed e = sym (ap (λ es. has_item entity_cmp es e) who)

      doomed : (e : Entity) → IsTrue (has_item entity_cmp dead e) ↔ Doomed (world_of v) (λ x. IsTrue (has_item entity_cmp (taken_among slots starts) x)) e
      doomed e =
          let found = doomed_exactly v slots shown starts keys begin exact e in
          (λ h. found.0 (listed e ∙ h), λ d. sym (listed e) ∙ found.1 d)

      taken : TakesOutOfAll v (has_item entity_cmp dead) (names_any dead) (changes_of slots keys)
      taken =
          subst (λ dies. TakesOutOfAll v dies (names_any dead) (changes_of slots keys)) (λ t e. listed e t)
          (subst (λ goes. TakesOutOfAll v (has_item entity_cmp dying) goes (changes_of slots keys)) (λ t i. named_alike dying dead listed i t)
          (record { each = all_taken keys (λ a there. there); ascend = subst Ascend what ascend; all = every_type }))

-- ---- whatever lists the members

pub as_listed : (v : Indexed Record) (IsRoot : Entity → Type 0) (dead : List Entity) (changes : List TypeChange) → IsDeletePlan v IsRoot dead changes
    → (members : List Entity) → IsDoomed (world_of v) IsRoot members
    → without (world_of v) (has_item entity_cmp dead) (λ e. names_any dead) ≡ after_delete (world_of v) members
as_listed v IsRoot dead changes plan members list = λ t. without (world_of v) (λ e. same e t) (λ e i. named_alike dead members same i t)
  where
    same : (e : Entity) → has_item entity_cmp dead e ≡ has_item entity_cmp members e
    same e =
        same_tests (has_item entity_cmp dead e) (has_item entity_cmp members e)
        (λ h. (list.exact e).1 ((plan.doomed e).0 h)) (λ h. (plan.doomed e).1 ((list.exact e).0 h))
