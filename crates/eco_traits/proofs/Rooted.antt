-- Whole tables as the roots of a delete.
use Rattle.eco_traits.proofs.CleanupCommon.{◌≡◌, ℕ, Bool, nat_lt, length, List, map, Option, Some, None, unwrap_or, refl, sym, ap, ◌∙◌, subst}
use Rattle.eco_traits.proofs.CleanupCommon.{same_tests, true≢false, IsTrue, list_any, Entity, Id, Pattern, Indexed, record_of, entity_cmp, has_item, Record}
use Rattle.eco_traits.proofs.CleanupCommon.{second, RowsHaveIds, TableState, entities_of, no_table, slot_of, table_in, IsAllFound, is_found_by, entities_with}
use Rattle.eco_traits.proofs.CleanupCommon.{IsShown, Stands, record_ids, is_one_of, taken_among, Node, Root, Falling, Named}
use Rattle.eco_ids.specs.Matching.{pattern_matches}
use Rattle.eco_ids.proofs.Passing.{own_from_passed, passed_from_own}
use Rattle.eco_traits.proofs.Deaths.{Takes, by_one, by_which}
use Rattle.eco_traits.proofs.CleanupNoted.{no_others, tables_are}
use Rattle.eco_traits.proofs.Planned.{ids_standing}
use Rattle.eco_traits.proofs.Standing.{found_at, row_of, stands_among}

passes_there : (test : List Id → Bool) (o : Option TableState) → IsTrue (is_found_by test o) → IsTrue (test (unwrap_or o no_table).ids)
passes_there test None h = absurd (true≢false (sym h))
passes_there test (Some t) h = second (nat_lt 0 (length t.rows)) (test t.ids) h

-- who stands somewhere lives, under the type of the table
lives_with : (o : Option Record) (t : TableState) (row : ℕ) → Stands o t row → RowsHaveIds t
    → (r : Record) × (o ≡ Some r) × (record_ids r ≡ t.ids)
lives_with None t row stands own = absurd stands
lives_with (Some r) t row stands own = (r, refl, ids_standing (Some r) t row r refl stands own)

module _ (v : Indexed Record) (slots : List (Option TableState)) (shown : IsShown v slots) (p : Pattern) (found : List ℕ)
    (all : IsAllFound (list_any (pattern_matches p)) slots found) where
  abbrev fits : List Id → Bool
  fits = list_any (pattern_matches p)

  taken_has : (e : Entity) (a : Node) → IsTrue (is_one_of (map Falling found) a) → Takes slots a e → IsTrue (has_item entity_cmp (entities_with v p) e)
  taken_has e (Root x) there takes = absurd (true≢false (sym there ∙ no_others Falling found (Root x) (λ n. refl)))
  taken_has e (Falling n) there takes =
      let row = row_of (table_in slots n).rows e takes in
      let stands = shown.rows n row.0 row.1 row.2 in
      let own = lives_with (record_of v (row.1).entity) (table_in slots n) row.0 stands (shown.own n) in
      let fit = passes_there fits (slot_of slots n) (sym (all.listed n) ∙ sym (tables_are found n) ∙ there) in
      passed_from_own (λ r. fits (record_ids r)) v e (own.0, ap (record_of v) (sym row.3) ∙ own.1, ap fits own.2 ∙ fit)
  taken_has e (Named n) there takes = absurd (true≢false (sym takes))

  has_taken : (e : Entity) → IsTrue (has_item entity_cmp (entities_with v p) e) → IsTrue (has_item entity_cmp (taken_among slots (map Falling found)) e)
  has_taken e h =
      let own = own_from_passed (λ r. fits (record_ids r)) v e h in
      let row = shown.living e own.0 own.1 in
      let n = row.0 in
      let t = table_in slots n in
      let same = ids_standing (record_of v (row.2).entity) t row.1 own.0 (ap (record_of v) row.4 ∙ own.1) (shown.rows n row.1 row.2 row.3) (shown.own n) in
      let there = found_at fits (slot_of slots n) row.1 row.2 row.3 (sym (ap fits same) ∙ own.2) in
      by_one slots (map Falling found) e (Falling n) (tables_are found n ∙ all.listed n ∙ there)
      (subst (λ x. IsTrue (has_item entity_cmp (entities_of t.rows) x)) row.4 (stands_among t.rows row.1 row.2 row.3))

  -- who dies by the tables that the pattern finds is who has an id that it matches
  pub tables_taken : (e : Entity) → has_item entity_cmp (taken_among slots (map Falling found)) e ≡ has_item entity_cmp (entities_with v p) e
  tables_taken e =
      same_tests (has_item entity_cmp (taken_among slots (map Falling found)) e) (has_item entity_cmp (entities_with v p) e)
      (λ h. let one = by_which slots (map Falling found) e h in taken_has e one.0 one.1 one.2) (has_taken e)
