-- The types of the tables that a test finds.
use Rattle.eco_store.proofs.Common.{◌≡◌, ◌≢◌, ℕ, ◌<◌, Bool, true, true≢false, IsSome, ◌↔◌, nat_eq, List, map, length, get_or, Option}
use Rattle.eco_store.proofs.Common.{None, Some, option_map, refl, sym, ap, ◌∙◌, arith, All, AllPairs, Contains, IsDistinct, list_any, Decides-eqb}
use Rattle.eco_store.proofs.Common.{get_or-map, length-map, Contains-from_any, same_Some, Record, Id, Indexed, record_of, TableState, slot_of, table_in}
use Rattle.eco_store.proofs.Common.{is_found_by, type_at, IsTypeBy, IsShown, type_there}
use Rattle.std.proofs.lemmas.Map.Made.{AllPairs-from_IsDistinct}
use Rattle.eco_index.proofs.Listings.{listed_at}
use Rattle.eco_archetypes.proofs.Holders.{found_matches, found_rows, has_found, row_kept, some_kept, first_row}

found_there : (test : List Id → Bool) (o : Option TableState) → is_found_by test o ≡ true → IsSome o
found_there test None h = absurd (true≢false (sym h))
found_there test (Some t) h = refl

module _ (w : Indexed Record) (s : List (Option TableState)) (test : List Id → Bool) (ns : List ℕ) (shown : IsShown w s)
    (listed : (n : ℕ) → list_any (nat_eq n) ns ≡ is_found_by test (slot_of s n)) where
  abbrev ids_in : ℕ → List Id
  ids_in n = (table_in s n).ids

  is_found_at : (k d : ℕ) → k < length ns → is_found_by test (slot_of s (get_or ns k d)) ≡ true
  is_found_at k d within = sym (listed (get_or ns k d)) ∙ listed_at ns k d within

  -- each has a table
  pub tables_there : All (λ n. IsSome (slot_of s n)) ns
  tables_there k d within = found_there test (slot_of s (get_or ns k d)) (is_found_at k d within)

  matching : (ids : List Id) → Contains (map ids_in ns) ids → IsTypeBy w test ids
  matching ids c =
      let within : c.0 < length ns = rw (length-map ns ids_in) at c.1 in
      let n = get_or ns c.0 0 in
      let is : ids_in n ≡ ids = sym (get_or-map ids_in ns c.0 0 ids within) ∙ c.2 in
      let found = is_found_at c.0 0 within in
      let first = first_row (table_in s n).rows (found_rows test (slot_of s n) found) in
      let own = row_kept w s test shown n 0 first.0 first.1 in (
        sym (ap test is) ∙ found_matches test (slot_of s n) found,
        first.0.entity,
        ap (option_map (λ (k : Record). map (λ h. h.0) k.held)) own.1 ∙ ap Some (own.2 ∙ is),
      )

  listing : (ids : List Id) → IsTypeBy w test ids → Contains (map ids_in ns) ids
  listing ids it =
      let own = some_kept (record_of w it.1) ids (sym it.2) in
      let there = has_found w s test shown it.1 (own.0, own.1, ap test own.2 ∙ it.0) in
      let n = there.0 in
      let kept = row_kept w s test shown n there.1 there.2 there.3 in
      let same : kept.0 ≡ own.0 = same_Some _ _ (sym kept.1 ∙ ap (record_of w) there.4 ∙ own.1) in
      let is : ids_in n ≡ ids = sym kept.2 ∙ ap (λ (k : Record). map (λ h. h.0) k.held) same ∙ own.2 in
      let at = Contains-from_any (λ x y. (Decides-eqb x y).0) n ns (listed n ∙ there.5) in
      (at.0, rw (length-map ns ids_in) at.1, get_or-map ids_in ns at.0 n ids at.1 ∙ ap ids_in at.2 ∙ is)

  -- they are the types that some living entity has, with a match
  pub types_listed : (ids : List Id) → Contains (map ids_in ns) ids ↔ IsTypeBy w test ids
  types_listed ids = (matching ids, listing ids)

  -- each comes once
  pub types_apart : ((m n : ℕ) (ids : List Id) → type_at s m ≡ Some ids → type_at s n ≡ Some ids → m ≡ n) → IsDistinct nat_eq ns →
      AllPairs (λ x y. x ≢ y) (map ids_in ns)
  types_apart kinds distinct i j d below within same =
      let in_j : j < length ns = rw (length-map ns ids_in) at within in
      let in_i : i < length ns = omega arith in
      let one = get_or ns i 0 in
      let other = get_or ns j 0 in
      let alike : ids_in one ≡ ids_in other = sym (get_or-map ids_in ns i 0 d in_i) ∙ same ∙ get_or-map ids_in ns j 0 d in_j in
      AllPairs-from_IsDistinct (λ a b. Decides-eqb a b) ns distinct i j 0 below in_j
      (kinds one other (ids_in one) (type_there s one (tables_there i 0 in_i)) (type_there s other (tables_there j 0 in_j) ∙ ap Some (sym alike)))
