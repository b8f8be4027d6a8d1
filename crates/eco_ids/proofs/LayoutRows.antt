-- The worked listing of tables is a layout: a listing that passes a computed test is one, and this one passes.
use Rattle.eco_ids.proofs.Common.{◌≡◌, ◌≢◌, ℕ, suc, Bool, true, false, not, ◌&&◌, ◌||◌, List, [], ◌∷◌, map, get_or, IsTrue, Contains}
use Rattle.eco_ids.proofs.Common.{is_eq, sym, refl, ap, ◌∙◌, subst, inl, inr, true≢false, arith, list_any, list_all, codes, Some, Each, Is, entity_eq}
use Rattle.eco_ids.proofs.Common.{tied_itself}
use Rattle.eco_ids.proofs.Common.{ON_DELETE, PANIC, Entity, Id, One, Two, Living, id_cmp, entity_cmp, has_item, is_ascending, WorldState, is_alive, held_by}
use Rattle.eco_ids.proofs.Common.{zeros}
use Rattle.eco_ids.specs.declared.pattern.Pattern.TheVariants as pattern
use Rattle.eco_ids.specs.Layout.{ListedTable, IsLayout, is_distinct, tables_with}
use Rattle.std.specs.Cmp.Lexicographic.{slice_cmp}
use Rattle.eco_ids.proofs.Ascending.{all_at, first, second}
use Rattle.eco_ids.proofs.Facts.{equal_tie, or_parts}
use Rattle.eco_ids.proofs.Listable.{In}
use Rattle.eco_ids.proofs.LivingLists.{living_in, the_living}
use Rattle.eco_ids.proofs.OneLayout.{types_tie, types_total}
use Rattle.eco_ids.proofs.Overlaps.{entity_eq_is}
use Rattle.eco_ids.proofs.Worlds.{e, having, world}

-- component P 9, T 10, and 11, which has P
abbrev small : WorldState
small = world (Living 0 (record { name = Some (codes "P"); arity = Some 1; held = (Two ON_DELETE PANIC, zeros) ∷ [] }) ∷ having [] ∷ having
    (One (e 9) ∷ []) ∷ [])

abbrev table : List Id → List ℕ → ListedTable
table ids members = record { ids = ids; entities = map e members }

abbrev listing : List ListedTable
listing =
    table [] (1 ∷ 2 ∷ 3 ∷ 6 ∷ 7 ∷ 8 ∷ 10 ∷ [])
    ∷ table (One (e 1) ∷ []) (4 ∷ 5 ∷ [])
    ∷ table (One (e 1) ∷ One (e 2) ∷ Two (e 5) (e 7) ∷ []) (0 ∷ [])
    ∷ table (One (e 9) ∷ []) (11 ∷ [])
    ∷ table (Two (e 4) (e 8) ∷ []) (9 ∷ []) ∷ []

with_single : tables_with (pattern.One (e 1)) listing ≡
    table (One (e 1) ∷ []) (4 ∷ 5 ∷ []) ∷ table (One (e 1) ∷ One (e 2) ∷ Two (e 5) (e 7) ∷ []) (0 ∷ []) ∷ []
with_single = refl

with_target : tables_with (pattern.Two Each (Is (e 8))) listing ≡ table (Two (e 4) (e 8) ∷ []) (9 ∷ []) ∷ []
with_target = refl

-- ---- a computed test of a layout

abbrev is_type_of : WorldState → List Id → Entity → Bool
is_type_of w ids x = is_eq (slice_cmp id_cmp ids (map (λ p. p.0) (held_by w x)))

abbrev is_empty : List Entity → Bool
is_empty [] = true
is_empty (x ∷ xs) = false

-- some entities, each once, which live and have just the table's ids
abbrev is_table : WorldState → ListedTable → Bool
is_table w t = not (is_empty t.entities) && (is_distinct t.entities && list_all (λ x. is_alive w x && is_type_of w t.ids x) t.entities)

-- in each table of its type, and in some table
abbrev is_placed : WorldState → List ListedTable → Entity → Bool
is_placed w tables x =
    list_all (λ t. not (is_type_of w t.ids x) || has_item entity_cmp t.entities x) tables && list_any (λ t. has_item entity_cmp t.entities x) tables

abbrev is_layout : WorldState → List ListedTable → Bool
is_layout w tables =
    is_ascending (slice_cmp id_cmp) (map (λ t. t.ids) tables) && (list_all (is_table w) tables && list_all (is_placed w tables) (the_living w))

all_pass : {X : Type 0} (p : X → Bool) (xs : List X) (x : X) → IsTrue (list_all p xs) → Contains xs x → IsTrue (p x)
all_pass p xs x all h = subst (λ y. IsTrue (p y)) h.2 (all_at p xs all h.0 x h.1)

all_in : {X : Type 0} (p : X → Bool) (xs : List X) (x : X) → IsTrue (list_all p xs) → In x xs → IsTrue (p x)
all_in p [] x all h = absurd h
all_in p (y ∷ ys) x all (inl same) = subst (λ z. IsTrue (p z)) same (first (p y) _ all)
all_in p (y ∷ ys) x all (inr h) = all_in p ys x (second (p y) _ all) h

one_passes : {X : Type 0} (p : X → Bool) (xs : List X) → IsTrue (list_any p xs) → (x : X) × Contains xs x × IsTrue (p x)
one_passes p [] h = absurd (true≢false (sym h))
one_passes p (x ∷ xs) h = elim (or_parts (p x) (list_any p xs) h) as (λ _. (y : _) × Contains (x ∷ xs) y × IsTrue (p y)) [
  | inl k ↦ (x, (0, omega arith, refl), k)
  | inr k ↦ let rest = one_passes p xs k in (rest.0, (suc rest.1.0, omega (arith, rest.1.1), rest.1.2), rest.2)
]

has_contains : (xs : List Entity) (x : Entity) → IsTrue (has_item entity_cmp xs x) → Contains xs x
has_contains xs x h = let one = one_passes (λ y. entity_eq y x) xs h in subst (λ z. Contains xs z) (entity_eq_is one.0 x one.2) one.1

not_empty : (es : List Entity) → IsTrue (not (is_empty es)) → es ≢ []
not_empty es h same = true≢false (sym h ∙ ap (λ xs. not (is_empty xs)) same)

implied : (a b : Bool) → IsTrue (not a || b) → IsTrue a → IsTrue b
implied true b h k = h
implied false b h k = absurd (true≢false (sym k))

tested : (w : WorldState) (tables : List ListedTable) → IsTrue (is_layout w tables) → IsLayout w tables
tested w tables h =
    let rest = second (is_ascending (slice_cmp id_cmp) (map (λ t. t.ids) tables)) _ h in
    let each = first (list_all (is_table w) tables) _ rest in
    let placed : (x : Entity) → IsTrue (is_alive w x) → IsTrue (is_placed w tables x) =
    λ x alive. all_in (is_placed w tables) (the_living w) x (second (list_all (is_table w) tables) _ rest) (living_in w x alive) in
    record {
      non_empty = λ k d within. not_empty (get_or tables k d).entities (first _ _ (all_at (is_table w) tables each k d within));
      ascending = first _ _ h;
      once = λ k d within. first _ _ (second (not (is_empty (get_or tables k d).entities)) _ (all_at (is_table w) tables each k d within));
      exact = λ x t at. (
        λ member.
            let stands = all_pass (λ y. is_alive w y && is_type_of w t.ids y) t.entities x
            (second (is_distinct t.entities) _ (second (not (is_empty t.entities)) _ (all_pass (is_table w) tables t each at))) member in
            (first (is_alive w x) _ stands, types_tie t.ids _ (equal_tie _ (second (is_alive w x) _ stands))),
        λ lives.
            let rule = all_pass (λ u. not (is_type_of w u.ids x) || has_item entity_cmp u.entities x) tables t (first _ _ (placed x lives.0)) at in
            has_contains t.entities x (implied (is_type_of w t.ids x) _ rule
            (ap (λ ids. is_eq (slice_cmp id_cmp t.ids ids)) (sym lives.1) ∙ ap is_eq (tied_itself types_total t.ids))),
      );
      all = λ x alive.
          let one = one_passes (λ t. has_item entity_cmp t.entities x) tables
          (second (list_all (λ t. not (is_type_of w t.ids x) || has_item entity_cmp t.entities x) tables) _ (placed x alive)) in
          (one.0, one.1, has_contains one.0.entities x one.2);
    }

listed : IsLayout small listing
listed = tested small listing refl
