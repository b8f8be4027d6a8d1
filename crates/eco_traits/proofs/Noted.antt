-- Walks along pairs that note in a list those they lead to.
use Rattle.eco_search.proofs.Search.{IsSearch, noted_all_grows, search_ends, search_goes_on, search_starts}
use Rattle.eco_traits.proofs.Common.{◌≡◌, ℕ, ◌+◌, ◌<◌, ◌||◌, inl, inr, List, [], ◌∷◌, ◌++◌, length, take, get_or, refl, sym, ap, ◌∙◌, subst, true≢false}
use Rattle.eco_traits.proofs.Common.{IsTrue, Option, Some, None, false, is_some, option_to_list, take_more, slice_get, Entity, Id, Two, id_cmp, id_eq}
use Rattle.eco_traits.proofs.Common.{entity_cmp, entity_eq, has_item, WorldState, has, or_left, same_entity, entity_cmp_total, entity_eq_is}
use Rattle.eco_traits.proofs.Common.{entity_eq_itself, list_any, target_by_pair, Bool, IsReach, Reaches, arith}
use Rattle.eco_traits.proofs.Members.{only, has_append, has_get}
use Rattle.eco_traits.proofs.Walks.{from_other_roots, pair_test}
use Rattle.eco_traits.specs.Walk.{LeadsFar, targets_of, with_others}
use Rattle.indexmap.specs.IndexSet.{insert_key}
use Rattle.std.proofs.Common.{◌≤◌, true, cond, drop, length-append, slice_set}
use Rattle.std.proofs.lemmas.Cmp.{eq_by_cmp_equiv}
use Rattle.std.proofs.lemmas.List.{take-append-drop, take_more_set}
use Rattle.std.proofs.lemmas.List.Elements.{filter_map-append}
use Rattle.std.proofs.lemmas.List.Sums.{fold-append}
use Rattle.std.proofs.lemmas.Map.Keys.{IsDistinct-push}
use Rattle.std.proofs.lemmas.Option.{get_or_from_slice_get, slice_get_cases, slice_get_within}
use Rattle.std.specs.Cmp.{IsEquivalence}
use Rattle.std.specs.List.{All, IsDistinct, cons_option}

-- the targets are those of its pairs
pub target_is : (r : Entity) (ids : List Id) (b : Entity) → has_item entity_cmp (targets_of r ids) b ≡ has_item id_cmp ids (Two r b)
target_is r [] b = refl
target_is r (i ∷ ids) b =
    ap (λ xs. has_item entity_cmp xs b) (filter_map-append (target_by_pair r) (i ∷ []) ids)
    ∙ has_append entity_cmp (targets_of r (i ∷ [])) (targets_of r ids) b
    ∙ ap (λ t. t || has_item entity_cmp (targets_of r ids) b) (one_target r i b) ∙ ap (λ t. id_eq i (Two r b) || t) (target_is r ids b)
  where
    one_target : (r : Entity) (i : Id) (b : Entity) → has_item entity_cmp (targets_of r (i ∷ [])) b ≡ id_eq i (Two r b)
    one_target r i b =
        elim (target_by_pair r i) as (λ o. has_item entity_cmp (cons_option o []) b ≡ has_item entity_cmp (option_to_list o) b) [
          | None ↦ refl
          | Some x ↦ refl
        ]
        ∙ pair_test r b i

-- the test by which a walk knows those that it has noted
abbrev pub is_noted : Entity → Entity → Bool
is_noted a b = entity_eq b a

pub noted_laws : IsEquivalence is_noted
noted_laws = turned (eq_by_cmp_equiv entity_cmp_total)
  where
    turned : IsEquivalence entity_eq → IsEquivalence is_noted
    turned laws = record {
      refl = laws.refl;
      symm = λ x y. laws.symm y x;
      congr = λ x y z h. laws.symm z x ∙ laws.congr x y z (laws.symm x y ∙ h) ∙ laws.symm y z;
    }

pub noted_same : (a b : Entity) → is_noted a b ≡ true → a ≡ b
noted_same a b h = sym (entity_eq_is b a h)

-- one is noted once
once_alone : (members : List Entity) (from : Entity) → members ≡ from ∷ [] → IsDistinct entity_eq members
unfolding IsDistinct
once_alone members from is = subst (IsDistinct entity_eq) (sym is) (tt, tt)

-- and so is each of the others
noted_once : (ms es : List Entity) → IsDistinct entity_eq ms → IsDistinct entity_eq (with_others ms es)
noted_once ms [] once = once
noted_once ms (e ∷ es) once =
    noted_once (with_others ms (e ∷ [])) es
    (elim (list_any (is_noted e) ms) as (λ b. list_any (is_noted e) ms ≡ b → IsDistinct entity_eq (cond b ms (ms ++ e ∷ []))) [
      | true ↦ λ _. once
      | false ↦ λ none. IsDistinct-push laws ms e once ((λ j. list_any (λ b. laws.symm e b j) ms) ∙ none)
    ] refl)
  where
    laws : IsEquivalence entity_eq
    laws = eq_by_cmp_equiv entity_cmp_total

-- a walk of pairs of r from one entity, where those before a place were asked; it notes each once
abbrev pub IsWalk : WorldState → Entity → Entity → List Entity → ℕ → Type 0
IsWalk w r from members asked =
    IsSearch is_noted noted_laws noted_same (λ a b. IsTrue (has w a (Two r b))) (from ∷ []) members asked × IsDistinct entity_eq members

pub walk_starts : (w : WorldState) (r from : Entity) (members : List Entity) → members ≡ from ∷ [] → IsWalk w r from members 0
walk_starts w r from members is =
    (search_starts is_noted noted_laws noted_same _ (from ∷ []) [] members refl is, once_alone members from is)

-- the targets of its pairs are noted, or it has none
pub walk_goes_on : (w : WorldState) (r from : Entity) (members new : List Entity) (asked : ℕ) (e : Entity) (ids : List Id) → IsWalk w r from members asked
    → slice_get members asked ≡ Some e → ((b : Entity) → has w e (Two r b) ≡ has_item id_cmp ids (Two r b))
    → new ≡ with_others members (targets_of r ids) → IsWalk w r from new (asked + 1)
walk_goes_on w r from members new asked e ids walk at own noted =
    let here = get_or_from_slice_get members asked e e at in
    let on = search_goes_on is_noted noted_laws noted_same _ (from ∷ []) members (targets_of r ids) asked e walk.0 (slice_get_within members asked e at)
    (λ b. let is = ap (λ x. has w x (Two r b)) here ∙ own b in (λ h. is ∙ sym (target_is r ids b) ∙ h, λ h. target_is r ids b ∙ sym is ∙ h)) in
    subst (λ ms. IsWalk w r from ms (asked + 1)) (sym noted) (on, noted_once members (targets_of r ids) walk.1)

-- those that it noted are reached
walk_reaches : (w : WorldState) (r from : Entity) (members : List Entity) (asked : ℕ) → IsWalk w r from members asked → All (Reaches w r from) members
walk_reaches w r from members asked walk k d l =
    from_other_roots (λ a h. sym (only same_entity from a h)) (walk.0.sound (get_or members k d) (has_get entity_cmp_total members k d l))

pub walk_ends : (w : WorldState) (r from : Entity) (members : List Entity) (asked : ℕ) → IsWalk w r from members asked → length members ≤ asked
    → IsReach w r from members
walk_ends w r from members asked walk l b =
    let all = search_ends is_noted noted_laws noted_same _ (from ∷ []) members asked walk.0 l b in
    (λ h. from_other_roots (λ a k. sym (only same_entity from a k)) (all.0 h), λ h. all.1 (from_other_roots (λ a e. alone a e) h))
  where
    alone : (a : Entity) → a ≡ from → IsTrue (has_item entity_cmp (from ∷ []) a)
    alone a e = or_left _ _ (subst (λ x. IsTrue (entity_eq from x)) (sym e) (entity_eq_itself from))

-- with the targets of one more it leads far, where they are too many
pub walk_leads_far : (w : WorldState) (r from : Entity) (members : List Entity) (asked : ℕ) (e : Entity) (ids : List Id) → IsWalk w r from members asked
    → slice_get members asked ≡ Some e → ((b : Entity) → has w e (Two r b) ≡ has_item id_cmp ids (Two r b))
    → 8 < length (with_others members (targets_of r ids)) → LeadsFar w r from
walk_leads_far w r from members asked e ids walk at own many =
    let met = with_others members (targets_of r ids) in
    let on = walk_goes_on w r from members met asked e ids walk at own refl in
    (met, walk_reaches w r from met (asked + 1) on, on.1, many)

-- one that is not noted goes last, where there is room
pub noted_last : (entities members : List Entity) (count : ℕ) (e : Entity) → members ≡ take count entities → count < length entities
    → list_any (is_noted e) members ≡ false → take (count + 1) (slice_set entities count e) ≡ with_others members (e ∷ [])
noted_last entities members count e is l none =
    take_more_set entities count e l ∙ ap (λ xs. xs ++ e ∷ []) (sym is)
    ∙ ap (λ b. cond b members (members ++ e ∷ [])) (sym none)

-- the targets of one more of the ids are noted
pub notes_more : (start now new : List Entity) (ids : List Id) (k : ℕ) (d : Id) (o : Option Entity) (r : Entity) → k < length ids
    → o ≡ target_by_pair r (get_or ids k d) → now ≡ with_others start (targets_of r (take k ids)) → new ≡ with_others now (option_to_list o)
    → new ≡ with_others start (targets_of r (take (k + 1) ids))
notes_more start now new ids k d o r l is before noted =
    noted ∙ ap (λ ms. with_others ms (option_to_list o)) before
    ∙ sym (fold-append (insert_key is_noted) start (targets_of r (take k ids)) (option_to_list o))
    ∙ ap (with_others start) (ap (λ p. before_it ++ option_to_list p) is ∙ ap (λ xs. before_it ++ xs) (listed (target_by_pair r (get_or ids k d)))
    ∙ sym (ap (targets_of r) (take_more ids k d l) ∙ filter_map-append (target_by_pair r) (take k ids) (get_or ids k d ∷ [])))
  where
    before_it : List Entity
    before_it = targets_of r (take k ids)

    listed : (p : Option Entity) → option_to_list p ≡ cons_option p []
    listed None = refl
    listed (Some x) = refl

-- nothing stands behind the last
pub past_last : {X : Type 0} (xs : List X) (k : ℕ) → slice_get xs k ≡ None → length xs ≤ k
past_last xs k none =
    elim (slice_get_cases xs k).1 as (λ _. length xs ≤ k) [
      | inl there ↦ absurd (true≢false (ap is_some (sym there.2 ∙ none)))
      | inr past ↦ past.0
    ]

-- ---- how many are noted

-- none that was noted goes
notes_grow : (ms es : List Entity) → length ms ≤ length (with_others ms es)
notes_grow ms es =
    let grown = noted_all_grows is_noted noted_laws noted_same ms es in
    let longer : length (with_others ms es) ≡ length ms + length grown.0 = ap length grown.1 ∙ length-append ms grown.0 in
    omega (arith, longer)

-- where one more target is too many, so are those of all the ids
pub too_many : (start now : List Entity) (ids : List Id) (k : ℕ) (d : Id) (target r : Entity) → k < length ids
    → Some target ≡ target_by_pair r (get_or ids k d) → now ≡ with_others start (targets_of r (take k ids))
    → 8 < length (with_others now (target ∷ [])) → 8 < length (with_others start (targets_of r ids))
too_many start now ids k d target r l is before many =
    let some = targets_of r (take (k + 1) ids) in
    let others = targets_of r (drop (k + 1) ids) in
    let so_far = ap length (notes_more start now (with_others now (target ∷ [])) ids k d (Some target) r l is before refl) in
    let all = ap length
    (ap (λ xs. with_others start (targets_of r xs)) (sym (take-append-drop (k + 1) ids))
    ∙ ap (with_others start) (filter_map-append (target_by_pair r) (take (k + 1) ids) (drop (k + 1) ids))
    ∙ fold-append (insert_key is_noted) start some others) in
    let grow = notes_grow (with_others start some) others in
    omega (arith, many, so_far, all, grow)
