-- What an entity has, by its ids; the targets of its pairs; and walks along them.
use Rattle.eco_traits.proofs.Common.{common_steps, arith, ◌≡◌, ℕ, ◌+◌, ◌<◌, Bool, false, ◌||◌, ◌↔◌, ◌⊎◌, inl, inr, List, []}
use Rattle.eco_traits.proofs.Common.{◌∷◌, ◌++◌, length, take, get_or, refl, sym, ap, ◌∙◌, subst, true≢false, IsTrue, Option, Some, None}
use Rattle.eco_traits.proofs.Common.{is_some, is_eq, option_map, option_to_list, unwrap_or, take_more, Entity, Id, One, Two, Least, root, next, id_cmp, id_eq}
use Rattle.eco_traits.proofs.Common.{entity_cmp, entity_eq, has_item, Reaches, WorldState, Record, has, record_of, has_in, or_left, or-false, or_assoc}
use Rattle.eco_traits.proofs.Common.{same_entity, keys, keys_find, or_parts, or_right, entity_eq_itself, list_any, type_of_record, target_by_pair}
use Rattle.eco_traits.proofs.Members.{only, has_append, list_any-derived}
use Rattle.eco_ids.specs.contracts.entity.EntityPartialEq.TheImpl as entity_impl

-- ---- what an entity has

pub some_is : {A : Type 0} (x y : A) → Some x ≡ Some y → x ≡ y
some_is x y e = ap (λ o. unwrap_or o x) e

has_of_some : (o : Option Record) (i : Id) (ids : List Id) → Some ids ≡ option_map type_of_record o → has_in o i ≡ has_item id_cmp ids i
has_of_some None i ids e = absurd (true≢false (ap is_some e))
has_of_some (Some d) i ids e = keys_find d.held i ∙ ap (λ xs. has_item id_cmp xs i) (sym (some_is ids (keys d.held) e))

has_of_none : (o : Option Record) (i : Id) → None ≡ option_map type_of_record o → has_in o i ≡ false
has_of_none None i e = refl
has_of_none (Some d) i e = absurd (true≢false (sym (ap is_some e)))

pub has_listed : (w : WorldState) (e : Entity) (i : Id) (ids : List Id) → Some ids ≡ option_map type_of_record (record_of w e)
    → has w e i ≡ has_item id_cmp ids i
has_listed w e i ids h = has_of_some (record_of w e) i ids h

pub has_nothing : (w : WorldState) (e : Entity) (i : Id) → None ≡ option_map type_of_record (record_of w e) → has w e i ≡ false
has_nothing w e i h = has_of_none (record_of w e) i h

-- ---- the targets of its pairs

pub pair_test : (r b : Entity) (i : Id) → has_item entity_cmp (option_to_list (target_by_pair r i)) b ≡ id_eq i (Two r b)
pair_test r b (One e) = refl
pair_test r b (Two q t) = grind (arith, common_steps, is_eq, or-false)

-- one more id is looked at
pub targets_more : (ids : List Id) (k : ℕ) (d : Id) (start now : List Entity) (o : Option Entity) (r b : Entity) → k < length ids
    → o ≡ target_by_pair r (get_or ids k d)
    → has_item entity_cmp now b ≡ (has_item entity_cmp start b || has_item id_cmp (take k ids) (Two r b))
    → has_item entity_cmp (now ++ option_to_list o) b ≡ (has_item entity_cmp start b || has_item id_cmp (take (k + 1) ids) (Two r b))
targets_more ids k d start now o r b l is h = grind (arith, common_steps, has_append, or_assoc, pair_test, or-false, take_more)

-- a test by cases, as a fact
pub or_fact : (a b c : Bool) → a ≡ (b || c) → IsTrue a ↔ (IsTrue b ⊎ IsTrue c)
or_fact a b c e = (λ h. or_parts b c (sym e ∙ h), λ h. e ∙ elim h as (λ _. IsTrue (b || c)) [ inl k ↦ or_left b c k | inr k ↦ or_right b c k ])

-- ---- walks

pub from_other_roots : {A : Type 0} {P Q : A → Type 0} {L : A → A → Type 0} → ((a : A) → P a → Q a) → {a : A} → Least P L a → Least Q L a
from_other_roots f (root h) = root (f _ h)
from_other_roots f (next member edge) = next (from_other_roots f member) edge

-- a handle is among others by `==`
abbrev pub is_one_of : List Entity → Entity → Bool
is_one_of xs a = list_any ((entity_impl.eq-value).it a) xs

alone_is : (from a : Entity) → a ≡ from → IsTrue (is_one_of (from ∷ []) a)
alone_is from a e = list_any-derived (from ∷ []) a ∙ or_left _ _ (subst (λ x. IsTrue (entity_eq from x)) (sym e) (entity_eq_itself from))

-- from the only root
pub from_one : (w : WorldState) (r from b : Entity)
    → Least (λ a. IsTrue (is_one_of (from ∷ []) a)) (λ c d. IsTrue (has w c (Two r d))) b ↔ Reaches w r from b
from_one w r from b = (
  λ h. from_other_roots (λ a k. sym (only same_entity from a (sym (list_any-derived (from ∷ []) a) ∙ k))) h,
  λ h. from_other_roots (alone_is from) h,
)

-- the targets of an entity's pairs come to others
pub appended : (w : WorldState) (e r : Entity) (ids : List Id) (old new : List Entity) (b : Entity) → Some ids ≡ option_map type_of_record (record_of w e)
    → has_item entity_cmp new b ≡ (has_item entity_cmp old b || has_item id_cmp ids (Two r b))
    → IsTrue (is_one_of new b) ↔ (IsTrue (is_one_of old b) ⊎ IsTrue (has w e (Two r b)))
appended w e r ids old new b own comes =
    or_fact _ _ _
    (list_any-derived new b ∙ comes ∙ ap (λ t. t || has_item id_cmp ids (Two r b)) (sym (list_any-derived old b))
    ∙ ap (λ t. is_one_of old b || t) (sym (has_listed w e (Two r b) ids own)))
