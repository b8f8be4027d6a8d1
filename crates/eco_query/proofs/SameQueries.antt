-- `==` of slots says whether they ask the same.
use Rattle.eco_query.proofs.Common.{◌≡◌, List, [], ◌∷◌, map, refl, ap, arith, common_steps, pointwise, Pattern, Slot, slot_view, term_view}
use Rattle.eco_ids.proofs.SameIds.{entity_eq-Decides, id_eq-Decides, same_ids-Decides}
use Rattle.std.specs.Bool.{Decides}
use Rattle.std.proofs.lemmas.Bool.Decides.{Decides-and, Decides-like}
use Rattle.eco_ids.specs.declared.pattern.Part.{Part}
use Rattle.eco_ids.specs.declared.pattern.Part.TheVariants.{Is, Each, Any}
use Rattle.eco_query.specs.declared.access.Access.{Access}
use Rattle.eco_query.specs.declared.term.Term.{Term}
use Rattle.eco_query.specs.declared.term.Term.TheVariants.{And, Not, Optional, Or}
use Rattle.eco_ids.specs.contracts.pattern.PartPartialEq.TheImpl as part_eq
use Rattle.eco_ids.specs.contracts.pattern.PatternPartialEq.TheImpl as pattern_eq
use Rattle.eco_ids.specs.declared.pattern.Pattern.TheVariants as pattern
use Rattle.eco_ids.specs.Terms as terms
use Rattle.eco_query.specs.contracts.access.AccessPartialEq.TheImpl as access_eq
use Rattle.eco_query.specs.contracts.slot.SlotPartialEq.TheImpl as slot_eq
use Rattle.eco_query.specs.contracts.term.TermPartialEq.TheImpl as term_eq

part_eq-Decides : (a b : Part) → Decides ((part_eq.eq-value).it a b) (a ≡ b)
part_eq-Decides (Is a) (Is b) = (λ e. ap (λ x. Is x) ((entity_eq-Decides a b).0 e), λ e. (entity_eq-Decides a b).1 (let same : a ≡ b = cc in same))
part_eq-Decides (Is a) Each = (λ e. cc, λ e. cc)
part_eq-Decides (Is a) Any = (λ e. cc, λ e. cc)
part_eq-Decides Each (Is b) = (λ e. cc, λ e. cc)
part_eq-Decides Each Each = (λ e. refl, λ e. refl)
part_eq-Decides Each Any = (λ e. cc, λ e. cc)
part_eq-Decides Any (Is b) = (λ e. cc, λ e. cc)
part_eq-Decides Any Each = (λ e. cc, λ e. cc)
part_eq-Decides Any Any = (λ e. refl, λ e. refl)

pattern_eq-Decides : (a b : Pattern) → Decides ((pattern_eq.eq-value).it a b) (a ≡ b)
pattern_eq-Decides (pattern.One a) (pattern.One b) =
    (λ e. ap (λ x. pattern.One x) ((entity_eq-Decides a b).0 e), λ e. (entity_eq-Decides a b).1 (let same : a ≡ b = cc in same))
pattern_eq-Decides (pattern.One a) (pattern.Two p q) = (λ e. cc, λ e. cc)
pattern_eq-Decides (pattern.Two p q) (pattern.One a) = (λ e. cc, λ e. cc)
pattern_eq-Decides (pattern.Two p q) (pattern.Two r s) =
    Decides-like _ (λ e. let (first, second) = e in rw (first, second) refl) (λ e. (let first : p ≡ r = cc in first, let second : q ≡ s = cc in second))
    (Decides-and _ _ (part_eq-Decides p r) (part_eq-Decides q s))

access_eq-Decides : (a b : Access) → Decides ((access_eq.eq-value).it a b) (a ≡ b)
access_eq-Decides a b = grind (arith, common_steps)

term_eq-Decides : (a b : Term) → Decides ((term_eq.eq-value).it a b) (term_view a ≡ term_view b)
term_eq-Decides (And p) (And q) = Decides-like _ (ap (λ x. terms.And x)) (λ e. cc) (pattern_eq-Decides p q)
term_eq-Decides (Not p) (Not q) = Decides-like _ (ap (λ x. terms.Not x)) (λ e. cc) (pattern_eq-Decides p q)
term_eq-Decides (Optional i) (Optional j) = Decides-like _ (ap (λ x. terms.Optional x)) (λ e. cc) (id_eq-Decides i j)
term_eq-Decides (Or v) (Or w) = Decides-like _ (ap (λ x. terms.Or x)) (λ e. cc) (same_ids-Decides v.items w.items)
term_eq-Decides a b = (λ e. cc, λ e. cc)

slot_eq-Decides : (a b : Slot) → Decides ((slot_eq.eq-value).it a b) (slot_view a ≡ slot_view b)
slot_eq-Decides a b =
    Decides-like _ (λ e. let (access, term) = e in rw (access, term) refl) (λ e. (ap (λ s. s.access) e, ap (λ s. s.term) e))
    (Decides-and _ _ (access_eq-Decides a.access b.access) (term_eq-Decides a.term b.term))

-- two lists of slots are equal exactly where they ask the same
pub slots-Decides : (xs ys : List Slot) → Decides (pointwise (slot_eq.eq-value).it xs ys) (map slot_view xs ≡ map slot_view ys)
slots-Decides [] [] = (λ e. refl, λ e. refl)
slots-Decides [] (y ∷ ys) = (λ e. cc, λ e. cc)
slots-Decides (x ∷ xs) [] = (λ e. cc, λ e. cc)
slots-Decides (x ∷ xs) (y ∷ ys) =
    Decides-like _ (λ e. let (first, rest) = e in rw (first, rest) refl)
    (λ e. (let first : slot_view x ≡ slot_view y = cc in first, let rest : map slot_view xs ≡ map slot_view ys = cc in rest))
    (Decides-and _ _ (slot_eq-Decides x y) (slots-Decides xs ys))
