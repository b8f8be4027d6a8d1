-- A world has one layout.
use Rattle.eco_ids.proofs.Common.{◌≡◌, ◌≢◌, ℕ, zero, suc, ◌<◌, List, [], ◌∷◌, map, length, get_or, IsTrue, Contains, is_eq, Ordering}
use Rattle.eco_ids.proofs.Common.{sym, refl, ◌∙◌, subst, inl, inr, true≢false, le_of_suc-le-suc, arith, IsTotalOrder, IsAntisymmetric}
use Rattle.eco_ids.proofs.Common.{Entity, Id, id_cmp, has_item, WorldState}
use Rattle.std.specs.Cmp.Lexicographic.{slice_cmp, lists_total}
use Rattle.std.specs.FinMap.{slice_cmp-IsAntisymmetric}
use Rattle.std.proofs.lemmas.List.Elements.{All-contains}
use Rattle.eco_ids.specs.Layout.{ListedTable, IsLayout}
use Rattle.eco_ids.proofs.Facts.{or_right}
use Rattle.eco_ids.proofs.IdOrder.{id_cmp_total, same_id}
use Rattle.eco_ids.proofs.Members.{item_cases, item_first, same_members}

abbrev pub type_cmp : List Id → List Id → Ordering
type_cmp = slice_cmp id_cmp

pub types_total : IsTotalOrder type_cmp
types_total = lists_total id_cmp_total

pub types_tie : IsAntisymmetric type_cmp
types_tie = slice_cmp-IsAntisymmetric same_id

abbrev types : List ListedTable → List (List Id)
types = map (λ t. t.ids)

type_there : (ts : List ListedTable) (t : ListedTable) → Contains ts t → IsTrue (has_item type_cmp (types ts) t.ids)
type_there ts t h = by ts h.0 h.1 h.2
  where
    by : (us : List ListedTable) (k : ℕ) → k < length us → get_or us k t ≡ t → IsTrue (has_item type_cmp (types us) t.ids)
    by [] k within is = absurd (omega (arith, within))
    by (u ∷ us) zero within is = subst (λ x. IsTrue (has_item type_cmp (u.ids ∷ types us) x.ids)) is (item_first types_total types_tie u.ids (types us))
    by (u ∷ us) (suc k) within is = or_right (is_eq (type_cmp u.ids t.ids)) _ (by us k (le_of_suc-le-suc within) is)

table_of : (ts : List ListedTable) (ids : List Id) → IsTrue (has_item type_cmp (types ts) ids) → (t : ListedTable) × Contains ts t × (t.ids ≡ ids)
table_of [] ids h = absurd (true≢false (sym h))
table_of (t ∷ ts) ids h = elim (item_cases types_total types_tie ids t.ids (types ts) h) as (λ _. (u : ListedTable) × Contains (t ∷ ts) u × (u.ids ≡ ids)) [
  | inl same ↦ (t, (0, omega arith, refl), same)
  | inr k ↦ let rest = table_of ts ids k in (rest.0, (suc rest.1.0, omega (arith, rest.1.1), rest.1.2), rest.2)
]

someone : (es : List Entity) → es ≢ [] → (e : Entity) × Contains es e
someone [] some = absurd (some refl)
someone (e ∷ es) some = (e, (0, omega arith, refl))

-- a table of one layout has somebody, who stands in the other's table of that type
types_within : (w : WorldState) (tables others : List ListedTable) → IsLayout w tables → IsLayout w others → (ids : List Id)
    → IsTrue (has_item type_cmp (types tables) ids) → IsTrue (has_item type_cmp (types others) ids)
types_within w tables others x y ids h =
    let t = table_of tables ids h in
    let member = someone t.0.entities (All-contains (λ u. u.entities ≢ []) tables t.0 x.non_empty t.1) in
    let lives = (x.exact member.0 t.0 t.1).0 member.1 in
    let other = y.all member.0 lives.0 in
    let same : other.0.ids ≡ ids = ((y.exact member.0 other.0 other.1).0 other.2).1 ∙ sym lives.1 ∙ t.2 in
    subst (λ i. IsTrue (has_item type_cmp (types others) i)) same (type_there others other.0 other.1)

pub one_layout : (w : WorldState) (tables others : List ListedTable) → IsLayout w tables → IsLayout w others → types tables ≡ types others
one_layout w tables others x y = same_members types_total types_tie (types tables) (types others) x.ascending y.ascending
    (λ ids. (types_within w tables others x y ids, types_within w others tables y x ids))
