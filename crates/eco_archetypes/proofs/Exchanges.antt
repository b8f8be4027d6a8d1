-- One id in the place of another.
use Rattle.eco_archetypes.proofs.Common.{◌≡◌, ◌≢◌, ℕ, ◌+◌, ◌++◌, true≢false, ◌&&◌, ◌||◌, not, Bool, true, false, cond, List}
use Rattle.eco_archetypes.proofs.Common.{Option, Some, take, drop, remove, IsTrue, slice_get, get_or, suc, Ordering, Less, Equal, Greater, refl, sym, ap}
use Rattle.eco_archetypes.proofs.Common.{◌∙◌, arith, same_Some, slice_get_within, slice_get-get_or, is_eq, Id, id_cmp, id_eq, has_item, with_item}
use Rattle.eco_archetypes.proofs.Common.{without_item, is_ascending, has_at, remove_is_without, id_eq_itself, id_cmp_total, joins_with, leaves_without}
use Rattle.eco_archetypes.proofs.Common.{TableState, exchanged, toggled, twice, type_at}
use Rattle.std.specs.Prelude.{HoldsAt}

-- the second id is there then
comes : (ids : List Id) (i j : Id) → has_item id_cmp (exchanged ids i j) j ≡ true
comes ids i j = joins_with id_cmp_total (without_item id_cmp ids i) j j ∙ ap (λ b. b || has_item id_cmp (without_item id_cmp ids i) j) (id_eq_itself j)

-- it makes another type of it
exchanged_other : (ids : List Id) (i j : Id) → has_item id_cmp ids j ≡ false → exchanged ids i j ≢ ids
exchanged_other ids i j lacks same = true≢false (sym (comes ids i j) ∙ ap (λ xs. has_item id_cmp xs j) same ∙ lacks)

-- the two stand in two slots
pub exchanged_apart : (s : List (Option TableState)) (n m : ℕ) (ids : List Id) (i j : Id) → type_at s n ≡ Some ids
    → type_at s m ≡ Some (exchanged ids i j)
    → has_item id_cmp ids j ≡ false → n ≢ m
exchanged_apart s n m ids i j from to lacks same = exchanged_other ids i j lacks (same_Some _ _ (sym to ∙ sym (ap (type_at s) same) ∙ from))

-- the first id goes, and the second one comes
pub in_two_steps : (ids : List Id) (i j : Id) → has_item id_cmp ids i ≡ true → has_item id_cmp ids j ≡ false
    → toggled (toggled ids i) j ≡ exchanged ids i j
in_two_steps ids i j there lacks =
    let less = without_item id_cmp ids i in
    let one : toggled ids i ≡ less = ap (λ b. cond b less (with_item id_cmp ids i)) there in
    let gone : has_item id_cmp less j ≡ false = leaves_without id_cmp_total ids i j ∙ ap (λ b. not (id_eq i j) && b) lacks
    ∙ and_false (not (id_eq i j)) in
    ap (λ xs. toggled xs j) one ∙ ap (λ b. cond b (without_item id_cmp less j) (with_item id_cmp less j)) gone
  where
    and_false : (b : Bool) → (b && false) ≡ false
    and_false true = refl
    and_false false = refl

is_equal : (r : Ordering) → is_eq r ≡ true → r ≡ Equal
is_equal Less h = absurd (true≢false (sym h))
is_equal Equal h = refl
is_equal Greater h = absurd (true≢false (sym h))

stands : (ids : List Id) (x : Id) (k : ℕ) → slice_get ids k ≡ Some x → HoldsAt (λ y. id_cmp y x ≡ Equal) ids k
stands ids x k at = λ d.
    let is : get_or ids k d ≡ x = same_Some _ _ (sym (slice_get-get_or ids k d (slice_get_within ids k x at)) ∙ at) in
    ap (λ y. id_cmp y x) is ∙ is_equal (id_cmp x x) (id_eq_itself x)

-- who stands at a place is there
pub there_at : (ids : List Id) (x : Id) (k : ℕ) → slice_get ids k ≡ Some x → has_item id_cmp ids x ≡ true
there_at ids x k at = has_at id_cmp_total ids x k (slice_get_within ids k x at) (stands ids x k at)

-- two types that differ at one place alone: there one has the first id, and the other the second
module _ (own other : List Id) (i j : Id) (k : ℕ) (up : IsTrue (is_ascending id_cmp own)) (up' : IsTrue (is_ascending id_cmp other))
    (here : slice_get own k ≡ Some i) (there : slice_get other k ≡ Some j)
    (before : take k own ≡ take k other) (behind : drop (k + 1) own ≡ drop (k + 1) other) where
  gone : (ids : List Id) (x : Id) → IsTrue (is_ascending id_cmp ids) → slice_get ids k ≡ Some x → remove ids k ≡ without_item id_cmp ids x
  gone ids x asc at = remove_is_without id_cmp_total ids x k asc (slice_get_within ids k x at) (stands ids x k at)

  same_rest : without_item id_cmp own i ≡ without_item id_cmp other j
  same_rest =
      let e : k + 1 ≡ suc k = omega arith in
      let rest : drop (suc k) own ≡ drop (suc k) other = ap (λ n. drop n own) (sym e) ∙ behind ∙ ap (λ n. drop n other) e in
      let alike : remove own k ≡ remove other k = ap (λ xs. xs ++ drop (suc k) own) before ∙ ap (λ xs. take k other ++ xs) rest in
      sym (gone own i up here) ∙ alike ∙ gone other j up' there

  pub exchanged_is : exchanged own i j ≡ other
  exchanged_is =
      let less = without_item id_cmp other j in
      let has = has_at id_cmp_total other j k (slice_get_within other k j there) (stands other j k there) in
      let one : toggled other j ≡ less = ap (λ b. cond b less (with_item id_cmp other j)) has in
      let lost : has_item id_cmp less j ≡ false =
      leaves_without id_cmp_total other j j ∙ ap (λ b. not b && has_item id_cmp other j) (id_eq_itself j) in
      let two : toggled less j ≡ with_item id_cmp less j = ap (λ b. cond b (without_item id_cmp less j) (with_item id_cmp less j)) lost in
      ap (λ xs. with_item id_cmp xs j) same_rest ∙ sym two ∙ ap (λ xs. toggled xs j) (sym one) ∙ twice other j up'
