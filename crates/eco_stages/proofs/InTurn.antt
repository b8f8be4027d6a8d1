-- Sets of ids in turn.
use Rattle.eco_stages.proofs.Common.{◌≡◌, ◌<◌, ◌≤◌, ℕ, ◌+◌, List, [], ◌∷◌, ◌++◌, length, take, drop, get_or, refl, sym, ap, ◌∙◌, arith}
use Rattle.eco_stages.proofs.Common.{length-drop, length-take-le, take_more}
use Rattle.std.specs.Prelude.{◌*◌, ◌/◌, ◌%◌, Some, slice_get}
use Rattle.std.proofs.Math.Nat.{add-mod_right}
use Rattle.std.proofs.lemmas.Nat.{div-add-mod', mod-mul-add, mod_below}
use Rattle.std.proofs.lemmas.Option.{get_or_from_slice_get, slice_get_within}
use Rattle.std.proofs.lemmas.List.{get_or_default, get_or-drop, get_or-take}
use Rattle.eco_ids.specs.declared.entity.TheConstants.{CHILD_OF}
use Rattle.eco_ids.specs.declared.id.Id.{Id}
use Rattle.eco_ids.specs.declared.id.Id.TheVariants.{One}
use Rattle.eco_stages.specs.Recorded.{InTurnOneMore, RunSet, id_in_turn, in_turn, set_of_run}

-- some sets, and others after them
pub in_turn-append : (ids : List Id) (n : ℕ) (xs ys : List RunSet) → in_turn ids n (xs ++ ys) ≡ in_turn ids n xs ++ in_turn ids (n + length xs) ys
in_turn-append ids n [] ys = ap (λ m. in_turn ids m ys) (omega arith)
in_turn-append ids n (x ∷ xs) ys =
    let on : n + 1 + length xs ≡ n + length (x ∷ xs) = omega arith in
    ap (λ cs. set_of_run (id_in_turn ids n) x ∷ cs) (in_turn-append ids (n + 1) xs ys ∙ ap (λ m. in_turn ids (n + 1) xs ++ in_turn ids m ys) on)

-- each is a command
pub in_turn_counted : (ids : List Id) (n : ℕ) (xs : List RunSet) → length (in_turn ids n xs) ≡ length xs
in_turn_counted ids n [] = refl
in_turn_counted ids n (x ∷ xs) = omega (arith, in_turn_counted ids (n + 1) xs)

-- of which id one is
whose : (ids : List Id) (n turn : ℕ) (i : Id) → turn ≡ n % length ids → slice_get ids turn ≡ Some i → id_in_turn ids n ≡ i
whose ids n turn i at is = ap (λ k. get_or ids k (One CHILD_OF)) (sym at) ∙ get_or_from_slice_get ids turn i (One CHILD_OF) is

-- so many of the sets, and one more
pub one_more_in_turn : InTurnOneMore
one_more_in_turn ids n k turn xs x i is at own =
    let less = slice_get_within xs k x is in
    ap (in_turn ids n) (take_more xs k x less ∙ ap (λ y. take k xs ++ y ∷ []) (get_or_from_slice_get xs k x x is))
    ∙ in_turn-append ids n (take k xs) (x ∷ [])
    ∙ ap (λ m. in_turn ids n (take k xs) ++ in_turn ids (n + m) (x ∷ [])) (length-take-le k xs (omega (arith, less)))
    ∙ ap (λ j. in_turn ids n (take k xs) ++ set_of_run j x ∷ []) (whose ids (n + k) turn i at own)

-- the turn of some id is that of the one behind it next
pub next_up : (n k turn : ℕ) → turn ≡ n % k → turn + 1 < k → turn + 1 ≡ (n + 1) % k
next_up n k turn at less =
    let on : n / k * k + (turn + 1) ≡ n + 1 = omega (arith, div-add-mod' n k, at) in
    sym (mod-mul-add (n / k) k (turn + 1) less) ∙ ap (λ m. m % k) on

-- and behind that of the last comes that of the first
pub next_first : (n k turn : ℕ) → turn ≡ n % k → turn + 1 ≡ k → 0 ≡ (n + 1) % k
next_first n k turn at last =
    let on : n / k * k + k ≡ n + 1 = omega (arith, div-add-mod' n k, at, last) in
    let none : n / k * k + 0 ≡ n / k * k = omega arith in
    sym (ap (λ m. m % k) (sym on) ∙ add-mod_right (n / k * k) k ∙ ap (λ m. m % k) (sym none) ∙ mod-mul-add (n / k) k 0 (omega (arith, last)))

-- at first it is the turn of the first
pub none_first : (k : ℕ) → 0 < k → 0 % k ≡ 0
none_first k some = let is : 0 * k + 0 ≡ 0 = omega arith in sym (ap (λ m. m % k) is) ∙ mod-mul-add 0 k 0 some

-- and then that of the next
pub one_next : (k : ℕ) → 2 ≤ k → 1 ≡ 1 % k
one_next k some = let is : 0 * k + 1 ≡ 1 = omega arith in sym (mod-mul-add 0 k 1 (omega (arith, some))) ∙ ap (λ m. m % k) is

module _ (all : List Id) (at turns turn n : ℕ) (within : at + turns ≤ length all) (some : 0 < turns) (is : turn ≡ n % turns) where
  -- so many ids
  pub many : length (take turns (drop at all)) ≡ turns
  many = length-take-le turns (drop at all) (omega (arith, within, length-drop at all))

  -- whose turn it is
  pub turn_of : (i : Id) → i ≡ get_or all (at + turn) i → id_in_turn (take turns (drop at all)) n ≡ i
  turn_of i own =
      let less : turn < turns = omega (arith, is, mod_below n turns some) in
      let any : Id = One CHILD_OF in
      ap (λ k. get_or (take turns (drop at all)) (n % k) any) many ∙ ap (λ k. get_or (take turns (drop at all)) k any) (sym is)
      ∙ get_or-take turns (drop at all) turn any less ∙ get_or-drop at all turn any
      ∙ get_or_default all (at + turn) any i (omega (arith, less, within)) ∙ sym own
