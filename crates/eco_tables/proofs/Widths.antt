-- Which ids have columns, how wide those are, and what a row holds under other types.
use Rattle.eco_tables.proofs.Common.{◌≡◌, ℕ, zero, suc, ◌<◌, ◌≤◌, Bool, true, false, ◌||◌, if◌then◌else◌, List, [], ◌∷◌}
use Rattle.eco_tables.proofs.Common.{◌++◌, map, length, get_or, take, Some, None, unwrap_or, refl, sym, ap, ◌∙◌, arith, IsTrue, true≢false}
use Rattle.eco_tables.proofs.Common.{list_all, is_lt, append-nil, find, Id, Value, zeros, id_cmp, id_eq, has_item, is_ascending, id_eq_sym, equal_tie, or_right}
use Rattle.eco_tables.proofs.Common.{same_id, value_in, retyped, with_held, paired, kinds_of, width_among, AreKinds}
use Rattle.eco_ids.specs.declared.id.Id.TheVariants.{One}
use Rattle.eco_ids.proofs.Ascending.{first, second, both}
use Rattle.eco_tables.proofs.Held.{above-none, same_eq}

pub is_same : (i j : Id) → id_eq i j ≡ true → i ≡ j
is_same i j e = same_id i j (equal_tie _ e)

pub or_first : (b c : Bool) → (b || c) ≡ false → b ≡ false
or_first true c e = e
or_first false c e = refl

-- a search among ids that each have what f gives
pub find-each : {X : Type 0} (f : Id → X) (ids : List Id) (i : Id)
    → find id_cmp i (map (λ j. (j, f j)) ids) ≡ (if has_item id_cmp ids i then Some (f i) else None)
find-each f [] i = refl
find-each {X} f (j ∷ js) i = by (id_eq i j) refl (find-each f js i)
  where
    by : (b : Bool) → id_eq i j ≡ b → find id_cmp i (map (λ k. (k, f k)) js) ≡ (if has_item id_cmp js i then Some (f i) else None)
        → find id_cmp i (map (λ k. (k, f k)) (j ∷ js)) ≡ (if has_item id_cmp (j ∷ js) i then Some (f i) else None)
    by true e rest =
        let here : id_eq j i ≡ true = id_eq_sym j i ∙ e in
        rw (e, here) (ap (λ k. Some (f k)) (sym (is_same i j e)))
    by false e rest = let here : id_eq j i ≡ false = id_eq_sym j i ∙ e in rw (e, here) rest

-- the value of an id under other ids
pub value-retyped : (ids : List Id) (held : List (Id × Value)) (i : Id)
    → value_in (retyped ids held) i ≡ (if has_item id_cmp ids i then value_in held i else zeros)
value-retyped ids held i = ap (λ o. unwrap_or o zeros) (find-each (value_in held) ids i) ∙ pick (has_item id_cmp ids i)
  where
    pick : (b : Bool) → unwrap_or (if b then Some (value_in held i) else None) zeros ≡ (if b then value_in held i else zeros)
    pick true = refl
    pick false = refl

-- what each of the ids has is the same
pub same_within : (ids : List Id) (f g : Id → Value) → ((i : Id) → has_item id_cmp ids i ≡ true → f i ≡ g i)
    → map {B = Id × Value} (λ i. (i, f i)) ids ≡ map {B = Id × Value} (λ i. (i, g i)) ids
same_within [] f g same = refl
same_within (j ∷ js) f g same =
    let here : f j ≡ g j = same j (rw (same_eq j j refl) refl) in
    let there = same_within js f g (λ i e. same i (or_right (id_eq j i) (has_item id_cmp js i) e)) in
    λ t. (j, here t) ∷ there t

-- a value that is written is read again
pub value-written : (held : List (Id × Value)) (i : Id) (v : Value) → has_item id_cmp (map (λ p. p.0) held) i ≡ true
    → value_in (with_held held i v) i ≡ v
value-written [] i v has = absurd (true≢false (sym has))
value-written (p ∷ held) i v has = by (id_eq p.0 i) refl (value-written held i v)
  where
    by : (b : Bool) → id_eq p.0 i ≡ b → (has_item id_cmp (map (λ q. q.0) held) i ≡ true → value_in (with_held held i v) i ≡ v)
        → value_in (with_held (p ∷ held) i v) i ≡ v
    by true e rest = let back : id_eq i p.0 ≡ true = id_eq_sym i p.0 ∙ e in rw (e, back) refl
    by false e rest =
        let back : id_eq i p.0 ≡ false = id_eq_sym i p.0 ∙ e in
        let later : has_item id_cmp (map (λ q. q.0) held) i ≡ true = rw e at has in
        rw (e, back) (rest later)

-- and every other is as it was
pub value-other : (held : List (Id × Value)) (i j : Id) (v : Value) → id_eq j i ≡ false → value_in (with_held held i v) j ≡ value_in held j
value-other [] i j v other = refl
value-other (p ∷ held) i j v other = by (id_eq p.0 i) refl (id_eq j p.0) refl (value-other held i j v other)
  where
    by : (b : Bool) → id_eq p.0 i ≡ b → (b2 : Bool) → id_eq j p.0 ≡ b2 → value_in (with_held held i v) j ≡ value_in held j
        → value_in (with_held (p ∷ held) i v) j ≡ value_in (p ∷ held) j
    by true e true e2 rest = let bad : true ≡ false = sym e ∙ ap (λ x. id_eq x i) (sym (is_same j p.0 e2)) ∙ other in absurd (true≢false bad)
    by true e false e2 rest = rw (e, e2) rest
    by false e true e2 rest = rw (e, e2) refl
    by false e false e2 rest = rw (e, e2) rest

-- a write under other ids
pub retyped-written : (ids : List Id) (held after : List (Id × Value)) (i : Id) (v : Value)
    → (has_item id_cmp ids i ≡ true → value_in after i ≡ v) → ((j : Id) → id_eq j i ≡ false → value_in after j ≡ value_in held j)
    → retyped ids after ≡ with_held (retyped ids held) i v
retyped-written [] held after i v own others = refl
retyped-written (j ∷ js) held after i v own others =
    let here = by (id_eq j i) refl in
    let there = retyped-written js held after i v (λ e. own (or_right (id_eq j i) (has_item id_cmp js i) e)) others in
    λ t. here t ∷ there t
  where
    by : (b : Bool) → id_eq j i ≡ b → ◌≡◌ {A = Id × Value} (j, value_in after j) (if b then (j, v) else (j, value_in held j))
    by true e = ap (λ x. (j, x)) (ap (value_in after) (is_same j i e) ∙ own (rw e refl))
    by false e = ap (λ x. (j, x)) (others j e)

-- ---- widths

pub paired-each : (ids : List Id) (f : Id → ℕ) → paired ids (map f ids) ≡ map (λ i. (i, f i)) ids
paired-each [] f = refl
paired-each (i ∷ is) f = ap (λ xs. (i, f i) ∷ xs) (paired-each is f)

-- the width of an id of a table
pub width-each : (ids : List Id) (kinds : List (Id × ℕ)) (i : Id)
    → find id_cmp i (paired ids (map (width_among kinds) ids)) ≡ (if has_item id_cmp ids i then Some (width_among kinds i) else None)
width-each ids kinds i = ap (find id_cmp i) (paired-each ids (width_among kinds)) ∙ find-each (width_among kinds) ids i

-- what all ids pass, those with a width pass
kinds-all : (t : Id → Bool) (ids : List Id) (ws : List ℕ) → IsTrue (list_all t ids) → IsTrue (list_all t (map (λ k. k.0) (kinds_of ids ws)))
kinds-all t [] ws all = refl
kinds-all t (i ∷ is) [] all = refl
kinds-all t (i ∷ is) (zero ∷ ws) all = kinds-all t is ws (second _ _ all)
kinds-all t (i ∷ is) (suc w ∷ ws) all = both _ _ (first _ _ all) (kinds-all t is ws (second _ _ all))

kinds-ascending : (ids : List Id) (ws : List ℕ) → IsTrue (is_ascending id_cmp ids) → IsTrue (is_ascending id_cmp (map (λ k. k.0) (kinds_of ids ws)))
kinds-ascending [] ws up = refl
kinds-ascending (i ∷ is) [] up = refl
kinds-ascending (i ∷ is) (zero ∷ ws) up = kinds-ascending is ws (second _ _ up)
kinds-ascending (i ∷ is) (suc w ∷ ws) up = both _ _ (kinds-all (λ y. is_lt (id_cmp i y)) is ws (first _ _ up)) (kinds-ascending is ws (second _ _ up))

kinds-within : (ids : List Id) (ws : List ℕ) (j : Id) → IsTrue (has_item id_cmp (map (λ k. k.0) (kinds_of ids ws)) j) → IsTrue (has_item id_cmp ids j)
kinds-within [] ws j has = has
kinds-within (i ∷ is) [] j has = absurd (true≢false (sym has))
kinds-within (i ∷ is) (zero ∷ ws) j has = or_right (id_eq i j) (has_item id_cmp is j) (kinds-within is ws j has)
kinds-within (i ∷ is) (suc w ∷ ws) j has = by (id_eq i j) (kinds-within is ws j) has
  where
    by : (b : Bool) → (has_item id_cmp (map (λ k. k.0) (kinds_of is ws)) j ≡ true → has_item id_cmp is j ≡ true)
        → (b || has_item id_cmp (map (λ k. k.0) (kinds_of is ws)) j) ≡ true → (b || has_item id_cmp is j) ≡ true
    by true rest h = refl
    by false rest h = rest h

kinds-wide : (ids : List Id) (ws : List ℕ) (j : Id) → IsTrue (has_item id_cmp (map (λ k. k.0) (kinds_of ids ws)) j)
    → 1 ≤ width_among (kinds_of ids ws) j
kinds-wide [] ws j has = absurd (true≢false (sym has))
kinds-wide (i ∷ is) [] j has = absurd (true≢false (sym has))
kinds-wide (i ∷ is) (zero ∷ ws) j has = kinds-wide is ws j has
kinds-wide (i ∷ is) (suc w ∷ ws) j has = by (id_eq i j) refl (kinds-wide is ws j) has
  where
    by : (b : Bool) → id_eq i j ≡ b → (has_item id_cmp (map (λ k. k.0) (kinds_of is ws)) j ≡ true → 1 ≤ width_among (kinds_of is ws) j)
        → (b || has_item id_cmp (map (λ k. k.0) (kinds_of is ws)) j) ≡ true → 1 ≤ width_among ((i, suc w) ∷ kinds_of is ws) j
    by true e rest h = let back : id_eq j i ≡ true = id_eq_sym j i ∙ e in rw back (omega arith)
    by false e rest h = let back : id_eq j i ≡ false = id_eq_sym j i ∙ e in rw back (rest h)

pub are_kinds : (ids : List Id) (ws : List ℕ) → IsTrue (is_ascending id_cmp ids) → AreKinds ids (kinds_of ids ws)
are_kinds ids ws up = record { ascending = kinds-ascending ids ws up; within = kinds-within ids ws; wide = kinds-wide ids ws }

absent_width : (kinds : List (Id × ℕ)) (i : Id) → has_item id_cmp (map (λ k. k.0) kinds) i ≡ false → find id_cmp i kinds ≡ None
absent_width [] i none = refl
absent_width (k ∷ ks) i none = by (id_eq k.0 i) refl (absent_width ks i)
  where
    by : (b : Bool) → id_eq k.0 i ≡ b → (has_item id_cmp (map (λ q. q.0) ks) i ≡ false → find id_cmp i ks ≡ None)
        → find id_cmp i (k ∷ ks) ≡ None
    by true e rest = let bad = rw e at none in cc
    by false e rest =
        let later = rw e at none in
        let back : id_eq i k.0 ≡ false = id_eq_sym i k.0 ∙ e in
        rw back (rest later)

-- no column: no width
pub width-none : (kinds : List (Id × ℕ)) (i : Id) → has_item id_cmp (map (λ k. k.0) kinds) i ≡ false → width_among kinds i ≡ 0
width-none kinds i none = ap (λ o. unwrap_or o 0) (absent_width kinds i none)

-- each id has the width that its table was made with
pub widths_kept : (ids : List Id) (ws : List ℕ) → IsTrue (is_ascending id_cmp ids) → length ids ≡ length ws
    → map (width_among (kinds_of ids ws)) ids ≡ ws
widths_kept [] [] up same = refl
widths_kept [] (w ∷ ws) up same = absurd (omega (arith, same))
widths_kept (i ∷ is) [] up same = absurd (omega (arith, same))
widths_kept (i ∷ is) (zero ∷ ws) up same =
    let none = above-none _ i (kinds-all (λ y. is_lt (id_cmp i y)) is ws (first _ _ up)) in
    let here = width-none (kinds_of is ws) i none in
    let there = widths_kept is ws (second _ _ up) (let h : suc (length is) ≡ suc (length ws) = same in omega (arith, h)) in
    λ t. here t ∷ there t
widths_kept (i ∷ is) (suc w ∷ ws) up same =
    let there = others is (first _ _ up) ∙ widths_kept is ws (second _ _ up) (let h : suc (length is) ≡ suc (length ws) = same in omega (arith, h)) in
    rw (same_eq i i refl) (λ t. suc w ∷ there t)
  where
    others : (js : List Id) → IsTrue (list_all (λ y. is_lt (id_cmp i y)) js)
        → map (width_among ((i, suc w) ∷ kinds_of is ws)) js ≡ map (width_among (kinds_of is ws)) js
    others [] above = refl
    others (j ∷ js) above =
        let apart : id_eq j i ≡ false = or_first (id_eq j i) (has_item id_cmp js i) (above-none (j ∷ js) i above) in
        let later = others js (second _ _ above) in
        rw apart (λ t. width_among (kinds_of is ws) j ∷ later t)

-- ---- columns made one after another

kinds_more : (k : ℕ) (ids : List Id) (ws : List ℕ) (i d : Id) (w e : ℕ) → k < length ids → k < length ws → i ≡ get_or ids k d
    → w ≡ get_or ws k e
    → kinds_of (take (suc k) ids) (take (suc k) ws) ≡ kinds_of (take k ids) (take k ws) ++ kinds_of (i ∷ []) (w ∷ [])
kinds_more k [] ws i d w e in_ids in_ws is_i is_w = absurd (omega arith)
kinds_more k (x ∷ xs) [] i d w e in_ids in_ws is_i is_w = absurd (omega arith)
kinds_more zero (x ∷ xs) (y ∷ ys) i d w e in_ids in_ws is_i is_w = λ t. kinds_of (sym is_i t ∷ []) (sym is_w t ∷ [])
kinds_more (suc k) (x ∷ xs) (zero ∷ ys) i d w e in_ids in_ws is_i is_w = kinds_more k xs ys i d w e (omega arith) (omega arith) is_i is_w
kinds_more (suc k) (x ∷ xs) (suc y ∷ ys) i d w e in_ids in_ws is_i is_w =
    ap (λ ks. (x, suc y) ∷ ks) (kinds_more k xs ys i d w e (omega arith) (omega arith) is_i is_w)

kinds_one : (i : Id) (w : ℕ) → 0 < w → kinds_of (i ∷ []) (w ∷ []) ≡ (i, w) ∷ []
kinds_one i zero some = absurd (omega arith)
kinds_one i (suc w) some = refl

-- one more column
pub kinds_pushed : (k n : ℕ) (ids : List Id) (ws : List ℕ) (i d : Id) (w e : ℕ) → n ≡ suc k → k < length ids → k < length ws
    → i ≡ get_or ids k d → w ≡ get_or ws k e → 0 < w
    → kinds_of (take k ids) (take k ws) ++ (i, w) ∷ [] ≡ kinds_of (take n ids) (take n ws)
kinds_pushed k n ids ws i d w e next in_ids in_ws is_i is_w some =
    sym (ap (λ m. kinds_of (take m ids) (take m ws)) next ∙ kinds_more k ids ws i d w e in_ids in_ws is_i is_w
    ∙ ap (λ ks. kinds_of (take k ids) (take k ws) ++ ks) (kinds_one i w some))

-- none more
pub kinds_skipped : (k n : ℕ) (ids : List Id) (ws : List ℕ) → n ≡ suc k → k < length ids → k < length ws → 0 ≡ get_or ws k 0
    → kinds_of (take k ids) (take k ws) ≡ kinds_of (take n ids) (take n ws)
kinds_skipped k n ids ws next in_ids in_ws is =
    sym (ap (λ m. kinds_of (take m ids) (take m ws)) next ∙ kinds_more k ids ws _ (first_id ids) 0 0 in_ids in_ws refl is
    ∙ append-nil (kinds_of (take k ids) (take k ws)))
  where
    first_id : List Id → Id
    first_id [] = One (record { index = 0; generation = 0 })
    first_id (i ∷ is) = i
