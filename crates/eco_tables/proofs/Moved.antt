-- Columns of which the first so many went to those of their place, which have the same ids.
use Rattle.eco_tables.proofs.Common.{◌≡◌, ℕ, zero, suc, ◌-◌, ◌≤◌, List, [], ◌∷◌, ◌++◌, map, length, take, drop, false, IsTrue, refl, sym, ap, ◌∙◌, arith, subst}
use Rattle.eco_tables.proofs.Common.{append-nil, drop_all, is_eq, is_lt, length-map, list_all, map-append, ordering_reverse, take_all, take_at, Id, id_cmp}
use Rattle.eco_tables.proofs.Common.{id_eq, is_ascending, ColumnState, held_in, pushed, value_in}
use Rattle.std.proofs.lemmas.List.{drop_at, length-drop, length-take-le, take-append-drop}
use Rattle.eco_ids.specs.OrderLaws.{id_cmp_total}
use Rattle.eco_ids.proofs.Ascending.{first, second, less}
use borrow.Rule.Slice.PartMut.{put_mid, post_of}

-- a list of which the first n were mapped
module _ {X : Type 0} (f : X → X) (xs ys : List X) (n : ℕ) (within : n ≤ length xs) (done : ys ≡ map f (take n xs) ++ drop n xs) where
  front : length (map f (take n xs)) ≡ n
  front = length-map (take n xs) f ∙ length-take-le n xs within

  -- the rest of it is as it was
  pub rest_left : take (length ys - n) (drop n ys) ≡ drop n xs
  rest_left = take_all (length ys - n) (drop n ys) (omega (arith, length-drop n ys)) ∙ ap (drop n) done ∙ drop_at (map f (take n xs)) (drop n xs) n front

  -- and once it is mapped too, all are
  pub all_mapped : (zs : List X) → zs ≡ map f (drop n xs) → put_mid n (length ys - n) ys zs ≡ map f xs
  all_mapped zs is =
      let none : post_of n (length ys - n) ys ≡ [] = drop_all (length ys - n) (drop n ys) (omega (arith, length-drop n ys)) in
      let begun : take n ys ≡ map f (take n xs) = ap (take n) done ∙ take_at (map f (take n xs)) (drop n xs) n front in
      (λ t. begun t ++ (is t ++ none t)) ∙ ap (λ l. map f (take n xs) ++ l) (append-nil (map f (drop n xs)))
      ∙ sym (map-append f (take n xs) (drop n xs)) ∙ ap (map f) (take-append-drop n xs)

-- columns of ids above another do not look at that one's column
passed : (cs : List ColumnState) (n : ℕ) (d : ColumnState) (ds : List ColumnState) (row : ℕ)
    → IsTrue (list_all (λ y. is_lt (id_cmp d.id y)) (map (λ c. c.id) cs))
    → map (λ c. pushed c (value_in (held_in ds row) c.id)) (drop n cs) ≡ map (λ c. pushed c (value_in (held_in (d ∷ ds) row) c.id)) (drop n cs)
passed [] zero d ds row above = refl
passed [] (suc n) d ds row above = refl
passed (c ∷ cs) zero d ds row above =
    let other : id_eq c.id d.id ≡ false = ap is_eq (id_cmp_total.antisymm c.id d.id ∙ ap ordering_reverse (less _ (first _ _ above))) in
    rw other (ap (λ xs. pushed c (value_in (held_in ds row) c.id) ∷ xs) (passed cs zero d ds row (second _ _ above)))
passed (c ∷ cs) (suc n) d ds row above = passed cs n d ds row (second _ _ above)

-- so what is behind columns of the same ids is looked for behind them
pub value_behind : (cs ds : List ColumnState) (n row : ℕ) → IsTrue (is_ascending id_cmp (map (λ c. c.id) cs))
    → take n (map (λ c. c.id) cs) ≡ take n (map (λ c. c.id) ds)
    → map (λ c. pushed c (value_in (held_in (drop n ds) row) c.id)) (drop n cs) ≡ map (λ c. pushed c (value_in (held_in ds row) c.id)) (drop n cs)
value_behind cs ds zero row up alike = refl
value_behind [] ds (suc n) row up alike = refl
value_behind (c ∷ cs) [] (suc n) row up alike = refl
value_behind (c ∷ cs) (d ∷ ds) (suc n) row up alike =
    let same : c.id ≡ d.id = (let h : ◌≡◌ {A = List Id} (c.id ∷ take n (map (λ x. x.id) cs)) (d.id ∷ take n (map (λ x. x.id) ds)) = alike in cc) in
    let rest : take n (map (λ x. x.id) cs) ≡ take n (map (λ x. x.id) ds) =
    (let h : ◌≡◌ {A = List Id} (c.id ∷ take n (map (λ x. x.id) cs)) (d.id ∷ take n (map (λ x. x.id) ds)) = alike in cc) in
    value_behind cs ds n row (second _ _ up) rest
    ∙ passed cs n d ds row (subst (λ i. IsTrue (list_all (λ y. is_lt (id_cmp i y)) (map (λ x. x.id) cs))) same (first _ _ up))

-- the ids behind a place ascend, too
pub ascending_behind : (cs : List ColumnState) (n : ℕ) → IsTrue (is_ascending id_cmp (map (λ c. c.id) cs))
    → IsTrue (is_ascending id_cmp (map (λ c. c.id) (drop n cs)))
ascending_behind [] zero up = up
ascending_behind [] (suc n) up = up
ascending_behind (c ∷ cs) zero up = up
ascending_behind (c ∷ cs) (suc n) up = ascending_behind cs n (second _ _ up)
