-- What all workers have collected, after one more worker.
use Rattle.eco_workers.proofs.Common.{◌≡◌, ℕ, ◌+◌, Bool, true, ◌<◌, cond, List, [], ◌∷◌, ◌++◌, length, map, refl, sym, ap, ◌∙◌, subst, arith, nat_tests}
use Rattle.eco_workers.proofs.Common.{All, append-nil, flat_map, flat_map-append, map-append, All-append, All-nil, All-cons, All-head, Seat, count_by}
use Rattle.eco_workers.proofs.Common.{times, once, all_above, ascends, claimed, drawn, is_done, done_count, Command, Collected, Entry, piece_of_entry, IsLog}
use Rattle.eco_workers.proofs.Common.{IsGood, IsGathered}
use Rattle.std.proofs.lemmas.List.Sums.{sum_by-cons}
use Rattle.eco_workers.proofs.Popped.{popped_list}

above_front : (x : ℕ) (xs ys : List ℕ) → all_above x (xs ++ ys) ≡ true → all_above x xs ≡ true
above_front x [] ys h = refl
above_front x (y ∷ xs) ys h = let r = above_front x xs ys in grind (arith, nat_tests)

front_ascends : (xs ys : List ℕ) → ascends (xs ++ ys) ≡ true → ascends xs ≡ true
front_ascends [] ys h = refl
front_ascends (x ∷ xs) ys h = let r = front_ascends xs ys in let s = above_front x xs ys in grind (arith, nat_tests)

back_ascends : (xs ys : List ℕ) → ascends (xs ++ ys) ≡ true → ascends ys ≡ true
back_ascends [] ys h = h
back_ascends (x ∷ xs) ys h = let r = back_ascends xs ys in grind (arith, nat_tests)

all_ascend : (log : List Entry) → ascends (flat_map (λ (e : Entry). e.draws) log) ≡ true → All (λ (e : Entry). ascends e.draws ≡ true) log
all_ascend [] h = All-nil (λ (e : Entry). ascends e.draws ≡ true)
all_ascend (e ∷ log) h =
    let rest = flat_map (λ (e : Entry). e.draws) log in
    All-cons (λ (e : Entry). ascends e.draws ≡ true) e log (front_ascends e.draws rest h) (all_ascend log (back_ascends e.draws rest h))

-- of one seat more, and of the entries of its worker
module _ (log more : List Entry) (seats seats' : List Seat) (s : Seat) (ss : seats' ≡ seats ++ s ∷ []) where
  pub claims_more : map (λ (e : Entry). e.number) log ≡ flat_map claimed seats → claimed s ≡ map (λ (e : Entry). e.number) more
      → map (λ (e : Entry). e.number) (log ++ more) ≡ flat_map claimed seats'
  claims_more before mine =
      let number : Entry → ℕ = λ e. e.number in
      map-append number log more ∙ ap (λ l. l ++ map number more) before ∙ ap (λ l. flat_map claimed seats ++ l) (sym mine)
      ∙ sym (popped_list claimed seats' seats s ss)

  pub draws_more : flat_map (λ (e : Entry). e.draws) log ≡ flat_map drawn seats → drawn s ≡ flat_map (λ (e : Entry). e.draws) more
      → flat_map (λ (e : Entry). e.draws) (log ++ more) ≡ flat_map drawn seats'
  draws_more before mine =
      let draws : Entry → List ℕ = λ e. e.draws in
      flat_map-append draws log more ∙ ap (λ l. l ++ flat_map draws more) before ∙ ap (λ l. flat_map drawn seats ++ l) (sym mine)
      ∙ sym (popped_list drawn seats' seats s ss)

module _ {S : Type 0} (commands : S → List ℕ → List Command) (taken : S → List ℕ → ℕ) (pieces : List S) where
  pub gathered_none : (seats : List Seat) (pushed : List Collected) → seats ≡ [] → pushed ≡ [] → IsGathered commands taken pieces seats pushed []
  gathered_none seats pushed s p =
      record {
        collected = p;
        good = All-nil (λ (e : Entry). IsGood commands taken pieces e);
        claims = sym (ap (flat_map claimed) s);
        draws = sym (ap (flat_map drawn) s);
      }

  pub gathered_more : (seats seats' : List Seat) (pushed pushed' mine : List Collected) (log more : List Entry) (s : Seat)
      → IsGathered commands taken pieces seats pushed log
      → IsLog commands taken pieces (claimed s) (drawn s) mine more
      → seats' ≡ seats ++ s ∷ [] → pushed' ≡ pushed ++ mine
      → IsGathered commands taken pieces seats' pushed' (log ++ more)
  gathered_more seats seats' pushed pushed' mine log more s h l ss ps =
      let up' : ascends (flat_map (λ (e : Entry). e.draws) more) ≡ true = ap ascends (sym l.draws) ∙ s.draw.ascending in
      let rising = all_ascend more up' in
      record {
        collected = ps ∙ ap (λ k. k ++ mine) h.collected ∙ ap (λ k. map piece_of_entry log ++ k) l.collected ∙ sym (map-append piece_of_entry log more);
        good = All-append (λ (e : Entry). IsGood commands taken pieces e) log more h.good (λ k d lt. (l.good k d lt, rising k d lt));
        claims = claims_more log more seats seats' s ss h.claims l.claims;
        draws = draws_more log more seats seats' s ss h.draws l.draws;
      }

-- some are done, where there is one and all are
some_done : (seats : List Seat) → 0 < length seats → All (λ s. is_done s ≡ true) seats → 0 < done_count seats
some_done [] some h = absurd (omega (arith, some))
some_done (s ∷ seats) some h =
    let weight : Bool → ℕ = λ b. cond b 1 0 in
    let one : cond (is_done s) 1 0 ≡ 1 = ap weight (All-head (λ (s : Seat). is_done s ≡ true) s seats h) in
    let more : 0 < cond (is_done s) 1 0 + count_by is_done seats = omega (arith, one) in
    subst (λ n. 0 < n) (sym (sum_by-cons (λ (s : Seat). cond (is_done s) 1 0) s seats)) more

-- all seats were refused a piece, so all pieces were claimed
pub all_claimed : (x pieces claims : ℕ) (seats : List Seat) → 0 < length seats → All (λ s. is_done s ≡ true) seats → (0 < done_count seats → claims ≡ pieces)
    → times x (flat_map claimed seats) ≡ once 0 claims x → times x (flat_map claimed seats) ≡ once 0 pieces x
all_claimed x pieces claims seats some done ended each = each ∙ ap (λ b. once 0 b x) (ended (some_done seats some done))

-- a seat alone has all in turn
pub alone_ascends : (seats : List Seat) → length seats ≡ 1 → (ascends (flat_map claimed seats) ≡ true) × (ascends (flat_map drawn seats) ≡ true)
alone_ascends [] one = absurd (omega (arith, one))
alone_ascends (s ∷ []) one = (ap ascends (append-nil (claimed s)) ∙ s.claim.ascending, ap ascends (append-nil (drawn s)) ∙ s.draw.ascending)
alone_ascends (s ∷ t ∷ seats) one = absurd (omega (arith, one))
