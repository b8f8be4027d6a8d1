-- What a worker has collected, after one more piece.
use Rattle.eco_workers.proofs.Common.{◌≡◌, ℕ, ◌<◌, ◌≤◌, true, arith, List, [], ◌∷◌, ◌++◌, length, map, inr, refl, sym, ap}
use Rattle.eco_workers.proofs.Common.{◌∙◌, subst, All, flat_map, append-nil, map_push, flat_map-append, All-push, All-map, All-weaker, Contains-push}
use Rattle.eco_workers.proofs.Common.{slice_get_within, ascends, Command, Collected, IsStopped, Entry, entry_of, share_of, piece_of_entry, IsEntry, IsLog}
use Rattle.eco_workers.proofs.Common.{IsShare, IsShort, IsBroken, Refusal, NoMoreIds, OutOfMemory, Seat, claimed, drawn, is_dry}
use Rattle.eco_workers.proofs.Turned.{short}

module _ {S : Type 0} (commands : S → List ℕ → List Command) (taken : S → List ℕ → ℕ) (pieces : List S) where
  pub log_same : (claimed claimed' drawn drawn' : List ℕ) (pushed pushed' : List Collected) (log : List Entry)
      → IsLog commands taken pieces claimed drawn pushed log → claimed' ≡ claimed → drawn' ≡ drawn → pushed' ≡ pushed
      → IsLog commands taken pieces claimed' drawn' pushed' log
  log_same claimed claimed' drawn drawn' pushed pushed' log h c d p = record
      { claims = c ∙ h.claims; draws = d ∙ h.draws; collected = p ∙ h.collected; good = h.good }

  pub log_push : (claimed claimed' drawn drawn' : List ℕ) (pushed pushed' : List Collected) (log : List Entry) (p : Collected) (mine : List ℕ)
      → IsLog commands taken pieces claimed drawn pushed log → claimed' ≡ claimed ++ p.number ∷ [] → drawn' ≡ drawn ++ mine → pushed' ≡ pushed ++ p ∷ []
      → IsEntry commands taken pieces (entry_of p mine) → IsLog commands taken pieces claimed' drawn' pushed' (log ++ entry_of p mine ∷ [])
  log_push claimed claimed' drawn drawn' pushed pushed' log p mine h c d q made =
      let e = entry_of p mine in
      let number : Entry → ℕ = λ e. e.number in
      let draws : Entry → List ℕ = λ e. e.draws in record {
        claims = c ∙ ap (λ l. l ++ p.number ∷ []) h.claims ∙ sym (map_push number log e);
        draws = d ∙ ap (λ l. l ++ mine) h.draws ∙ ap (λ l. flat_map draws log ++ l) (sym (append-nil mine)) ∙ sym (flat_map-append draws log (e ∷ []));
        collected = q ∙ ap (λ l. l ++ p ∷ []) h.collected ∙ sym (map_push piece_of_entry log e);
        good = All-push (λ (e : Entry). IsEntry commands taken pieces e) log e h.good made;
      }

  -- a worker has claimed no more pieces than there are
  pub few_claims : (claimed drawn : List ℕ) (pushed : List Collected) (log : List Entry) → ascends claimed ≡ true
      → IsLog commands taken pieces claimed drawn pushed log → length claimed ≤ length pieces
  few_claims claimed drawn pushed log up h =
      let P : ℕ → Type 0 = λ n. n < length pieces in
      let number : Entry → ℕ = λ e. e.number in
      let all : All P (map number log) = All-map P number log (λ k d lt. slice_get_within pieces _ _ (h.good k d lt).at) in
      short claimed (length pieces) up (subst (All P) (sym h.claims) all)

  fair_entry : (e : Entry) → IsEntry commands taken pieces e → IsShare commands taken pieces e
  fair_entry e h = record { piece = h.piece; at = h.at; most = let t = h.stage.0 in omega arith }

  pub fair_log : (log : List Entry) → All (λ (e : Entry). IsEntry commands taken pieces e) log → All (λ (e : Entry). IsShare commands taken pieces e) log
  fair_log log h = All-weaker (λ (e : Entry). IsEntry commands taken pieces e) (λ (e : Entry). IsShare commands taken pieces e) fair_entry log h

  -- a worker that stopped before it claimed a further piece
  pub stopped : (seat : Seat) (pushed : List Collected) (log : List Entry) → IsLog commands taken pieces (claimed seat) (drawn seat) pushed log
      → IsBroken commands taken pieces seat OutOfMemory
  stopped seat pushed log h = record {
    why = inr refl;
    shares = log;
    claims = h.claims;
    draws = h.draws;
    fair = fair_log log h.good;
    out = λ is. absurd (other_refusal is);
  }
    where
      other_refusal : OutOfMemory ≡ NoMoreIds → ⊥
      other_refusal is = cc

  -- a worker that stopped in a piece
  pub broken : (seat seat' : Seat) (pushed : List Collected) (log : List Entry) (number : ℕ) (mine : List ℕ) (refusal : Refusal)
      → IsLog commands taken pieces (claimed seat) (drawn seat) pushed log
      → claimed seat' ≡ claimed seat ++ number ∷ []
      → drawn seat' ≡ drawn seat ++ mine
      → IsShare commands taken pieces (share_of number mine)
      → (refusal ≡ NoMoreIds → (is_dry seat' ≡ true) × IsShort commands taken pieces (share_of number mine))
      → IsStopped refusal
      → IsBroken commands taken pieces seat' refusal
  broken seat seat' pushed log number mine refusal h c d share short why =
      let e = share_of number mine in
      let number_in : Entry → ℕ = λ e. e.number in
      let draws_in : Entry → List ℕ = λ e. e.draws in record {
        why = why;
        shares = log ++ e ∷ [];
        claims = c ∙ ap (λ l. l ++ number ∷ []) h.claims ∙ sym (map_push number_in log e);
        draws = d ∙ ap (λ l. l ++ mine) h.draws ∙ ap (λ l. flat_map draws_in log ++ l) (sym (append-nil mine)) ∙ sym (flat_map-append draws_in log (e ∷ []));
        fair = All-push (λ (e : Entry). IsShare commands taken pieces e) log e (fair_log log h.good) share;
        out = λ is. (let o = short is in (o.0, (e, Contains-push log e, o.1)));
      }
