-- What the seats of all workers have claimed and drawn, shared out among pieces, after one more worker.
use Rattle.eco_workers.proofs.Common.{◌≡◌, ◌⊎◌, inl, inr, ℕ, zero, suc, Bool, true, cond, List, [], ◌∷◌, ◌++◌, map, sym, ap, ◌∙◌}
use Rattle.eco_workers.proofs.Common.{subst, arith, All, Contains, flat_map, map_push, All-head, All-tail, All-append, All-nil, Contains-append_left}
use Rattle.eco_workers.proofs.Common.{Contains-append_right, Seat, claimed, drawn, is_dry, Command, Refusal, NoMoreIds, Collected, Worked, End}
use Rattle.eco_workers.proofs.Common.{Done, NoMemory, Refused, IsStopped, Entry, IsShare, IsShort, IsShared, IsFoundShort, HasEnded, IsStop, IsWorked, ends_of}
use Rattle.eco_workers.specs.declared.round.Round.{Round}
use Rattle.eco_workers.proofs.Gathered.{claims_more, draws_more}
use Rattle.eco_workers.proofs.Popped.{popped_count}
use Rattle.eco_workers.proofs.Logs.{fair_log}

-- a member of a list and one more is in the list, or is that one
member_push : {X : Type 0} (xs : List X) (y x : X) → Contains (xs ++ y ∷ []) x → Contains xs x ⊎ (y ≡ x)
member_push [] y x (zero, lt, is) = inr is
member_push [] y x (suc k, lt, is) = absurd (omega arith)
member_push (z ∷ xs) y x (zero, lt, is) = inl (0, omega arith, is)
member_push (z ∷ xs) y x (suc k, lt, is) =
    elim (member_push xs y x (k, omega arith, is)) [ inl h ↦ inl (suc (h.0), (let a = h.1 in omega arith), h.2) | inr e ↦ inr e ]

module _ {S : Type 0} (commands : S → List ℕ → List Command) (taken : S → List ℕ → ℕ) (pieces : List S) where
  -- however a worker ended, with its shares
  record HasShares (end : End) (seat : Seat) : Type 0 where
    pub shares : List Entry
    pub claims : claimed seat ≡ map (λ (e : Entry). e.number) shares
    pub draws : drawn seat ≡ flat_map (λ (e : Entry). e.draws) shares
    pub fair : All (λ (e : Entry). IsShare commands taken pieces e) shares
    pub out : (n : ℕ) → end ≡ Refused n NoMoreIds → (is_dry seat ≡ true) × ((e : Entry) × Contains shares e × IsShort commands taken pieces e)

  shares_of : (end : End) (seat : Seat) (pushed : List Collected) → HasEnded commands taken pieces end seat pushed → HasShares end seat
  shares_of Done seat pushed h = record {
    shares = h.log;
    claims = h.logged.claims;
    draws = h.logged.draws;
    fair = fair_log commands taken pieces h.log h.logged.good;
    out = λ n is. absurd cc;
  }
  shares_of NoMemory seat pushed h = record { shares = h.shares; claims = h.claims; draws = h.draws; fair = h.fair; out = λ n is. absurd cc }
  shares_of (Refused m refusal) seat pushed h = record { shares = h.shares; claims = h.claims; draws = h.draws; fair = h.fair; out = λ n is. h.out cc }

  pub shared_none : (seats : List Seat) → seats ≡ [] → IsShared commands taken pieces seats []
  shared_none seats s =
      record {
        fair = All-nil (λ (e : Entry). IsShare commands taken pieces e);
        claims = sym (ap (flat_map claimed) s);
        draws = sym (ap (flat_map drawn) s);
      }

  -- of the workers that are left, and of what was found of the others
  pub record IsSearched (all left : List Worked) (seats : List Seat) : Type 0 where
    pub shares : List Entry
    pub shared : IsShared commands taken pieces seats shares
    pub found : (n : ℕ) → Contains (ends_of all) (Refused n NoMoreIds)
        → Contains (ends_of left) (Refused n NoMoreIds) ⊎ IsFoundShort commands taken pieces seats shares

  pub searched_none : (all : List Worked) (seats : List Seat) → seats ≡ [] → IsSearched all all seats
  searched_none all seats s = record { shares = []; shared = shared_none seats s; found = λ n h. inl h }

  pub searched_more : (all left left' : List Worked) (seats seats' : List Seat) (w : Worked)
      → left ≡ left' ++ w ∷ [] → seats' ≡ seats ++ w.seat ∷ []
      → HasEnded commands taken pieces w.end w.seat w.pieces.items
      → IsSearched all left seats
      → IsSearched all left' seats'
  searched_more all left left' seats seats' w ws ss ended h =
      let mine = shares_of w.end w.seat w.pieces.items ended in
      let log = h.shares in
      let more = mine.shares in
      let dries = popped_count is_dry seats' seats w.seat ss in
      record {
        shares = log ++ more;
        shared = record {
          fair = All-append (λ (e : Entry). IsShare commands taken pieces e) log more h.shared.fair mine.fair;
          claims = claims_more log more seats seats' w.seat ss h.shared.claims mine.claims;
          draws = draws_more log more seats seats' w.seat ss h.shared.draws mine.draws;
        };
        found = λ n is.
            elim (h.found n is) [
              | inl at ↦
                  (let ends : ends_of left ≡ ends_of left' ++ w.end ∷ [] = ap ends_of ws ∙ map_push (λ (w : Worked). w.end) left' w in
                  let at' : Contains (ends_of left' ++ w.end ∷ []) (Refused n NoMoreIds) = subst
                  (λ (l : List End). Contains l (Refused n NoMoreIds)) ends at in
                  elim (member_push (ends_of left') w.end (Refused n NoMoreIds) at') [
                    | inl still ↦ inl still
                    | inr here ↦
                        (let o = mine.out n here in
                        let weight : Bool → ℕ = λ b. cond b 1 0 in let one = ap weight o.0 in
                        inr (omega (arith, dries, one), (o.1.0, Contains-append_right log more o.1.0 o.1.1, o.1.2)))
                  ])
              | inr before ↦ inr (
                (let d = before.0 in omega (arith, dries, d)),
                (before.1.0, Contains-append_left log more before.1.0 before.1.1, before.1.2),
              )
            ];
      }

  pub searched_all : (all : List Worked) (seats : List Seat) (h : IsSearched all [] seats) (n : ℕ) → Contains (ends_of all) (Refused n NoMoreIds)
      → IsFoundShort commands taken pieces seats h.shares
  searched_all all seats h n at = elim (h.found n at) [ inl none ↦ absurd (let k = none.1 in omega arith) | inr found ↦ found ]

-- of workers who all keep P, that one who ended so keeps P
ended_so : (P : Worked → Type 0) (worked : List Worked) (end : End) → All P worked → Contains (ends_of worked) end
    → (w : Worked) × P w × (w.end ≡ end)
ended_so P [] end all (k, lt, is) = absurd (omega arith)
ended_so P (w ∷ ws) end all (zero, lt, is) = (w, All-head P w ws all, is)
ended_so P (w ∷ ws) end all (suc k, lt, is) = ended_so P ws end (All-tail P w ws all) (k, omega arith, is)

-- a batch stops for want of an index or of memory
pub stop_for_want : {S : Type 0} (commands : S → List ℕ → List Command) (taken : S → List ℕ → ℕ) (pieces : List S) (round : Round)
    (worked : List Worked) (refusal : Refusal) → All (IsWorked commands taken pieces round) worked → IsStop worked refusal → IsStopped refusal
stop_for_want commands taken pieces round worked refusal all stop =
    elim stop [
      | inl h ↦
          (let found = ended_so (IsWorked commands taken pieces round) worked (Refused h.number refusal) all h.here in
          let w = found.0 in
          let H : End → Type 0 = λ (d : End). HasEnded commands taken pieces d w.seat w.pieces.items in
          (subst H found.2 found.1.1).why)
      | inr h ↦ inr h.refusal_is
    ]

-- a batch that stops for want of an index has a worker that was refused one
pub out_found : (worked : List Worked) (refusal : Refusal) → refusal ≡ NoMoreIds → IsStop worked refusal → (n : ℕ)
    × Contains (ends_of worked) (Refused n NoMoreIds)
out_found worked refusal is stop =
    elim stop [
      | inl h ↦ (h.number, subst (λ (r : Refusal). Contains (ends_of worked) (Refused h.number r)) is h.here)
      | inr h ↦ absurd (let e = h.refusal_is in cc)
    ]
