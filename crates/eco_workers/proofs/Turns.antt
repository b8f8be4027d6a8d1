-- Pieces that one worker records in turn.
use Rattle.eco_workers.proofs.Common.{◌≡◌, ℕ, ◌+◌, ◌-◌, ◌<◌, ◌≤◌, List, [], ◌∷◌, ◌++◌, drop, get_or, length, map, refl, sym}
use Rattle.eco_workers.proofs.Common.{take, ap, ◌∙◌, subst, arith, AllZip, concat, range_with_len, flat_map-append, append-nil, drop_more, length-take-le}
use Rattle.eco_workers.proofs.Common.{take-append-drop, take_more, map-range_with_len_more, slice_get_read, Refusal, NoMoreIds, Command, IsInTurn, IsOutInTurn}
use Rattle.eco_workers.proofs.Common.{all_of, AreStages, IsStage, Broke, Took, by_index, fresh, stopped_by}
use Rattle.std.proofs.Math.Seq.{get_or-append_seam}
use Rattle.std.proofs.lemmas.List.Folds.{concat-append}
use Rattle.eco_ids.specs.declared.entity.Entity.{Entity}
use Rattle.eco_workers.specs.declared.counter.Counter.{Counter}
use Rattle.eco_workers.proofs.Drawn.{broke_indices, took_behind}

pub drawn_more : (base next : ℕ) → base ≤ next
    → map fresh (range_with_len base (next + 1 - base)) ≡ map fresh (range_with_len base (next - base)) ++ fresh next ∷ []
drawn_more base next low =
    let one : next + 1 - base ≡ (next - base) + 1 = omega (arith, low) in
    ap (λ n. map fresh (range_with_len base n)) one ∙ map-range_with_len_more fresh base (next - base) next (omega (arith, low))

concat_push : (xss : List (List ℕ)) (xs : List ℕ) → concat (xss ++ xs ∷ []) ≡ concat xss ++ xs
concat_push xss xs = concat-append xss (xs ∷ []) ∙ ap (λ l. concat xss ++ l) (append-nil xs)

all_push : (stages : List (List Command)) (stage : List Command) → all_of (stages ++ stage ∷ []) ≡ all_of stages ++ stage
all_push stages stage = flat_map-append (λ s. s) stages (stage ∷ []) ∙ ap (λ l. all_of stages ++ l) (append-nil stage)

module _ {S : Type 0} (commands : S → List ℕ → List Command) (taken : S → List ℕ → ℕ) where
  stages_push : (ps : List S) (ds : List (List ℕ)) (ss : List (List Command)) (p : S) (d : List ℕ) (s : List Command)
      → AreStages commands taken ps ds ss → IsStage commands taken p d s → AreStages commands taken (ps ++ p ∷ []) (ds ++ d ∷ []) (ss ++ s ∷ [])
  stages_push [] [] [] p d s h one = (one, tt)
  stages_push (q ∷ ps) (y ∷ ds) (x ∷ ss) p d s h one = (h.0, stages_push ps ds ss p d s h.1 one)
  stages_push _ _ _ p d s h one = absurd h

  abbrev Takes : S → List ℕ → Type 0
  Takes piece d = length d ≤ taken piece d

  -- the first pieces take what they drew, one takes at least its own, and those behind it drew nothing
  shared : (ps : List S) (ds : List (List ℕ)) (ss : List (List Command)) (p : S) (d : List ℕ) (rest : List S) → AreStages commands taken ps ds ss
      → Takes p d → AllZip Takes (ps ++ p ∷ rest) (ds ++ d ∷ map (λ q. []) rest) × (length ds ≡ length ps)
  shared [] [] [] p d rest h one = ((one, none rest), refl)
    where
      none : (rest : List S) → AllZip Takes rest (map (λ q. []) rest)
      none [] = tt
      none (q ∷ rest) = (omega arith, none rest)
  shared (q ∷ ps) (y ∷ ds) (x ∷ ss) p d rest h one =
      let r = shared ps ds ss p d rest h.1 one in
      let e = h.0.0 in
      let long = r.1 in
      ((omega (arith, e), r.0), omega (arith, long))
  shared _ _ _ p d rest h one = absurd h

  nothing : (rest : List S) → concat (map (λ q. []) rest) ≡ []
  nothing [] = refl
  nothing (q ∷ rest) = nothing rest

module _ {S : Type 0} (commands : S → List Entity → List Command) (taken : S → List Entity → ℕ) where
  abbrev InTurn : List S → ℕ → ℕ → List Command → Type 0
  InTurn = IsInTurn (by_index commands) (by_index taken)

  -- what a counter has given out
  abbrev given : Counter → List Entity
  given c = map fresh (range_with_len c.base (c.next - c.base))

  pub turn_none : (base n : ℕ) (stage : List Command) → n ≡ 0 → stage ≡ [] → InTurn [] base n stage
  turn_none base n stage none empty = record { draws = []; stages = []; recorded = tt; in_turn = ap (range_with_len base) (sym none); whole = empty }

  -- one piece more
  pub turn_more : (pieces : List S) (k : ℕ) (p : S) (c c' : Counter) (stage stage' : List Command) → k < length pieces
      → p ≡ get_or pieces k p → c'.base ≡ c.base
      → InTurn (take k pieces) c.base (c.next - c.base) stage
      → Took (commands p) (taken p) (given c) (given c') stage stage'
      → InTurn (take (k + 1) pieces) c'.base (c'.next - c'.base) stage'
  turn_more pieces k p c c' stage stage' below is same h t =
      let before = range_with_len c.base (c.next - c.base) in
      let after = range_with_len c'.base (c'.next - c'.base) in
      let b = took_behind before after (commands p) (taken p) stage stage' t in
      let own = by_index commands p b.0 in
      record {
        draws = h.draws ++ b.0 ∷ [];
        stages = h.stages ++ own ∷ [];
        recorded = subst (λ ps. AreStages (by_index commands) (by_index taken) ps (h.draws ++ b.0 ∷ []) (h.stages ++ own ∷ []))
            (ap (λ q. take k pieces ++ q ∷ []) is ∙ sym (take_more pieces k p below))
            (stages_push (by_index commands) (by_index taken) (take k pieces) h.draws h.stages p b.0 own h.recorded (b.2.0, refl));
        in_turn = concat_push h.draws b.0 ∙ ap (λ l. l ++ b.0) h.in_turn ∙ sym b.1;
        whole = b.2.1 ∙ ap (λ l. l ++ own) h.whole ∙ sym (all_push h.stages own);
      }

  -- a piece took more than there was
  pub turn_out : (pieces : List S) (k : ℕ) (p : S) (c c' : Counter) (base limit : ℕ) (stage : List Command) (refusal : Refusal) → k < length pieces
      → p ≡ get_or pieces k p → c'.base ≡ base → c'.limit ≡ limit → InTurn (take k pieces) c.base (c.next - c.base) stage
      → Broke (taken p) (given c) (given c') c'.dry → refusal ≡ stopped_by c'.dry → refusal ≡ NoMoreIds
      → IsOutInTurn (by_index commands) (by_index taken) pieces base limit
  turn_out pieces k p c c' base limit stage refusal below is first end h broke why no_more =
      let rest = drop (k + 1) pieces in
      let before = range_with_len c.base (c.next - c.base) in
      let after = range_with_len c'.base (c'.next - c'.base) in
      let b = broke_indices before after (taken p) c'.dry refusal why broke in
      let more = b.3 no_more in
      let last = c'.last more.0 in
      let draws = h.draws ++ b.0 ∷ map (λ q. []) rest in
      let split : take k pieces ++ p ∷ rest ≡ pieces = (λ i. take k pieces ++ is i ∷ rest)
      ∙ sym (ap (λ l. take k pieces ++ l) (drop_more pieces k p below)) ∙ take-append-drop k pieces in
      let parts = shared (by_index commands) (by_index taken) (take k pieces) h.draws h.stages p b.0 rest h.recorded b.2 in
      let long : length h.draws ≡ k = parts.1 ∙ length-take-le k pieces (omega (arith, below)) in
      let mine : get_or draws k [] ≡ b.0 = ap (λ m. get_or draws m []) (sym long) ∙ get_or-append_seam h.draws b.0 (map (λ q. []) rest) [] in
      record {
        draws = draws;
        shares = subst (λ ps. AllZip (λ q e. length e ≤ by_index taken q e) ps draws) split parts.0;
        in_turn = concat-append h.draws (b.0 ∷ map (λ q. []) rest)
            ∙ ap (λ l. concat h.draws ++ (b.0 ++ l)) (nothing (by_index commands) (by_index taken) rest)
            ∙ ap (λ l. concat h.draws ++ l) (append-nil b.0) ∙ ap (λ l. l ++ b.0) h.in_turn ∙ sym b.1
            ∙ (λ i. range_with_len (first i) ((last ∙ end) i - first i));
        short = (
          k,
          p,
          slice_get_read pieces (length pieces) k p refl below is,
          subst (λ e. length e < by_index taken p e) (sym mine) more.1,
        );
      }
