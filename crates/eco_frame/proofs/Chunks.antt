-- Pieces that are recorded in turn, each with its own draws.
use Rattle.eco_frame.proofs.Common.{◌≡◌, ◌==◌, ℕ, ◌+◌, ◌<◌, ◌≤◌, Bool, true, List, [], ◌∷◌, ◌++◌, drop, length, take, if◌then◌else◌, refl, sym, ap, ◌∙◌}
use Rattle.eco_frame.proofs.Common.{subst, append_assoc, append-nil, arith, eq-eqb, get_or, length-append, take-append-drop, take_all, take_more}
use Rattle.eco_frame.proofs.Common.{Command, Entity}
use Rattle.std.proofs.lemmas.List.{drop_at, drop_more, take_at}
use Rattle.eco_stages.specs.Taking.{Broke, Took}
use Rattle.eco_systems.specs.Batches.{joined}
use Rattle.eco_frame.specs.Chunks.{chunk_commands, chunk_taken}
use Rattle.eco_frame.proofs.Turns.{joined_append}

module _ {S : Type 0} (commands : S → List Entity → List Command) (taken : S → List Entity → ℕ) where
  -- each takes just these draws, whatever there is to draw behind them
  abbrev TakeOwn : List S → List (List Entity) → Type 0
  TakeOwn [] [] = Unit {0}
  TakeOwn (p ∷ ps) (m ∷ ms) = ((later : List Entity) → taken p (m ++ later) ≡ length m) × TakeOwn ps ms
  TakeOwn _ _ = ⊥

  -- what they record with these
  abbrev own_commands : List S → List (List Entity) → List Command
  own_commands (p ∷ ps) (m ∷ ms) = commands p m ++ own_commands ps ms
  own_commands _ _ = []

  -- so they have recorded, behind what was drawn and recorded before
  abbrev pub TookOwn : List S → List Entity → List Entity → List Command → List Command → Type 0
  TookOwn ps before after stage stage' =
      (ms : List (List Entity)) × TakeOwn ps ms × (after ≡ before ++ joined ms) × (stage' ≡ stage ++ own_commands ps ms)

  -- ---- the first of them, and those behind it

  module _ (p : S) (ps : List S) (m rest : List Entity) (own : (later : List Entity) → taken p (m ++ later) ≡ length m) where
    abbrev all : List Entity
    all = m ++ rest

    front : take (taken p all) all ≡ m
    front = ap (λ n. take n all) (own rest) ∙ take_at m rest (length m) refl

    left : drop (taken p all) all ≡ rest
    left = ap (λ n. drop n all) (own rest) ∙ drop_at m rest (length m) refl

    alone : (taken p m == length m) ≡ true
    alone = eq-eqb (taken p m) (length m) (ap (taken p) (sym (append-nil m)) ∙ own [])

    first_taken : chunk_taken taken (p ∷ ps) all ≡ length m + chunk_taken taken ps rest
    first_taken =
        (λ i. own rest i + (if taken p (front i) == own rest i then chunk_taken taken ps (left i) else 0))
        ∙ ap (λ (b : Bool). length m + (if b then chunk_taken taken ps rest else 0)) alone

    first_commands : chunk_commands taken commands (p ∷ ps) all ≡ commands p m ++ chunk_commands taken commands ps rest
    first_commands = λ i. commands p (front i) ++ chunk_commands taken commands ps (left i)

  all_taken : (ps : List S) (ms : List (List Entity)) (later : List Entity) → TakeOwn ps ms
      → chunk_taken taken ps (joined ms ++ later) ≡ length (joined ms)
  all_taken [] [] later h = refl
  all_taken [] (m ∷ ms) later h = absurd h
  all_taken (p ∷ ps) [] later h = absurd h
  all_taken (p ∷ ps) (m ∷ ms) later h =
      ap (chunk_taken taken (p ∷ ps)) (append_assoc m (joined ms) later)
      ∙ first_taken p ps m (joined ms ++ later) h.0
      ∙ ap (λ n. length m + n) (all_taken ps ms later h.1)
      ∙ sym (length-append m (joined ms))

  all_recorded : (ps : List S) (ms : List (List Entity)) (later : List Entity) → TakeOwn ps ms
      → chunk_commands taken commands ps (joined ms ++ later) ≡ own_commands ps ms
  all_recorded [] [] later h = refl
  all_recorded [] (m ∷ ms) later h = absurd h
  all_recorded (p ∷ ps) [] later h = absurd h
  all_recorded (p ∷ ps) (m ∷ ms) later h =
      ap (chunk_commands taken commands (p ∷ ps)) (append_assoc m (joined ms) later)
      ∙ first_commands p ps m (joined ms ++ later) h.0
      ∙ ap (λ l. commands p m ++ l) (all_recorded ps ms later h.1)

  -- all of them have recorded
  pub took_all : (ps : List S) (before after : List Entity) (stage stage' : List Command) → TookOwn ps before after stage stage'
      → Took (chunk_commands taken commands ps) (chunk_taken taken ps) before after stage stage'
  took_all ps before after stage stage' h = (
    joined h.0,
    h.2,
    λ later. (all_taken ps h.0 later h.1, h.3 ∙ ap (λ l. stage ++ l) (sym (all_recorded ps h.0 later h.1))),
  )

  -- ---- one more of them

  own_more : (ps : List S) (ms : List (List Entity)) (p : S) (m : List Entity) → TakeOwn ps ms → ((later : List Entity) → taken p (m ++ later) ≡ length m)
      → TakeOwn (ps ++ p ∷ []) (ms ++ m ∷ []) × (own_commands (ps ++ p ∷ []) (ms ++ m ∷ []) ≡ own_commands ps ms ++ commands p m)
  own_more [] [] p m h one = ((one, tt), append-nil (commands p m))
  own_more [] (x ∷ ms) p m h one = absurd h
  own_more (q ∷ ps) [] p m h one = absurd h
  own_more (q ∷ ps) (x ∷ ms) p m h one =
      let rest = own_more ps ms p m h.1 one in
      ((h.0, rest.0), ap (λ l. commands q x ++ l) rest.1 ∙ sym (append_assoc (commands q x) (own_commands ps ms) (commands p m)))

  pub took_none : (before : List Entity) (stage : List Command) → TookOwn [] before before stage stage
  took_none before stage = ([], tt, sym (append-nil before), sym (append-nil stage))

  module _ (ps : List S) (k : ℕ) (p : S) (here : k < length ps) (is : p ≡ get_or ps k p) (before between : List Entity) (stage stage' : List Command)
      (so_far : TookOwn (take k ps) before between stage stage') where
    pub took_more : (after : List Entity) (stage'' : List Command) → Took (commands p) (taken p) between after stage' stage''
        → TookOwn (take (k + 1) ps) before after stage stage''
    took_more after stage'' t =
        let ms = so_far.0 in
        let m = t.0 in
        let up_to : take (k + 1) ps ≡ take k ps ++ p ∷ [] = take_more ps k p here ∙ ap (λ x. take k ps ++ x ∷ []) (sym is) in
        let more = own_more (take k ps) ms p m so_far.1 (λ later. (t.2 later).0) in
        subst (λ xs. TookOwn xs before after stage stage'') (sym up_to) (
          ms ++ m ∷ [],
          more.0,
          t.1 ∙ ap (λ l. l ++ m) so_far.2 ∙ append_assoc before (joined ms) m ∙ ap (λ l. before ++ l) (sym (joined_append ms m)),
          (t.2 []).1 ∙ ap (λ d. stage' ++ commands p d) (append-nil m) ∙ ap (λ l. l ++ commands p m) so_far.3
              ∙ append_assoc stage (own_commands (take k ps) ms) (commands p m) ∙ ap (λ l. stage ++ l) (sym more.1),
        )

    least : (xs : List S) (ms : List (List Entity)) (rest : List S) (draws : List Entity) → TakeOwn xs ms
        → length (joined ms) + taken p draws ≤ chunk_taken taken (xs ++ p ∷ rest) (joined ms ++ draws)
    least [] [] rest draws h = omega arith
    least [] (m ∷ ms) rest draws h = absurd h
    least (x ∷ xs) [] rest draws h = absurd h
    least (x ∷ xs) (m ∷ ms) rest draws h =
        let more = least xs ms rest draws h.1 in
        let both = length-append m (joined ms) in
        let one = first_taken x (xs ++ p ∷ rest) m (joined ms ++ draws) h.0 in
        let same = ap (chunk_taken taken (x ∷ (xs ++ p ∷ rest))) (append_assoc m (joined ms) draws) in
        omega (arith, more, both, one, same)

    -- where one of them stopped, all did
    pub stopped : (after : List Entity) (dry : Bool) → Broke (taken p) between after dry → Broke (chunk_taken taken ps) before after dry
    stopped after dry b =
        let ms = so_far.0 in
        let mine = b.0 in
        let rest = drop (k + 1) ps in
        let split : take k ps ++ p ∷ rest ≡ ps =
        ap (λ l. take k ps ++ l) (ap (λ x. x ∷ rest) is ∙ sym (drop_more ps k p here)) ∙ take-append-drop k ps in
        let len = length-append (joined ms) mine in
        let low : (later : List Entity) → length (joined ms) + taken p (mine ++ later) ≤ chunk_taken taken ps ((joined ms ++ mine) ++ later) = λ later.
        subst (λ xs. length (joined ms) + taken p (mine ++ later) ≤ chunk_taken taken xs ((joined ms ++ mine) ++ later)) split
        (subst (λ ds. length (joined ms) + taken p (mine ++ later) ≤ chunk_taken taken (take k ps ++ p ∷ rest) ds)
        (sym (append_assoc (joined ms) mine later)) (least (take k ps) ms rest (mine ++ later) so_far.1)) in (
          joined ms ++ mine,
          b.1 ∙ ap (λ l. l ++ mine) so_far.2 ∙ append_assoc before (joined ms) mine,
          (λ later. let t = low later in let m = b.2 later in omega (arith, t, m, len)),
          (λ is later. let t = low later in let m = b.3 is later in omega (arith, t, m, len)),
        )

  pub took_whole : (ps : List S) (k : ℕ) (before after : List Entity) (stage stage' : List Command) → length ps ≤ k
      → TookOwn (take k ps) before after stage stage' → Took (chunk_commands taken commands ps) (chunk_taken taken ps) before after stage stage'
  took_whole ps k before after stage stage' past h =
      took_all ps before after stage stage' (subst (λ xs. TookOwn xs before after stage stage') (take_all k ps past) h)
