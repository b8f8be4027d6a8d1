-- What workers answer for chunks of pieces they answer for the pieces.
use Rattle.eco_frame.proofs.Common.{◌≡◌, ◌==◌, ℕ, zero, suc, ◌+◌, ◌<◌, ◌≤◌, Bool, true, false, List, [], ◌∷◌, ◌++◌, Some, drop, length, take}
use Rattle.eco_frame.proofs.Common.{flat_map, get_or, slice_get, if◌then◌else◌, ltb, refl, sym, ap, ◌∙◌, subst, inl, inr, map, eq-eqb, true≢false}
use Rattle.eco_frame.proofs.Common.{arith, length-append, length-drop, length-take-le, nil_from_length, take-append-drop, take_all}
use Rattle.eco_frame.proofs.Common.{All, AllZip, concat, Command, Entity, AreStages, IsBatch, IsOut, all_commands, by_index, fresh}
use Rattle.std.specs.Prelude.{◌⊎◌}
use Rattle.std.proofs.Common.{eqb-true, ltb-false, ltb-true}
use Rattle.std.proofs.lemmas.Grind.{flat_map-append}
use Rattle.std.proofs.lemmas.List.{drop-map, take-map}
use Rattle.std.proofs.lemmas.List.Elements.{All-append, All-head, All-tail}
use Rattle.std.proofs.lemmas.List.Folds.{concat-append}
use Rattle.std.proofs.lemmas.Option.{none-some, same_Some}
use Rattle.eco_tickets.specs.Counting.{ascends, times}
use Rattle.eco_frame.specs.Chunks.{chunk_commands, chunk_taken}
use Rattle.eco_frame.proofs.Fresh.{parts_up}

module _ {S : Type 0} (commands : S → List Entity → List Command) (taken : S → List Entity → ℕ) where
  -- how many a piece takes of fresh handles of these indices
  abbrev takes : S → List ℕ → ℕ
  takes = by_index taken

  abbrev Stages : List S → List (List ℕ) → List (List Command) → Type 0
  Stages = AreStages (by_index commands) takes

  -- a piece takes at least its share
  abbrev Shares : List S → List (List ℕ) → Type 0
  Shares = AllZip (λ (p : S) (d : List ℕ). length d ≤ takes p d)

  -- and one takes more
  abbrev SomeShort : List S → List (List ℕ) → Type 0
  SomeShort (p ∷ ps) (d ∷ ds) = (length d < takes p d) ⊎ SomeShort ps ds
  SomeShort _ _ = ⊥

  -- ---- one chunk

  module _ (p : S) (d : List ℕ) where
    -- how many its first piece takes where all the chunk's draws are there, and its own
    abbrev count : ℕ
    count = takes p d

    abbrev own : List ℕ
    own = take count d

    own_fresh : take count (map fresh d) ≡ map fresh own
    own_fresh = take-map fresh count d

    rest_fresh : drop count (map fresh d) ≡ map fresh (drop count d)
    rest_fresh = drop-map fresh count d

    -- it takes all of them only where its own are all there are
    too_many : (takes p own == count) ≡ false → length d ≤ count → ⊥
    too_many other past =
        true≢false (sym (eq-eqb (takes p own) count (ap (takes p) (take_all count d past))) ∙ other)

  abbrev Parted : List S → List ℕ → List Command → Type 0
  Parted ps d stage =
      (ds : List (List ℕ)) × (ss : List (List Command)) × Stages ps ds ss × (concat ds ≡ d) × (all_commands ss ≡ stage)

  -- a chunk's stage is that of each of its pieces, one behind the other
  parted : (ps : List S) (d : List ℕ) (stage : List Command) → chunk_taken taken ps (map fresh d) ≡ length d
      → stage ≡ chunk_commands taken commands ps (map fresh d) → Parted ps d stage
  parted [] d stage t c = ([], [], tt, sym (nil_from_length d (sym t)), sym c)
  parted (p ∷ ps) d stage t c = go (takes p (own p d) == n) refl
      (sym (ap (λ (l : List Entity). n + (if taken p l == n then chunk_taken taken ps (drop n (map fresh d)) else 0)) (own_fresh p d)) ∙ t)
      (λ just. parted ps left (chunk_commands taken commands ps (map fresh left)) just refl)
    where
      n : ℕ
      n = takes p d

      left : List ℕ
      left = drop n d

      go : (b : Bool) → (takes p (own p d) == n) ≡ b → n + (if b then chunk_taken taken ps (drop n (map fresh d)) else 0) ≡ length d
          → (chunk_taken taken ps (map fresh left) ≡ length left → Parted ps left (chunk_commands taken commands ps (map fresh left)))
          → Parted (p ∷ ps) d stage
      go false other less again = absurd (too_many p d other (omega (arith, less)))
      go true same whole again =
          let len : length (own p d) ≡ n = length-take-le n d (omega (arith, whole)) in
          let count_left = length-drop n d in
          let rest = ap (chunk_taken taken ps) (sym (rest_fresh p d)) in
          let others = again (omega (arith, rest, whole, count_left)) in (
            own p d ∷ others.0,
            commands p (map fresh (own p d)) ∷ others.1,
            ((eqb-true (takes p (own p d)) n same ∙ sym len, refl), others.2),
            ap (λ l. own p d ++ l) others.3 ∙ take-append-drop n d,
            ap (λ l. commands p (map fresh (own p d)) ++ l) others.4
                ∙ sym (c ∙ (λ i. commands p (own_fresh p d i) ++ chunk_commands taken commands ps (rest_fresh p d i))),
          )

  abbrev Shared : List S → List ℕ → Type 0
  Shared ps d =
      (ds : List (List ℕ)) × Shares ps ds × (concat ds ≡ d) × (length d < chunk_taken taken ps (map fresh d) → SomeShort ps ds)

  -- a piece takes more than its share, or else one behind it does
  short_first : (p : S) (ps : List S) (d : List ℕ) (ds : List (List ℕ)) (n : ℕ) → takes p d ≡ n → (n ≤ length d → SomeShort ps ds)
      → SomeShort (p ∷ ps) (d ∷ ds)
  short_first p ps d ds n mine rest = go (ltb (length d) n) refl
    where
      go : (b : Bool) → ltb (length d) n ≡ b → SomeShort (p ∷ ps) (d ∷ ds)
      go true low = inl (let l = ltb-true (length d) n low in omega (arith, l, mine))
      go false high = inr (rest (ltb-false (length d) n high))

  -- what a chunk takes at least is shared out among its pieces
  shared : (ps : List S) (d : List ℕ) → length d ≤ chunk_taken taken ps (map fresh d) → Shared ps d
  shared [] d t = ([], tt, sym (nil_from_length d (omega (arith, t))), λ less. absurd (omega (arith, less)))
  shared (p ∷ ps) d t = go (takes p (own p d) == n) refl
      (ap (λ (l : List Entity). n + (if taken p l == n then chunk_taken taken ps (drop n (map fresh d)) else 0)) (own_fresh p d))
      (shared ps (drop n d))
    where
      n : ℕ
      n = takes p d

      go : (b : Bool) → (takes p (own p d) == n) ≡ b
          → chunk_taken taken (p ∷ ps) (map fresh d) ≡ n + (if b then chunk_taken taken ps (drop n (map fresh d)) else 0)
          → (length (drop n d) ≤ chunk_taken taken ps (map fresh (drop n d)) → Shared ps (drop n d)) → Shared (p ∷ ps) d
      go false other is again = absurd (too_many p d other (omega (arith, is, t)))
      go true same is again =
          let all = ap length (take-append-drop n d) in
          let both = length-append (own p d) (drop n d) in
          let left = length-drop n d in
          let rest = ap (chunk_taken taken ps) (sym (rest_fresh p d)) in
          let mine = eqb-true (takes p (own p d)) n same in
          let others = again (omega (arith, is, t, rest, left)) in (
            own p d ∷ others.0,
            (omega (arith, mine, all, both, left), others.1),
            ap (λ l. own p d ++ l) others.2 ∙ take-append-drop n d,
            λ less. short_first p ps (own p d) others.0 n mine (λ full. others.3 (omega (arith, less, is, rest, left, full, all, both))),
          )

  -- ---- all chunks

  stages_append : (xs ys : List S) (a c : List (List ℕ)) (b d : List (List Command)) → Stages xs a b → Stages ys c d
      → Stages (xs ++ ys) (a ++ c) (b ++ d)
  stages_append [] ys [] c [] d h k = k
  stages_append (x ∷ xs) ys (u ∷ a) c (v ∷ b) d h k = (h.0, stages_append xs ys a c b d h.1 k)
  stages_append _ ys _ c _ d h k = absurd h

  shares_append : (xs ys : List S) (a c : List (List ℕ)) → Shares xs a → Shares ys c → Shares (xs ++ ys) (a ++ c)
  shares_append [] ys [] c h k = k
  shares_append (x ∷ xs) ys (u ∷ a) c h k = (h.0, shares_append xs ys a c h.1 k)
  shares_append _ ys _ c h k = absurd h

  short_front : (xs ys : List S) (a c : List (List ℕ)) → SomeShort xs a → SomeShort (xs ++ ys) (a ++ c)
  short_front (x ∷ xs) ys (u ∷ a) c (inl h) = inl h
  short_front (x ∷ xs) ys (u ∷ a) c (inr h) = inr (short_front xs ys a c h)
  short_front _ ys _ c h = absurd h

  short_back : (xs ys : List S) (a c : List (List ℕ)) → Shares xs a → SomeShort ys c → SomeShort (xs ++ ys) (a ++ c)
  short_back [] ys [] c h k = k
  short_back (x ∷ xs) ys (u ∷ a) c h k = inr (short_back xs ys a c h.1 k)
  short_back _ ys _ c h k = absurd h

  abbrev Up : List ℕ → Type 0
  Up d = ascends d ≡ true

  module _ {Q : Type 0} (see : Q → List S) where
    abbrev AllParted : List Q → List (List ℕ) → List (List Command) → Type 0
    AllParted qs ds ss =
        (own : List (List ℕ)) × (stages : List (List Command)) × Stages (flat_map see qs) own stages × (concat own ≡ concat ds)
        × (all_commands stages ≡ all_commands ss) × All Up own

    all_parted : (qs : List Q) (ds : List (List ℕ)) (ss : List (List Command))
        → AreStages (by_index (λ q. chunk_commands taken commands (see q))) (by_index (λ q. chunk_taken taken (see q))) qs ds ss → All Up ds
        → AllParted qs ds ss
    all_parted [] [] [] h up = ([], [], tt, refl, refl, up)
    all_parted (q ∷ qs) (d ∷ ds) (s ∷ ss) h up =
        let one = parted (see q) d s h.0.0 h.0.1 in
        let rest = all_parted qs ds ss h.1 (All-tail Up d ds up) in (
          one.0 ++ rest.0,
          one.1 ++ rest.1,
          stages_append (see q) (flat_map see qs) one.0 rest.0 one.1 rest.1 one.2 rest.2,
          concat-append one.0 rest.0 ∙ (λ i. one.3 i ++ rest.3 i),
          flat_map-append (λ s. s) one.1 rest.1 ∙ (λ i. one.4 i ++ rest.4 i),
          All-append Up one.0 rest.0 (parts_up one.0 (ap ascends one.3 ∙ All-head Up d ds up)) rest.5,
        )
    all_parted _ _ _ h up = absurd h

    -- there are stages of the pieces with the same commands
    pub as_pieces : (workers base n : ℕ) (pieces : List S) (chunks : List Q) (stages : List (List Command)) → flat_map see chunks ≡ pieces
        → IsBatch (by_index (λ q. chunk_commands taken commands (see q))) (by_index (λ q. chunk_taken taken (see q))) workers chunks base n stages
        → (each : List (List Command)) × IsBatch (by_index commands) takes workers pieces base n each × (all_commands stages ≡ all_commands each)
    as_pieces workers base n pieces chunks stages are b =
        let h = all_parted chunks b.draws stages b.recorded b.ascend in (
          h.1,
          record {
            draws = h.0;
            recorded = subst (λ ps. Stages ps h.0 h.1) are h.2;
            ascend = h.5;
            each = λ x. ap (times x) h.3 ∙ b.each x;
            alone = λ one. ap ascends h.3 ∙ b.alone one;
          },
          sym h.4,
        )

    abbrev AllShared : List Q → List (List ℕ) → Type 0
    AllShared qs ds =
        (own : List (List ℕ)) × Shares (flat_map see qs) own × (concat own ≡ concat ds)
        × ((k : ℕ) (q : Q) → slice_get qs k ≡ Some q → length (get_or ds k []) < chunk_taken taken (see q) (map fresh (get_or ds k []))
        → SomeShort (flat_map see qs) own)

    all_shared : (qs : List Q) (ds : List (List ℕ)) → AllZip (λ q d. length d ≤ by_index (λ q. chunk_taken taken (see q)) q d) qs ds → AllShared qs ds
    all_shared [] [] h = ([], tt, refl, λ k q at less. absurd (none-some q at))
    all_shared (q ∷ qs) (d ∷ ds) h =
        let one = shared (see q) d h.0 in
        let rest = all_shared qs ds h.1 in (
          one.0 ++ rest.0,
          shares_append (see q) (flat_map see qs) one.0 rest.0 one.1 rest.1,
          concat-append one.0 rest.0 ∙ (λ i. one.2 i ++ rest.2 i),
          short one rest,
        )
      where
        short : (one : Shared (see q) d) (rest : AllShared qs ds) (k : ℕ) (r : Q) → slice_get (q ∷ qs) k ≡ Some r
            → length (get_or (d ∷ ds) k []) < chunk_taken taken (see r) (map fresh (get_or (d ∷ ds) k []))
            → SomeShort (see q ++ flat_map see qs) (one.0 ++ rest.0)
        short one rest zero r at less =
            short_front (see q) (flat_map see qs) one.0 rest.0
            (one.3 (subst (λ x. length d < chunk_taken taken (see x) (map fresh d)) (sym (same_Some q r at)) less))
        short one rest (suc k) r at less = short_back (see q) (flat_map see qs) one.0 rest.0 one.1 (rest.3 k r at less)
    all_shared _ _ h = absurd h

    at_place : (ps : List S) (ds : List (List ℕ)) → SomeShort ps ds
        → (k : ℕ) × (p : S) × (slice_get ps k ≡ Some p) × (length (get_or ds k []) < takes p (get_or ds k []))
    at_place (p ∷ ps) (d ∷ ds) (inl h) = (0, p, refl, h)
    at_place (p ∷ ps) (d ∷ ds) (inr h) = let r = at_place ps ds h in (suc r.0, r.1, r.2, r.3)
    at_place _ _ h = absurd h

    -- where chunks take more than there is, their pieces do
    pub pieces_out : (base limit : ℕ) (pieces : List S) (chunks : List Q) → flat_map see chunks ≡ pieces
        → IsOut (by_index (λ q. chunk_commands taken commands (see q))) (by_index (λ q. chunk_taken taken (see q))) chunks base limit
        → IsOut (by_index commands) takes pieces base limit
    pieces_out base limit pieces chunks are b =
        let h = all_shared chunks b.draws b.shares in
        let short = subst (λ ps. SomeShort ps h.0) are (h.3 b.short.0 b.short.1 b.short.2 b.short.3) in
        record {
          draws = h.0;
          shares = subst (λ ps. Shares ps h.0) are h.1;
          each = λ x. ap (times x) h.2 ∙ b.each x;
          short = at_place pieces h.0 short;
        }
