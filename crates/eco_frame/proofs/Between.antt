-- The rows of a piece, by their places among all, and what those before a place took.
use Rattle.eco_frame.proofs.Common.{◌≡◌, ◌+◌, ◌-◌, ◌<◌, ◌≤◌, ◌++◌, ℕ, Bool, List, [], Some, drop, get_or, length, slice_get}
use Rattle.eco_frame.proofs.Common.{take, ap, refl}
use Rattle.eco_frame.proofs.Common.{sym, subst, ◌∙◌, arith, append-nil, get_or-drop, get_or-take, length-drop, length-take-le}
use Rattle.eco_frame.proofs.Common.{get_or_from_slice_get, slice_get-get_or, take_all, Entity, Command, AllTook, taken_of}
use Rattle.eco_frame.proofs.Common.{append_assoc, drop-drop, take-append-drop}
use Rattle.std.proofs.lemmas.List.{drop-take, take-take}
use Rattle.eco_bodies.proofs.Taken.{broke_among, took_append}
use Rattle.eco_bodies.specs.Taking.{BreaksAll, OneTook, TakesNext}
use Rattle.eco_stages.specs.Taking.{Broke}

-- each has at a place what all have there
row_at : {X : Type 0} (rows : List X) (first place end : ℕ) (row : X) → first ≤ place → place < end → end ≤ length rows
    → slice_get rows place ≡ Some row → slice_get (take (end - first) (drop first rows)) (place - first) ≡ Some row
row_at rows first place end row low below most at =
    let piece = take (end - first) (drop first rows) in
    let dropped = length-drop first rows in
    let enough : end - first ≤ length (drop first rows) = omega (arith, low, below, most, dropped) in
    let len = length-take-le (end - first) (drop first rows) enough in
    let there : place - first < length piece = omega (arith, low, below, len) in
    let same : first + (place - first) ≡ place = omega (arith, low) in
    let less : place - first < end - first = omega (arith, low, below) in
    slice_get-get_or piece (place - first) row there
    ∙ ap (λ x. Some x) (get_or-take (end - first) (drop first rows) (place - first) row less ∙ get_or-drop first rows (place - first) row
    ∙ ap (λ n. get_or rows n row) same ∙ get_or_from_slice_get rows place row row at)

-- there are no others
no_more : {X : Type 0} (rows : List X) (first end : ℕ) → first ≤ end → end ≤ length rows
    → length (take (end - first) (drop first rows)) ≤ end - first
no_more rows first end rises most =
    let dropped = length-drop first rows in
    let enough : end - first ≤ length (drop first rows) = omega (arith, rises, most, dropped) in
    let len = length-take-le (end - first) (drop first rows) enough in
    omega (arith, len)

-- so many and some more
pub take_both : {X : Type 0} (n m : ℕ) (xs : List X) → take (n + m) xs ≡ take n xs ++ take m (drop n xs)
take_both n m xs =
    let back = take-append-drop n (take (n + m) xs) in
    let few : n ≤ n + m = omega arith in
    sym back ∙ ap (λ l. l ++ drop n (take (n + m) xs)) (take-take n (n + m) xs few) ∙ ap (λ l. take n xs ++ l) (drop-take n m xs)

-- ---- what they take

module _ {X : Type 0} (commands : X → List Entity → List Command) (taken : X → List Entity → ℕ) (all : List X) (first end : ℕ) where
  abbrev rows : List X
  rows = take (end - first) (drop first all)

  -- those before the place took their handles
  abbrev pub TookUntil : ℕ → List Entity → List Entity → List Command → List Command → Type 0
  TookUntil place = AllTook commands taken (take (place - first) rows)

  pub took_none : (before : List Entity) (stage : List Command) → TookUntil first before before stage stage
  took_none before stage =
      let none : first - first ≡ 0 = omega arith in
      subst (λ (n : ℕ). AllTook commands taken (take n rows) before before stage stage) (sym none)
      ([], sym (append-nil before), λ later. (refl, sym (append-nil stage)))

  module _ (place : ℕ) {row : X} (before : List Entity) {between : List Entity} (stage : List Command) {stage' : List Command}
      (low : first ≤ place) (below : place < end) (most : end ≤ length all) (at : slice_get all place ≡ Some row)
      (took : TookUntil place before between stage stage') where
    pub took_more : ((xs : List X) → TakesNext commands taken xs) → {after : List Entity} {stage'' : List Command}
        → OneTook commands taken row between after stage' stage'' → TookUntil (place + 1) before after stage stage''
    took_more next {after = after} {stage'' = stage''} one =
        let step : (place + 1) - first ≡ (place - first) + 1 = omega (arith, low) in
        subst (λ (n : ℕ). AllTook commands taken (take n rows) before after stage stage'') (sym step)
        (next rows (place - first) row before between after stage stage' stage'' (row_at all first place end row low below most at) took one)

    pub stopped : ((xs : List X) → BreaksAll commands taken xs) → {after : List Entity} {dry : Bool} → Broke (taken row) between after dry
        → Broke (taken_of taken rows) before after dry
    stopped breaks {after = after} {dry = dry} broke =
        breaks rows (place - first) row before between after stage stage' dry (row_at all first place end row low below most at) took broke

  -- rows that follow one another from the place on, behind those before it
  run_behind : (place count : ℕ) → first ≤ place → place + count ≤ end
      → take ((place + count) - first) rows ≡ take (place - first) rows ++ take count (drop place all)
  run_behind place count low high =
      let a = place - first in
      let behind : (place + count) - first ≡ a + count = omega (arith, low) in
      let split : end - first ≡ a + (end - place) = omega (arith, low, high) in
      let same : first + a ≡ place = omega (arith, low) in
      let less : count ≤ end - place = omega (arith, high) in
      let left : drop a rows ≡ take (end - place) (drop place all) =
      ap (λ n. drop a (take n (drop first all))) split ∙ drop-take a (end - place) (drop first all)
      ∙ ap (take (end - place)) (drop-drop a first all ∙ ap (λ n. drop n all) same) in
      ap (λ n. take n rows) behind ∙ take_both a count rows
      ∙ ap (λ l. take a rows ++ l) (ap (take count) left ∙ take-take count (end - place) (drop place all) less)

  module _ (place count : ℕ) (before : List Entity) {between : List Entity} (stage : List Command) {stage' : List Command}
      (low : first ≤ place) (high : place + count ≤ end) (took : TookUntil place before between stage stage') where
    pub took_run : {after : List Entity} {stage'' : List Command} → AllTook commands taken (take count (drop place all)) between after stage' stage''
        → TookUntil (place + count) before after stage stage''
    took_run {after = after} {stage'' = stage''} run =
        subst (λ xs. AllTook commands taken xs before after stage stage'') (sym (run_behind place count low high))
        (took_append commands taken (take (place - first) rows) (take count (drop place all)) before between after stage stage' stage'' took run)

    pub run_stopped : {after : List Entity} {dry : Bool} → Broke (taken_of taken (take count (drop place all))) between after dry
        → Broke (taken_of taken rows) before after dry
    run_stopped {after = after} {dry = dry} broke =
        let run = take count (drop place all) in
        let upto = (place + count) - first in
        let rest = drop upto rows in
        let split : take (place - first) rows ++ (run ++ rest) ≡ rows =
        sym (append_assoc (take (place - first) rows) run rest) ∙ ap (λ l. l ++ rest) (sym (run_behind place count low high))
        ∙ take-append-drop upto rows in
        subst (λ (xs : List X). Broke (taken_of taken xs) before after dry) split
        (broke_among commands taken (take (place - first) rows) run rest before between after stage stage' dry took broke)

  pub took_all : (place : ℕ) (before : List Entity) {after : List Entity} (stage : List Command) {stage' : List Command}
      → first ≤ end → end ≤ length all → end ≤ place → TookUntil place before after stage stage'
      → AllTook commands taken rows before after stage stage'
  took_all place before {after = after} stage {stage' = stage'} rises most past took =
      let few = no_more all first end rises most in
      let enough : length rows ≤ place - first = omega (arith, past, few) in
      subst (λ xs. AllTook commands taken xs before after stage stage') (take_all (place - first) rows enough) took
