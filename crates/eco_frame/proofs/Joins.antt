-- The loop that joins systems one by one.
use Rattle.eco_frame.proofs.BatchesCommon.{◌≡◌, ℕ, ◌+◌, ◌<◌, Bool, true, false, cond, ◌&&◌, ◌||◌, List, [], ◌∷◌, ◌++◌, map, length, get_or, take, drop}
use Rattle.eco_frame.proofs.BatchesCommon.{Option, ◌≤◌, slice_get, refl, sym, ap, ◌∙◌, subst, true≢false, append_assoc, AllZip, IsTrue, None, Some, arith}
use Rattle.eco_frame.proofs.BatchesCommon.{take_all, traits_in, IsDistinct, list_any, drop_all, drop_more, map-append, map_push, take_more}
use Rattle.eco_frame.proofs.BatchesCommon.{list_any-append, Pattern, pattern_overlaps, WorldState, has_any, batched, ListsClosed, writes_trait}
use Rattle.eco_frame.proofs.BatchesCommon.{same_pattern, OutlineModel, IsOutline, clash_at, clash_of, closed_in, disturbs, kills_in, kills_too, late_at}
use Rattle.eco_frame.proofs.BatchesCommon.{reads_in, overlaps, Declared, or-false, or_assoc, ◌↔◌, same_Some, IsKnown, ListsFew, zero, suc, widened}
use Rattle.eco_frame.proofs.Brings.{closed_alone}
use Rattle.eco_frame.proofs.Once.{lists_closed, once_is_distinct}
use Rattle.eco_ids.proofs.Ascending.{both, first, second}
use Rattle.eco_ids.specs.declared.edition.Edition.{Edition}
use Rattle.eco_ids.proofs.Further.{zip_push}
use Rattle.std.proofs.lemmas.Option.{slice_get-get_or}
use Rattle.std.specs.Prelude.{IfSome, is_some}
use Rattle.std.specs.Bool.{beq}
use Rattle.eco_frame.specs.Open.{IsFresh, IsOpen, JoinsNext, JoinsOpen, stands_apart}
use Rattle.eco_frame.specs.declared.open_batch.Batch.{Batch}

-- ---- what is asked of each system of a batch, asked of all together

apart : (a b c d : Bool) → ((a || b) || (c || d)) ≡ ((a || c) || (b || d))
apart true b c d = refl
apart false true true d = refl
apart false true false d = refl
apart false false c d = refl

pub any_or : {A : Type 0} (f g : A → Bool) (xs : List A) → list_any (λ x. f x || g x) xs ≡ (list_any f xs || list_any g xs)
any_or f g [] = refl
any_or f g (x ∷ xs) = ap (λ b. (f x || g x) || b) (any_or f g xs) ∙ apart (f x) (g x) (list_any f xs) (list_any g xs)

any_always : {A : Type 0} (b : Bool) (xs : List A) → list_any (λ x. b) xs ≡ (has_any xs && b)
any_always b [] = refl
any_always b (x ∷ xs) = by b xs
  where
    by : {A : Type 0} (b : Bool) (xs : List A) → (b || list_any (λ x. b) xs) ≡ b
    by true xs = refl
    by false [] = refl
    by false (x ∷ xs) = by false xs

any_never : {A : Type 0} (xs : List A) → list_any (λ x. false) xs ≡ false
any_never [] = refl
any_never (x ∷ xs) = any_never xs

pub any_turned : {A B : Type 0} (f : A → B → Bool) (xs : List A) (ys : List B)
    → list_any (λ x. list_any (f x) ys) xs ≡ list_any (λ y. list_any (λ x. f x y) xs) ys
any_turned f [] ys = sym (any_never ys)
any_turned f (x ∷ xs) ys = ap (λ b. list_any (f x) ys || b) (any_turned f xs ys) ∙ sym (any_or (f x) (λ y. list_any (λ x. f x y) xs) ys)

-- ---- the batch that is open

module _ (os : List OutlineModel) where
  abbrev written_at : Pattern → ℕ → Bool
  written_at read s = list_any (λ p. pattern_overlaps p read) (closed_in (slice_get os s))

  -- a read is asked of all that is written
  disturbed : (test : Pattern → Bool) (places : List ℕ) → ((read : Pattern) → test read ≡ list_any (written_at read) places)
      → (reads : List Pattern)
      → list_any (λ s. disturbs (closed_in (slice_get os s)) reads) places ≡ list_any test reads
  disturbed test places is reads =
      (λ i. list_any (λ s. any_turned (λ p read. pattern_overlaps p read) (closed_in (slice_get os s)) reads i) places)
      ∙ any_turned (λ s read. written_at read s) places reads
      ∙ sym (λ i. list_any (λ read. is read i) reads)

  parts : (some k b d : Bool) → (some ≡ false → k ≡ false) → (some ≡ false → d ≡ false)
      → (some && (k || (b || d))) ≡ (k || ((some && b) || d))
  parts true k b d quiet calm = refl
  parts false k b d quiet calm = λ i. sym (quiet refl) i || sym (calm refl) i

  empty_false : (f : ℕ → Bool) (places : List ℕ) → has_any places ≡ false → list_any f places ≡ false
  empty_false f [] h = refl
  empty_false f (x ∷ xs) h = absurd (true≢false h)

  pub apart_found : (b : Batch) → IsOpen os b → (d : Option Declared) (late : Bool)
      → (has_any b.places.items && stands_apart b d late) ≡ list_any (λ s. clash_of (slice_get os s) d late) b.places.items
  apart_found b h d late =
      let places = b.places.items in
      let K : ℕ → Bool = λ s. kills_in (slice_get os s) in
      let D : ℕ → Bool = λ s. disturbs (closed_in (slice_get os s)) (reads_in d) in
      let is : list_any D places ≡ list_any (overlaps b.written) (reads_in d) = disturbed (overlaps b.written) places h.written (reads_in d) in
      (λ i. has_any places && (h.kills i || sym (or_assoc (kills_too d) late (sym is i)) i))
      ∙ parts (has_any places) (list_any K places) (kills_too d || late) (list_any D places) (empty_false K places) (empty_false D places)
      ∙ (λ i. list_any K places || (sym (any_always (kills_too d || late) places) i || list_any D places))
      ∙ (λ i. list_any K places || sym (any_or (λ s. kills_too d || late) D places) i)
      ∙ sym (any_or K (λ s. (kills_too d || late) || D s) places)
      ∙ (λ i. list_any (λ s. K s || or_assoc (kills_too d) late (D s) i) places)

  pub joins_open : (old new : Batch) (at : ℕ) (closed : List Pattern) → new.places.items ≡ old.places.items ++ at ∷ []
      → new.kills ≡ (old.kills || kills_in (slice_get os at))
      → ((read : Pattern) → overlaps new.written read ≡ (overlaps old.written read || list_any (λ p. pattern_overlaps p read) closed))
      → closed ≡ closed_in (slice_get os at) → JoinsOpen os old at new
  joins_open old new at closed places kills written own = record {
    places = places;
    stays = λ h. record {
      kills = kills ∙ (λ i. h.kills i || sym (or-false (kills_in (slice_get os at))) i)
          ∙ sym (list_any-append (λ k. kills_in (slice_get os k)) old.places.items (at ∷ []))
          ∙ sym (ap (list_any (λ k. kills_in (slice_get os k))) places);
      written = λ read. written read
          ∙ (λ i. h.written read i || (ap (list_any (λ p. pattern_overlaps p read)) own ∙ sym (or-false (written_at read at))) i)
          ∙ sym (list_any-append (written_at read) old.places.items (at ∷ []))
          ∙ sym (ap (list_any (written_at read)) places);
    };
  }

-- what is asked of the batch is whether one of it clashes
pub clash_found : (os : List OutlineModel) (ds : List Declared) (before : List ℕ) (at : ℕ) (late : Bool) (o : Option Declared) (batch : List ℕ)
    (result : Bool) → result ≡ list_any (λ s. clash_of (slice_get os s) o late) batch → o ≡ slice_get ds at → late ≡ late_at os before at
    → list_any (λ s. clash_at os ds before s at) batch ≡ result
clash_found os ds before at late o batch result is p q = sym (is ∙ λ i. list_any (λ s. clash_of (slice_get os s) (p i) (q i)) batch)

-- a system opens a batch, or joins one
module _ (os : List OutlineModel) (ds : List Declared) {V : Type 0} (items : V → List ℕ) (before : List ℕ) (at : ℕ) (rest : List ℕ) where
  abbrev clash : List ℕ → ℕ → ℕ → Bool
  clash = clash_at os ds

  pub opened : (done done' : List V) (last : V) (old mid new : Batch) → done' ≡ done ++ last ∷ [] → items last ≡ old.places.items → IsFresh mid
      → JoinsOpen os mid at new → list_any (λ s. clash before s at) old.places.items ≡ true
      → JoinsNext os ds before at rest (map items done) old (map items done') new
  opened done done' last old mid new pushed is fresh joins c = record {
    is_open = joins.stays (fresh.opens os);
    total =
        (λ i. (ap (map items) pushed ∙ map-append items done (last ∷ [])) i
        ++ batched clash (before ++ at ∷ []) ((joins.places ∙ ap (λ p. p ++ at ∷ []) fresh.places) i) rest)
        ∙ ap (λ b. (map items done ++ b ∷ []) ++ batched clash (before ++ at ∷ []) (at ∷ []) rest) is
        ∙ append_assoc (map items done) (old.places.items ∷ []) (batched clash (before ++ at ∷ []) (at ∷ []) rest)
        ∙ ap (λ b. map items done ++ cond b (old.places.items ∷ batched clash (before ++ at ∷ []) (at ∷ []) rest)
        (batched clash (before ++ at ∷ []) (old.places.items ++ at ∷ []) rest)) (sym c);
  }

  pub joined_in : (done : List V) (old new : Batch) → IsOpen os old → JoinsOpen os old at new
      → list_any (λ s. clash before s at) old.places.items ≡ false → JoinsNext os ds before at rest (map items done) old (map items done) new
  joined_in done old new h joins c = record {
    is_open = joins.stays h;
    total =
        ap (λ b. map items done ++ batched clash (before ++ at ∷ []) b rest) joins.places
        ∙ ap (λ b. map items done ++ cond b (old.places.items ∷ batched clash (before ++ at ∷ []) (at ∷ []) rest)
        (batched clash (before ++ at ∷ []) (old.places.items ++ at ∷ []) rest)) (sym c);
  }

-- the loop goes one position further
pub join_more : (os : List OutlineModel) (ds : List Declared) {V : Type 0} (items : V → List ℕ) (order : List ℕ) (k d : ℕ) (done done' : List V)
    (batch batch' : Batch) → k < length order
    → map items done ++ batched (clash_at os ds) (take k order) batch.places.items (drop k order) ≡ batched (clash_at os ds) [] [] order
    → JoinsNext os ds (take k order) (get_or order k d) (drop (k + 1) order) (map items done) batch (map items done') batch'
    → map items done' ++ batched (clash_at os ds) (take (k + 1) order) batch'.places.items (drop (k + 1) order) ≡ batched (clash_at os ds) [] [] order
join_more os ds items order k d done done' batch batch' below total joins =
    ap (λ before. map items done' ++ batched (clash_at os ds) before batch'.places.items (drop (k + 1) order)) (take_more order k d below)
    ∙ joins.total
    ∙ ap (λ rest. map items done ++ batched (clash_at os ds) (take k order) batch.places.items rest) (sym (drop_more order k d below))
    ∙ total

-- no system is left
pub join_end : (os : List OutlineModel) (ds : List Declared) {V : Type 0} (items : V → List ℕ) (order : List ℕ) (k : ℕ) (done done' : List V)
    (batch : Batch) (last : V) → length order ≤ k
    → map items done ++ batched (clash_at os ds) (take k order) batch.places.items (drop k order) ≡ batched (clash_at os ds) [] [] order
    → done' ≡ done ++ last ∷ [] → items last ≡ batch.places.items → map items done' ≡ batched (clash_at os ds) [] [] order
join_end os ds items order k done done' batch last end total more is =
    ap (map items) more
    ∙ map_push items done last
    ∙ ap (λ l. map items done ++ l ∷ []) is
    ∙ ap (λ rest. map items done ++ batched (clash_at os ds) (take k order) batch.places.items rest) (sym (drop_all k order end))
    ∙ total

-- one outline more
pub outlined_more : (w : WorldState) (edition : Edition) → edition ≡ w.edition → (ds : List Declared) (k : ℕ) (d : Declared)
    → (old new : List OutlineModel) (closed shown : List Pattern) → k < length ds
    → AllZip (IsOutline w) (take k ds) old → ListsClosed w (get_or ds k d).writes.now closed → IsDistinct same_pattern closed → shown ≡ closed
    → new ≡ old ++ record { closed = shown; writes_traits = list_any (writes_trait edition) shown; kills = (get_or ds k d).kills } ∷ []
    → AllZip (IsOutline w) (take (k + 1) ds) new
outlined_more w edition same_edition ds k d old new closed shown below all listed once is pushed =
    let made : OutlineModel = record { closed = shown; writes_traits = list_any (writes_trait edition) shown; kills = (get_or ds k d).kills } in
    subst (AllZip (IsOutline w) (take (k + 1) ds)) (sym pushed)
    (subst (λ xs. AllZip (IsOutline w) xs (old ++ made ∷ [])) (sym (take_more ds k d below))
    (zip_push (IsOutline w) (take k ds) old (get_or ds k d) made all (record {
      kills = refl;
      closed = subst (ListsClosed w (get_or ds k d).writes.now) (sym is) listed;
      once = subst (IsDistinct same_pattern) (sym is) once;
      traits = ap (λ e. list_any (writes_trait e) shown) same_edition;
    })))

pub beq_same : (a b : Bool) → IsTrue (beq a b) → a ≡ b
beq_same true true h = refl
beq_same true false h = absurd (true≢false (sym h))
beq_same false true h = absurd (true≢false (sym h))
beq_same false false h = refl

pub same_beq : (a b : Bool) → a ≡ b → IsTrue (beq a b)
same_beq true true e = refl
same_beq true false e = sym e
same_beq false true e = e
same_beq false false e = refl

-- outlines are the same up to one more
pub same_more : (os ps : List OutlineModel) (k : ℕ) → k < length os → k < length ps → take k os ≡ take k ps → slice_get os k ≡ slice_get ps k
    → take (k + 1) os ≡ take (k + 1) ps
same_more os ps k own other before same =
    let one : OutlineModel = record { closed = []; writes_traits = false; kills = false } in
    let at = same_Some _ _ (sym (slice_get-get_or os k one own) ∙ same ∙ slice_get-get_or ps k one other) in
    take_more os k one own ∙ (λ i. before i ++ at i ∷ []) ∙ sym (take_more ps k one other)

-- outlines that say the same are the same
pub alike : (o p : Option OutlineModel) → is_some o ≡ true → is_some p ≡ true → closed_in o ≡ closed_in p → traits_in o ≡ traits_in p
    → kills_in o ≡ kills_in p → o ≡ p
alike None p own other closed traits kills = absurd (true≢false (sym own))
alike (Some o) None own other closed traits kills = absurd (true≢false (sym other))
alike (Some o) (Some p) own other closed traits kills = λ i. Some (record { closed = closed i; writes_traits = traits i; kills = kills i })

-- an outline that was worked out before is one of the system still, where so much is the same
pub known_by : (w : WorldState) (d : Declared) (edition : Edition) → edition ≡ w.edition → (o : Option OutlineModel) → is_some o ≡ true
    → (closed : List Pattern) → closed ≡ closed_in o → ListsFew w d.writes.now closed → (traits some kills : Bool)
    → traits ≡ traits_in o → some ≡ list_any (writes_trait edition) closed → kills ≡ kills_in o
    → IsTrue (beq traits some && beq kills d.kills) ↔ IfSome o (IsKnown w d)
known_by w d edition same_edition None there closed is listed traits some kills own found killing = absurd (true≢false (sym there))
known_by w d edition same_edition (Some o) there closed is listed traits some kills own found killing =
    let writes : some ≡ list_any (writes_trait w.edition) o.closed = found ∙ λ i. list_any (writes_trait (same_edition i)) (is i) in (
      λ h. record {
        kills = sym killing ∙ beq_same kills d.kills (second (beq traits some) _ h);
        closed = subst (ListsFew w d.writes.now) is listed;
        traits = sym own ∙ beq_same traits some (first (beq traits some) _ h) ∙ writes;
      },
      λ k. both (beq traits some) _ (same_beq traits some (own ∙ k.traits ∙ sym writes)) (same_beq kills d.kills (killing ∙ k.kills)),
    )

-- an outline is not known whose closed writes are not told
pub unknown_by : (w : WorldState) (d : Declared) (o : Option OutlineModel) → is_some o ≡ true → (closed : List Pattern) → closed ≡ closed_in o
    → (ListsFew w d.writes.now closed → ⊥) → IfSome o (IsKnown w d) → ⊥
unknown_by w d None there closed is none known = true≢false (sym there)
unknown_by w d (Some o) there closed is none known = none (subst (ListsFew w d.writes.now) (sym is) known.closed)

pub there_is : (os : List OutlineModel) (k : ℕ) → k < length os → is_some (slice_get os k) ≡ true
there_is os k there = ap is_some (slice_get-get_or os k (record { closed = []; writes_traits = false; kills = false }) there)

-- what is known is right
pub known_outlines : (w : WorldState) (ds : List Declared) (os : List OutlineModel) → AllZip (IsKnown w) ds os → AllZip (IsOutline w) ds os
known_outlines w [] [] known = tt
known_outlines w [] (o ∷ os) known = absurd known
known_outlines w (d ∷ ds) [] known = absurd known
known_outlines w (d ∷ ds) (o ∷ os) known = (
  record {
    kills = known.0.kills;
    closed = lists_closed w d.writes.now d.writes.now o.closed (closed_alone w d.writes.now known.0.closed.alone) known.0.closed.made;
    once = once_is_distinct o.closed (map (widened w) d.writes.now) known.0.closed.made;
    traits = known.0.traits;
  },
  known_outlines w ds os known.1,
)

-- each of the outlines is known where all are
pub known_each : (R : Declared → OutlineModel → Type 0) (ds : List Declared) (os : List OutlineModel) (k : ℕ) (d : Declared) → k < length ds
    → AllZip R ds os → IfSome (slice_get os k) (R (get_or ds k d))
known_each R [] os k d below all = absurd (omega arith)
known_each R (x ∷ ds) [] k d below all = absurd all
known_each R (x ∷ ds) (o ∷ os) zero d below all = all.0
known_each R (x ∷ ds) (o ∷ os) (suc k) d below all = known_each R ds os k d (omega arith) all.1

-- one outline more is known
pub known_more : (R : Declared → OutlineModel → Type 0) (ds : List Declared) (os : List OutlineModel) (k : ℕ) (d : Declared) → k < length ds
    → length os ≡ length ds → AllZip R (take k ds) (take k os) → IfSome (slice_get os k) (R (get_or ds k d))
    → AllZip R (take (k + 1) ds) (take (k + 1) os)
known_more R ds os k d below long all known =
    let there : k < length os = omega (arith, below, long) in
    let one : OutlineModel = record { closed = []; writes_traits = false; kills = false } in
    let at : slice_get os k ≡ Some (get_or os k one) = slice_get-get_or os k one there in
    subst (AllZip R (take (k + 1) ds)) (sym (take_more os k one there))
    (subst (λ xs. AllZip R xs (take k os ++ get_or os k one ∷ [])) (sym (take_more ds k d below))
    (zip_push R (take k ds) (take k os) (get_or ds k d) (get_or os k one) all (subst (λ o. IfSome o (R (get_or ds k d))) at known)))

-- all of them are
pub known_all : (R : Declared → OutlineModel → Type 0) (ds : List Declared) (os : List OutlineModel) (k : ℕ) → length ds ≤ k
    → length os ≡ length ds → AllZip R (take k ds) (take k os) → AllZip R ds os
known_all R ds os k end long all =
    subst (AllZip R ds) (take_all k os (omega (arith, end, long))) (subst (λ xs. AllZip R xs (take k os)) (take_all k ds end) all)
