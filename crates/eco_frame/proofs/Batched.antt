-- From what workers answer for the pieces of a batch to what its systems record.
use Rattle.eco_frame.proofs.Common.{◌≡◌, ℕ, ◌<◌, ◌≤◌, Bool, List, [], ◌∷◌, ◌++◌, map, length, refl, sym, ap, ◌∙◌, subst}
use Rattle.eco_frame.proofs.Common.{append_assoc, arith, flat_map, option_map, option_to_list, unwrap_or, inl, inr, length-append, IfErr, IfOk, Result, Ok, Err}
use Rattle.eco_frame.proofs.Common.{length-map, slice_get-map, slice_get_cases, AllByRecursion, AllZip, Entity, Pattern, Command, WorldState, joined}
use Rattle.eco_frame.proofs.Common.{BatchRecords, pieces_of, ValuedRow, valued_rows, SystemModel, no_system, System, AreStages, IsBatch, IsOut, by_index, fresh}
use Rattle.eco_frame.proofs.Common.{all_commands, model_at, model_of, HasFewPieces, IsRecorded, Settled, part_at, body_with_rows, piece_commands, piece_taken}
use Rattle.eco_frame.proofs.Common.{pieces_at, pieces_in}
use Rattle.eco_frame.proofs.Fresh.{ascending_batch, fresh_batch}
use Rattle.eco_frame.proofs.Grouped.{AreGrouped, grouped, joined_map}
use Rattle.eco_frame.proofs.Recorded.{pieces_record}

-- ---- lists

flat_is_joined : {A X : Type 0} (f : A → List X) (xs : List A) → flat_map f xs ≡ joined (map f xs)
flat_is_joined f [] = refl
flat_is_joined f (x ∷ xs) = ap (λ l. f x ++ l) (flat_is_joined f xs)

flat_of_map : {A Y X : Type 0} (f : Y → List X) (g : A → Y) (xs : List A) → flat_map f (map g xs) ≡ joined (map (λ x. f (g x)) xs)
flat_of_map f g [] = refl
flat_of_map f g (x ∷ xs) = ap (λ l. f (g x) ++ l) (flat_of_map f g xs)

joined_append : {A : Type 0} (xss yss : List (List A)) → joined (xss ++ yss) ≡ joined xss ++ joined yss
joined_append [] yss = refl
joined_append (x ∷ xss) yss = ap (λ l. x ++ l) (joined_append xss yss) ∙ sym (append_assoc x (joined xss) (joined yss))

joined_twice : {A : Type 0} (xsss : List (List (List A))) → joined (map joined xsss) ≡ joined (joined xsss)
joined_twice [] = refl
joined_twice (xss ∷ xsss) = ap (λ l. joined xss ++ l) (joined_twice xsss) ∙ sym (joined_append xss (joined xsss))

map_itself : {A : Type 0} (xs : List A) → map (λ x. x) xs ≡ xs
map_itself [] = refl
map_itself (x ∷ xs) = ap (λ l. x ∷ l) (map_itself xs)

-- ---- results

pub both_ok : {A E : Type 0} (P Q S : A → Type 0) → ((x : A) → P x → Q x → S x) → (r : Result A E) → IfOk r P → IfOk r Q → IfOk r S
both_ok P Q S f (Ok x) h k = f x h k
both_ok P Q S f (Err e) h k = tt

pub both_err : {A E : Type 0} (P Q S : E → Type 0) → ((e : E) → P e → Q e → S e) → (r : Result A E) → IfErr r P → IfErr r Q → IfErr r S
both_err P Q S f (Ok x) h k = tt
both_err P Q S f (Err e) h k = f e h k

-- ---- pieces as they are seen

module _ {P S : Type 0} (see : P → S) (commands : S → List ℕ → List Command) (taken : S → List ℕ → ℕ) where
  stages_seen : (pieces : List P) (own : List (List ℕ)) (stages : List (List Command))
      → AreStages (λ p. commands (see p)) (λ p. taken (see p)) pieces own stages → AreStages commands taken (map see pieces) own stages
  stages_seen [] [] [] h = tt
  stages_seen [] [] (s ∷ stages) h = absurd h
  stages_seen [] (d ∷ own) stages h = absurd h
  stages_seen (p ∷ pieces) [] stages h = absurd h
  stages_seen (p ∷ pieces) (d ∷ own) [] h = absurd h
  stages_seen (p ∷ pieces) (d ∷ own) (s ∷ stages) h = (h.0, stages_seen pieces own stages h.1)

  zip_seen : (R : S → List ℕ → Type 0) (pieces : List P) (ds : List (List ℕ)) → AllZip (λ p d. R (see p) d) pieces ds
      → AllZip R (map see pieces) ds
  zip_seen R [] [] h = h
  zip_seen R [] (d ∷ ds) h = absurd h
  zip_seen R (p ∷ pieces) [] h = absurd h
  zip_seen R (p ∷ pieces) (d ∷ ds) h = (h.0, zip_seen R pieces ds h.1)

  -- where pieces take more than there is, these do
  pub out_seen : (pieces : List P) (base limit : ℕ) → IsOut (λ p. commands (see p)) (λ p. taken (see p)) pieces base limit
      → IsOut commands taken (map see pieces) base limit
  out_seen pieces base limit h = record {
    draws = h.draws;
    shares = zip_seen (λ s d. length d ≤ taken s d) pieces h.draws h.shares;
    each = h.each;
    short = (h.short.0, see h.short.1, slice_get-map see pieces h.short.0 ∙ ap (option_map see) h.short.2, h.short.3);
  }

-- ---- the systems of a batch

module _ {B : Type 0} (reads writes : B → List Pattern) (kills : B → Bool) (taken : B → ValuedRow → List Entity → ℕ)
    (commands : B → ValuedRow → List Entity → List Command) (settled : Settled taken commands) (w : WorldState) where
  abbrev model : System B → SystemModel
  model = model_of reads writes kills taken commands

  abbrev Chosen : List (System B) → List ℕ → Type 0
  Chosen systems places =
      (ss : List (System B)) × (flat_map (part_at w systems) places ≡ map (body_with_rows w) ss)
      × (map (model_at (map model systems)) places ≡ map model ss)

  -- there is a system at each of the positions
  chosen : (systems : List (System B)) (places : List ℕ) → AllByRecursion (λ k. k < length systems) places → Chosen systems places
  chosen systems [] h = ([], refl, refl)
  chosen systems (k ∷ ks) h = elim (slice_get_cases systems k).1 as (λ _. Chosen systems (k ∷ ks)) [
    | inl c ↦
        let rest = chosen systems ks h.1 in
        let part = ap (λ o. option_to_list (option_map (body_with_rows w) o)) c.2 in
        let there = ap (λ o. unwrap_or o no_system) (slice_get-map model systems k ∙ ap (option_map model) c.2) in
        (c.0 ∷ rest.0, (λ i. part i ++ rest.1 i), (λ i. there i ∷ rest.2 i))
    | inr n ↦ let past = n.0 in let within = h.0 in absurd (omega (arith, past, within))
  ]

  -- what the pieces of each system record is what the systems record
  all_record : (ss : List (System B)) (owns : List (List (List ℕ))) (stagess : List (List (List Command)))
      → AreGrouped (by_index (piece_commands taken commands)) (by_index (piece_taken taken commands))
      (map (λ s. pieces_in (body_with_rows w s)) ss) owns stagess
      → BatchRecords w (map model ss) (map (map (map fresh)) owns) (joined (map joined stagess))
  all_record [] [] [] h = refl
  all_record [] [] (x ∷ xs) h = absurd h
  all_record [] (d ∷ ds) xs h = absurd h
  all_record (s ∷ ss) [] xs h = absurd h
  all_record (s ∷ ss) (d ∷ ds) [] h = absurd h
  all_record (s ∷ ss) (d ∷ ds) (x ∷ xs) h = (
    joined x,
    joined (map joined xs),
    pieces_record reads writes kills taken commands settled s (pieces_of (valued_rows w s.query)) d x h.0,
    all_record ss ds xs h.1,
    refl,
  )

  -- the systems have as many pieces as are recorded
  as_many : (ss : List (System B)) → length (flat_map (λ s. pieces_of (valued_rows w s.slots)) (map model ss))
      ≡ length (joined (map (λ s. pieces_in (body_with_rows w s)) ss))
  as_many [] = refl
  as_many (s ∷ ss) =
      let own = pieces_of (valued_rows w s.query) in
      let rest = as_many ss in
      let one = length-append own (flat_map (λ m. pieces_of (valued_rows w m.slots)) (map model ss)) in
      let other = length-append (pieces_in (body_with_rows w s)) (joined (map (λ t. pieces_in (body_with_rows w t)) ss)) in
      let same : length (pieces_in (body_with_rows w s)) ≡ length own = length-map own (λ rows. (s.body, rows)) in
      omega (arith, one, other, same, rest)

  -- what the workers answer for the pieces of a batch is recorded by its systems
  pub recorded : {P : Type 0} (see : P → B × List ValuedRow) (workers used : ℕ) (few : workers ≡ 1 → used ≡ 1) (systems : List (System B))
      (places : List ℕ) (pieces : List P) (n : ℕ) (stages : List (List Command)) → AllByRecursion (λ k. k < length systems) places
      → map see pieces ≡ pieces_at w systems places → length pieces ≤ 16777216
      → IsBatch (by_index (λ p. piece_commands taken commands (see p))) (by_index (λ p. piece_taken taken commands (see p))) used pieces
      (length w.indices) n stages
      → IsRecorded workers w (map (model_at (map model systems)) places) (all_commands stages) n
  recorded see workers used few systems places pieces n stages within seen most b =
      let f = by_index (piece_commands taken commands) in
      let t = by_index (piece_taken taken commands) in
      let c = chosen systems places within in
      let xss = map (λ s. pieces_in (body_with_rows w s)) c.0 in
      let flat : map see pieces ≡ joined xss = seen ∙ ap (flat_map pieces_in) c.1 ∙ flat_of_map pieces_in (body_with_rows w) c.0 in
      let g = grouped f t xss b.draws stages
      (subst (λ ps. AreStages f t ps b.draws stages) flat (stages_seen see f t pieces b.draws stages b.recorded)) in
      let draws = map (map (map fresh)) g.0 in
      let shape : joined draws ≡ map (map fresh) b.draws = joined_map (map fresh) g.0 ∙ ap (map (map fresh)) g.2 in
      let are = all_record c.0 g.0 g.1 g.4 in
      let all : joined (map joined g.1) ≡ all_commands stages = joined_twice g.1 ∙ ap joined g.3
      ∙ ap joined (sym (map_itself stages)) ∙ sym (flat_is_joined (λ s. s) stages) in
      let whole : length pieces ≡ length (joined xss) = sym (length-map pieces see) ∙ ap length flat in
      let fits : HasFewPieces w (map model c.0) = (let count = as_many c.0 in omega (arith, count, whole, most)) in
      let new = fresh_batch (length w.indices) n b.draws draws shape b.ascend b.each in (
        draws,
        subst (λ ms. BatchRecords w ms draws (all_commands stages)) (sym c.2) (subst (BatchRecords w (map model c.0) draws) all are),
        new.0,
        new.1,
        λ one. ascending_batch (length w.indices) n b.draws draws shape (b.alone (few one)) b.each,
        subst (HasFewPieces w) (sym c.2) fits,
      )
