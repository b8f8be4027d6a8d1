-- Runs of sets that write values of an id that is there, set by set.
use Rattle.eco_world.proofs.Common.{◌≡◌, ◌==◌, ◌&&◌, ◌||◌, ℕ, ◌+◌, ◌-◌, ◌≤◌, Bool, true, false, if◌then◌else◌, List, [], ◌∷◌, ◌++◌, map, length}
use Rattle.eco_world.proofs.Common.{None, option_map, unwrap_or, is_some, Ok, All, IsTrue, refl, sym, ap, subst, ◌∙◌, arith, find, keys_find}
use Rattle.eco_world.proofs.Common.{Edition, Entity, Id, One, Value, FIELD_COUNT, is_builtin, id_cmp, id_eq, has_item, fits, IsLawful, changed, with_value}
use Rattle.eco_world.proofs.Common.{WorldState, Record, Sets, MaySet, IsSettable, Indexed, changed_each, QueryTerm, world_with, both}
use Rattle.eco_world.proofs.Common.{builtin_count, has_symmetric, is_zero_past, record_with_written, with_held, length-append, get_or}
use Rattle.std.specs.Prelude.{ℤ, drop, pos, replicate, take}
use Rattle.std.proofs.lemmas.Bool.{le-ltb}
use Rattle.std.proofs.Math.Seq.{take-append-add}
use Rattle.std.proofs.lemmas.List.{length-replicate, length-take-le, take-append-drop}
use Rattle.std.proofs.lemmas.List.Elements.{All-head, All-tail}
use Rattle.eco_ids.specs.Indices as indexed
use Rattle.eco_ids.specs.Laws.{Keeps}
use Rattle.eco_ids.specs.Mirrors.{at_mirror}
use Rattle.eco_ids.specs.Run.{Runs}
use Rattle.eco_ids.specs.World.{padded}
use Rattle.eco_stages.specs.Outcomes.{all_done}
use Rattle.eco_stages.specs.Recorded.{set_of_run}
use Rattle.eco_store.specs.Runs.{IsRewrite, store_with_run}
use Rattle.eco_world.proofs.Changes.{written_there}
use Rattle.eco_world.proofs.Extending.{lawful_there, sets_there}
use Rattle.eco_world.proofs.Held.{Held, keys}
use Rattle.eco_world.proofs.Setting.{settable_still}

-- a value of few fields has all of its own
full : (fields : List ℤ) → length fields ≤ FIELD_COUNT → (length (padded fields).0 == FIELD_COUNT) ≡ true
full fields few =
    let zeros = replicate (FIELD_COUNT - length fields) (pos 0) in
    let long : length (fields ++ zeros) ≡ FIELD_COUNT =
    omega (arith, few, length-append fields zeros, length-replicate (FIELD_COUNT - length fields) (pos 0)) in
    rw long refl

-- a write keeps the ids
keys_written : (held : Held) (i : Id) (v : Value) → keys (with_held held i v) ≡ keys held
keys_written [] i v = refl
keys_written (p ∷ ps) i v = λ t. one (id_eq p.0 i) t ∷ keys_written ps i v t
  where
    one : (b : Bool) → (if b then (p.0, v) else p).0 ≡ p.0
    one true = refl
    one false = refl

-- a single id has no mirror
no_mirror : (test : Entity → Id → Bool) (b : Bool) → at_mirror test (if b then None else None) ≡ false
no_mirror test true = refl
no_mirror test false = refl

module _ (edition : Edition) (qs : List (List QueryTerm)) (c : Entity) (fields : ℕ)
    (keeps : (e : Entity) (v : Value) → Keeps (λ x. Sets x e (One c) v)) where
  abbrev world : Indexed Record → WorldState
  world v = world_with edition v qs

  abbrev IsOne : Indexed Record → Entity × List ℤ → Type 0
  IsOne v = IsRewrite v (One c) fields (builtin_count edition)

  -- so much of a value fits the id
  pub fits_few : (v : Indexed Record) (x : Value) → IsSettable (world v) (One c) fields → (length x.0 == FIELD_COUNT) ≡ true
      → IsTrue (is_zero_past fields x) → IsTrue (fits (world v) (One c) x)
  fits_few v x settable long zeros =
      both _ _ long (subst (λ o. IsTrue (is_zero_past (unwrap_or o 0) x)) (sym settable.has_fields) zeros)

  module _ (v : Indexed Record) (lawful : IsLawful (world v)) (settable : IsSettable (world v) (One c) fields) (s : Entity × List ℤ) (one : IsOne v s)
      (few : length s.1 ≤ FIELD_COUNT) where
    may : MaySet (world v) s.0 (One c) (padded s.1)
    may = record {
      alive = one.alive;
      free = λ t.
          no_mirror (λ x j. is_builtin (world v) x) (has_symmetric edition) t
          || (le-ltb s.0.index (builtin_count edition) one.ordinary t && (s.0.generation == 0));
      living = settable.living;
      data_id = ap is_some settable.has_fields;
      narrow = fits_few v (padded s.1) settable (full s.1 few) one.few;
    }

    abbrev next : Indexed Record
    next = indexed.changed v s.0 (record_with_written (One c) (padded s.1))

    is_next : world next ≡ changed (world v) s.0 (with_value (One c) (padded s.1))
    is_next = written_there (world v) s.0 lawful (One c) (padded s.1) true (sym one.had)

    sets : Sets (world v) s.0 (One c) (padded s.1) (Ok tt) (world next)
    sets =
        subst (Sets (world v) s.0 (One c) (padded s.1) (Ok tt)) (sym is_next)
        (sets_there (world v) s.0 (One c) (padded s.1) may lawful (keeps s.0 (padded s.1)) one.had)

    next_lawful : IsLawful (world next)
    next_lawful =
        subst IsLawful (sym is_next) (lawful_there (world v) s.0 (One c) (padded s.1) may lawful (keeps s.0 (padded s.1)) one.had)

    next_settable : IsSettable (world next) (One c) fields
    next_settable =
        subst (λ w. IsSettable w (One c) fields) (sym is_next) (settable_still (world v) s.0 (One c) (padded s.1) (One c) fields settable)

    -- the others are as before
    still : (x : Entity × List ℤ) → IsOne v x → IsOne next x
    still x was =
        let change = record_with_written (One c) (padded s.1) in
        record {
          alive = changed_each (world v) s.0 change is_some (λ d at. refl) x.0 ∙ was.alive;
          had = changed_each (world v) s.0 change (λ o. is_some (find id_cmp (One c) (unwrap_or (option_map (λ (r : Record). r.held) o) [])))
              (λ d at. keys_find (with_held d.held (One c) (padded s.1)) (One c)
              ∙ ap (λ ids. has_item id_cmp ids (One c)) (keys_written d.held (One c) (padded s.1)) ∙ sym (keys_find d.held (One c))) x.0 ∙ was.had;
          ordinary = was.ordinary;
          few = was.few;
        }

  -- each is done, on the world that those before it leave
  pub ran : (sets : List (Entity × List ℤ)) (v : Indexed Record) → IsLawful (world v) → IsSettable (world v) (One c) fields → All (IsOne v) sets
      → All (λ s. length s.1 ≤ FIELD_COUNT) sets
      → Runs (world v) (map (set_of_run (One c)) sets) (all_done (length sets)) (world (store_with_run v (One c) sets))
      × IsLawful (world (store_with_run v (One c) sets)) × IsSettable (world (store_with_run v (One c) sets)) (One c) fields
  ran [] v lawful settable all few = (refl, lawful, settable)
  ran (s ∷ ss) v lawful settable all few =
      let one = All-head (IsOne v) s ss all in
      let short = All-head (λ x. length x.1 ≤ FIELD_COUNT) s ss few in
      let others = All-tail (IsOne v) s ss all in
      let behind = ran ss (next v lawful settable s one short) (next_lawful v lawful settable s one short) (next_settable v lawful settable s one short)
      (λ k x less. still v lawful settable s one short (get_or ss k x) (others k x less))
      (All-tail (λ x. length x.1 ≤ FIELD_COUNT) s ss few) in
      ((world (next v lawful settable s one short), sets v lawful settable s one short, behind.0), behind.1, behind.2)

  -- the same, as the store says it
  pub ran_of : (i : Id) → i ≡ One c → (least : ℕ) → least ≡ builtin_count edition → (n : ℕ) → n ≤ FIELD_COUNT
      → (sets : List (Entity × List ℤ)) (v : Indexed Record) → IsLawful (world v) → IsSettable (world v) i fields
      → All (IsRewrite v i fields least) sets → All (λ s. length s.1 ≡ n) sets
      → Runs (world v) (map (set_of_run i) sets) (all_done (length sets)) (world (store_with_run v i sets))
      × IsLawful (world (store_with_run v i sets)) × IsSettable (world (store_with_run v i sets)) i fields
  ran_of i is least same n few sets v lawful settable all long =
      subst (λ j. IsSettable (world v) j fields → All (IsRewrite v j fields least) sets
      → Runs (world v) (map (set_of_run j) sets) (all_done (length sets)) (world (store_with_run v j sets))
      × IsLawful (world (store_with_run v j sets)) × IsSettable (world (store_with_run v j sets)) j fields) (sym is)
      (λ able each. ran sets v lawful able (subst (λ m. All (IsRewrite v (One c) fields m) sets) same each)
      (λ k x less. let short = long k x less in omega (arith, short, few))) settable all

-- so many of a list, and then more of it
pub take_on : {X : Type 0} (n m : ℕ) (xs : List X) → n ≤ length xs → take (n + m) xs ≡ take n xs ++ take m (drop n xs)
take_on n m xs within =
    let long = sym (length-take-le n xs within) in
    let whole = sym (take-append-drop n xs) in
    (λ t. take (long t + m) (whole t)) ∙ take-append-add (take n xs) (drop n xs) m
