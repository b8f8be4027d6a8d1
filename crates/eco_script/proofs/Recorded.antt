-- Texts that are read one after another on one world.
use Rattle.eco_script.proofs.FormatsCommon.{◌≡◌, ◌<◌, ℕ, ◌+◌, zero, suc, false, List, [], ◌∷◌, ◌++◌, flat_map, length, take, drop}
use Rattle.eco_script.proofs.FormatsCommon.{Option, Some, None, Result, Ok, Err, OnOk, is_err, refl, sym, ap, subst, ◌∙◌, option_map}
use Rattle.eco_script.proofs.FormatsCommon.{slice_get, arith, flat_map-append, append-nil, take_more, take-append-drop, ReadsCommand, ReadsCommands, ReadsEach}
use Rattle.std.specs.Option.{IsSome}
use Rattle.std.proofs.lemmas.Option.{get_or_from_slice_get, slice_get_within}
use Rattle.eco_ids.specs.declared.refusal.Refusal.{Refusal}
use Rattle.eco_ids.specs.World.{WorldState}
use Rattle.eco_grammar.specs.Readings.{ok_map}
use Rattle.eco_steps.specs.Commands.{WrittenCommand}
use Rattle.eco_ids.specs.Run as run

-- what is there in a list is there in a view of it
pub some_within : {A B : Type 0} (f : A → B) (o : Option A) (xs : List B) (i : ℕ) → option_map f o ≡ slice_get xs i → i < length xs → IsSome o
some_within f (Some x) xs i e there = refl
some_within f None [] i e there = absurd (omega (arith, there))
some_within f None (x ∷ xs) zero e there = cc
some_within f None (x ∷ xs) (suc i) e there = some_within f None xs i e (omega (arith, there))

-- what is said of an answer that is no error
pub was_ok : {T E P : Type 0} (r : Result T E) → false ≡ is_err r → OnOk r P → P
was_ok (Ok x) e p = p
was_ok (Err why) e p = cc

-- one more of a list, which was found in it
front_more : {A B : Type 0} (f : A → B) (xs : List B) (k : ℕ) (o : Option A) (x : A) → option_map f o ≡ slice_get xs k → o ≡ Some x
    → take (k + 1) xs ≡ take k xs ++ f x ∷ []
front_more f xs k o x got is =
    let at : slice_get xs k ≡ Some (f x) = sym got ∙ ap (option_map f) is in
    take_more xs k (f x) (slice_get_within xs k (f x) at) ∙ ap (λ y. take k xs ++ y ∷ []) (get_or_from_slice_get xs k (f x) (f x) at)

-- the commands of some stages, and of one more
pub flat_more : {A : Type 0} (ss : List (List A)) (s : List A) → flat_map (λ t. t) (ss ++ s ∷ []) ≡ flat_map (λ t. t) ss ++ s
flat_more ss s = flat_map-append (λ t. t) ss (s ∷ []) ∙ ap (λ t. flat_map (λ t. t) ss ++ t) (append-nil s)

-- texts that are read one after another in one way
module _ {T C : Type 0} (One : T → Result C Refusal → Type 0) where
  behind_none : (r : Result (List C) Refusal) → ok_map (λ ys. [] ++ ys) r ≡ r
  behind_none (Ok ys) = refl
  behind_none (Err why) = refl

  behind_more : (x : C) (xs : List C) (r : Result (List C) Refusal)
      → ok_map (λ ys. (x ∷ xs) ++ ys) r ≡ ok_map (λ ys. x ∷ ys) (ok_map (λ ys. xs ++ ys) r)
  behind_more x xs (Ok ys) = refl
  behind_more x xs (Err why) = refl

  -- behind what was read, others are read
  pub reads_append : (cs ds : List T) (xs : List C) (r : Result (List C) Refusal)
      → ReadsEach One cs (Ok xs) → ReadsEach One ds r → ReadsEach One (cs ++ ds) (ok_map (λ ys. xs ++ ys) r)
  reads_append [] ds xs r e p = let q : xs ≡ [] = cc in rw (q, behind_none r) p
  reads_append (c ∷ cs) ds xs r (Err why, read, is) p = cc
  reads_append (c ∷ cs) ds xs r (Ok x, read, (Err why, more, is)) p = cc
  reads_append (c ∷ cs) ds xs r (Ok x, read, (Ok ys, more, is)) p =
      let q : xs ≡ x ∷ ys = cc in
      rw (q, behind_more x ys r) (Ok x, read, (ok_map (λ zs. ys ++ zs) r, reads_append cs ds ys r more p, refl))

  -- behind one that is refused, none is read
  pub reads_refused : (cs ds : List T) (why : Refusal) → ReadsEach One cs (Err why) → ReadsEach One (cs ++ ds) (Err why)
  reads_refused [] ds why e = cc
  reads_refused (c ∷ cs) ds why (Err other, read, is) = (Err other, read, is)
  reads_refused (c ∷ cs) ds why (Ok x, read, (Ok ys, more, is)) = cc
  reads_refused (c ∷ cs) ds why (Ok x, read, (Err other, more, is)) = (Ok x, read, (Err other, reads_refused cs ds other more, is))

  module _ {A : Type 0} (f : A → T) (cs : List T) (k : ℕ) (o : Option A) (c : A) (got : option_map f o ≡ slice_get cs k) (is : o ≡ Some c)
      (xs : List C) (read : ReadsEach One (take k cs) (Ok xs)) where
    -- one more was read
    pub one_more : (x : C) → One (f c) (Ok x) → ReadsEach One (take (k + 1) cs) (Ok (xs ++ x ∷ []))
    one_more x p =
        rw (front_more f cs k o c got is) (reads_append (take k cs) (f c ∷ []) xs (Ok (x ∷ [])) read (Ok x, p, (Ok [], refl, refl)))

    -- one was refused
    pub one_refused : (why : Refusal) → One (f c) (Err why) → ReadsEach One cs (Err why)
    one_refused why p =
        let front : ReadsEach One (take (k + 1) cs) (Err why) =
        rw (front_more f cs k o c got is) (reads_append (take k cs) (f c ∷ []) xs (Err why) read (Err why, p, refl)) in
        subst (λ ds. ReadsEach One ds (Err why)) (take-append-drop (k + 1) cs) (reads_refused (take (k + 1) cs) (drop (k + 1) cs) why front)

module _ (w : WorldState) where
  module _ {A : Type 0} (f : A → List WrittenCommand) (ss : List (List WrittenCommand)) (k : ℕ) (o : Option A) (s : A)
      (got : option_map f o ≡ slice_get ss k) (is : o ≡ Some s) (xs : List run.Command)
      (read : ReadsCommands w (flat_map (λ t. t) (take k ss)) (Ok xs)) where
    -- one more stage was read
    pub stage_read : (r : Result (List run.Command) Refusal) → ReadsCommands w (f s) r
        → ReadsCommands w (flat_map (λ t. t) (take (k + 1) ss)) (ok_map (λ ys. xs ++ ys) r)
    stage_read r p =
        subst (λ cs. ReadsCommands w cs (ok_map (λ ys. xs ++ ys) r))
        (sym (flat_more (take k ss) (f s)) ∙ ap (λ ts. flat_map (λ t. t) ts) (sym (front_more f ss k o s got is)))
        (reads_append (ReadsCommand w) (flat_map (λ t. t) (take k ss)) (f s) xs r read p)

    -- one was refused
    pub stage_refused : (why : Refusal) → ReadsCommands w (f s) (Err why) → ReadsCommands w (flat_map (λ t. t) ss) (Err why)
    stage_refused why p =
        let whole : flat_map (λ t. t) (take (k + 1) ss) ++ flat_map (λ t. t) (drop (k + 1) ss) ≡ flat_map (λ t. t) ss =
        sym (flat_map-append (λ t. t) (take (k + 1) ss) (drop (k + 1) ss)) ∙ ap (λ ts. flat_map (λ t. t) ts) (take-append-drop (k + 1) ss) in
        subst (λ cs. ReadsCommands w cs (Err why)) whole
        (reads_refused (ReadsCommand w) (flat_map (λ t. t) (take (k + 1) ss)) (flat_map (λ t. t) (drop (k + 1) ss)) why (stage_read (Err why) p))
