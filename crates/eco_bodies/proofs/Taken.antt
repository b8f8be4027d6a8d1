-- What some things take and record in order, when one more of them has recorded.
use Rattle.eco_bodies.proofs.Common.{◌≡◌, ℕ, ◌+◌, ◌≤◌, List, [], ◌∷◌, ◌++◌, length, take, drop, refl, sym, ap}
use Rattle.eco_bodies.proofs.Common.{Bool}
use Rattle.eco_bodies.proofs.Common.{◌∙◌, append_assoc, length-append, subst, arith, get_or_from_slice_get, slice_get_within, Entity}
use Rattle.std.proofs.lemmas.List.{append-nil, drop-drop, drop_at, take_more, drop_more, take-append-drop}
use Rattle.eco_ids.specs.Run.{Command}
use Rattle.eco_stages.specs.Taking.{Broke}
use Rattle.eco_bodies.specs.Taking.{AllTook, BreaksAll, TakesNext, OneTook, commands_in_turn, taken_of}

module _ {X : Type 0} (commands : X → List Entity → List Command) (taken : X → List Entity → ℕ) where
  taken_append : (xs ys : List X) (draws : List Entity)
      → taken_of taken (xs ++ ys) draws ≡ taken_of taken xs draws
      + taken_of taken ys (drop (taken_of taken xs draws) draws)
  taken_append [] ys draws = omega arith
  taken_append (x ∷ xs) ys draws =
      let k = taken x draws in
      let h = taken_append xs ys (drop k draws) in
      let e = ap (λ (l : List Entity). taken_of taken ys l) (drop-drop (taken_of taken xs (drop k draws)) k draws) in
      omega arith

  commands_append : (xs ys : List X) (draws : List Entity)
      → commands_in_turn commands taken (xs ++ ys) draws ≡ commands_in_turn commands taken xs draws
      ++ commands_in_turn commands taken ys (drop (taken_of taken xs draws) draws)
  commands_append [] ys draws = refl
  commands_append (x ∷ xs) ys draws =
      let k = taken x draws in
      let h = commands_append xs ys (drop k draws) in
      let e = ap (λ (l : List Entity). commands_in_turn commands taken ys l) (drop-drop (taken_of taken xs (drop k draws)) k draws) in
      ap (λ l. commands x draws ++ l) (h ∙ ap (λ l. commands_in_turn commands taken xs (drop k draws) ++ l) e) ∙ sym (append_assoc (commands x draws) _ _)

  -- what is left behind those that took these handles
  left_behind : (xs : List X) (mine rest : List Entity) → taken_of taken xs (mine ++ rest) ≡ length mine
      → drop (taken_of taken xs (mine ++ rest)) (mine ++ rest) ≡ rest
  left_behind xs mine rest just = ap (λ (n : ℕ). drop n (mine ++ rest)) just ∙ drop_at mine rest (length mine) refl

  pub took_append : (xs ys : List X) (before between after : List Entity) (stage stage' stage'' : List Command)
      → AllTook commands taken xs before between stage stage' → AllTook commands taken ys between after stage' stage''
      → AllTook commands taken (xs ++ ys) before after stage stage''
  took_append xs ys before between after stage stage' stage'' h t =
      let draws = h.0 in
      let mine = t.0 in (
        draws ++ mine,
        t.1 ∙ ap (λ l. l ++ mine) h.1 ∙ append_assoc before draws mine,
        λ later.
            let all = draws ++ (mine ++ later) in
            let a : (draws ++ mine) ++ later ≡ all = append_assoc draws mine later in
            let so_far = h.2 (mine ++ later) in
            let now = t.2 later in
            let left : drop (taken_of taken xs all) all ≡ mine ++ later = left_behind xs draws (mine ++ later) so_far.0 in
            let last = ap (λ (l : List Entity). taken_of taken ys l) left in
            let taken_now = taken_append xs ys all in
            let same = ap (λ (l : List Entity). taken_of taken (xs ++ ys) l) a in (
              omega (arith, length-append draws mine),
              now.1
                  ∙ ap (λ l. l ++ commands_in_turn commands taken ys (mine ++ later)) so_far.1
                  ∙ append_assoc stage _ _
                  ∙ ap (λ l. stage ++ l)
                  (ap (λ l. commands_in_turn commands taken xs all ++ l) (ap (λ (l : List Entity). commands_in_turn commands taken ys l) (sym left))
                  ∙ sym (commands_append xs ys all)
                  ∙ ap (λ (l : List Entity). commands_in_turn commands taken (xs ++ ys) l) (sym a)),
            ),
      )

  -- one of them is a list of one
  one_took : (x : X) (before after : List Entity) (stage stage' : List Command) → OneTook commands taken x before after stage stage'
      → AllTook commands taken (x ∷ []) before after stage stage'
  one_took x before after stage stage' t = (
    t.0,
    t.1,
    λ later. let just = (t.2 later).0 in (omega (arith, just), (t.2 later).1 ∙ ap (λ l. stage ++ l) (sym (append-nil _))),
  )

  pub took_more : (xs : List X) → TakesNext commands taken xs
  took_more xs i x before between after stage stage' stage'' at h t =
      let up_to : take (i + 1) xs ≡ take i xs ++ x ∷ [] =
      take_more xs i x (slice_get_within xs i x at) ∙ ap (λ y. take i xs ++ y ∷ []) (get_or_from_slice_get xs i x x at) in
      subst (λ (l : List X). AllTook commands taken l before after stage stage'') (sym up_to)
      (took_append (take i xs) (x ∷ []) before between after stage stage' stage'' h (one_took x between after stage' stage'' t))

  -- all of them take at least what those before some drew, and what these take
  least_taken : (xs ys zs : List X) (draws mine later : List Entity) → taken_of taken xs (draws ++ (mine ++ later)) ≡ length draws
      → length draws + taken_of taken ys (mine ++ later) ≤ taken_of taken (xs ++ (ys ++ zs)) ((draws ++ mine) ++ later)
  least_taken xs ys zs draws mine later just =
      let all = draws ++ (mine ++ later) in
      let rest = drop (taken_of taken xs all) all in
      let a : (draws ++ mine) ++ later ≡ all = append_assoc draws mine later in
      let whole = taken_append xs (ys ++ zs) all in
      let these = taken_append ys zs rest in
      let left = ap (λ (l : List Entity). taken_of taken ys l) (left_behind xs draws (mine ++ later) just) in
      let same = ap (λ (l : List Entity). taken_of taken (xs ++ (ys ++ zs)) l) a in
      omega (arith, just)

  -- where some stopped, all did, those before them and those behind
  pub broke_among : (xs ys zs : List X) (before between after : List Entity) (stage stage' : List Command) (dry : Bool)
      → AllTook commands taken xs before between stage stage' → Broke (taken_of taken ys) between after dry
      → Broke (taken_of taken (xs ++ (ys ++ zs))) before after dry
  broke_among xs ys zs before between after stage stage' dry h b =
      let draws = h.0 in
      let mine = b.0 in
      let len = length-append draws mine in
      let least : (later : List Entity)
      → length draws + taken_of taken ys (mine ++ later) ≤ taken_of taken (xs ++ (ys ++ zs)) ((draws ++ mine) ++ later) =
      λ later. least_taken xs ys zs draws mine later (h.2 (mine ++ later)).0 in (
        draws ++ mine,
        b.1 ∙ ap (λ l. l ++ mine) h.1 ∙ append_assoc before draws mine,
        (λ later. let t = least later in let m = b.2 later in omega arith),
        (λ is later. let t = least later in let m = b.3 is later in omega arith),
      )

  pub broke_more : (xs : List X) → BreaksAll commands taken xs
  broke_more xs i x before between after stage stage' dry at h b =
      let rest = drop (i + 1) xs in
      let split : xs ≡ take i xs ++ x ∷ rest = sym (take-append-drop i xs) ∙ ap (λ l. take i xs ++ l)
      (drop_more xs i x (slice_get_within xs i x at) ∙ ap (λ y. y ∷ rest) (get_or_from_slice_get xs i x x at)) in
      let one : Broke (taken_of taken (x ∷ [])) between after dry =
      (b.0, b.1, (λ later. let m = b.2 later in omega arith), (λ is later. let m = b.3 is later in omega arith)) in
      subst (λ (l : List X). Broke (taken_of taken l) before after dry) (sym split)
      (broke_among (take i xs) (x ∷ []) rest before between after stage stage' dry h one)

  -- none took nothing
  pub took_none : (before : List Entity) (stage : List Command) → AllTook commands taken [] before before stage stage
  took_none before stage = ([], sym (append-nil before), λ later. (refl, sym (append-nil stage)))
