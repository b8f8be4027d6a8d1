-- A call of the store, seen as a step of the world.
use Rattle.eco_world.proofs.Common.{◌≡◌, ℕ, Bool, true, false, not, ◌&&◌, List, [], ◌∷◌, Option, Result, Err, MatchOption, MatchBool, IsTrue}
use Rattle.eco_world.proofs.Common.{refl, sym, ap, subst, Edition, Entity, Refusal, NotAlive, Reserved, BadName, NameTaken, is_builtin, Indexed, IsLawful}
use Rattle.eco_world.proofs.Common.{Meets, Answers, Refuses, first_refusal, is_out_of_memory, Renames, may_rename, own_name, with_name, WorldState, Record}
use Rattle.eco_world.proofs.Common.{entities, OnEntities, is_alive, IsUnfit, QueryTerm, world_with}
use Rattle.eco_ids.specs.Names.{is_proper, is_same_name, is_taken}
use Rattle.eco_ids.proofs.Admits.{meets_lawful}
use Rattle.eco_ids.specs.Indices as indexed

-- a call that meets a step meets one that follows from it, of the same state or of what is made of it
pub meets_as : {A S T : Type 0} (Step : Result A Refusal → S → Type 0) (Other : Result A Refusal → T → Type 0) (may other : Bool) (old new : S) (was now : T)
    (r : Result A Refusal) → (IsTrue may → new ≡ old → IsTrue other × (now ≡ was)) → (Step r new → Other r now) → Meets Step may old r new
    → Meets Other other was r now
meets_as Step Other may other old new was now r wanting done =
    elim (is_out_of_memory r) as (λ b. MatchBool b (IsTrue may × (new ≡ old)) (Step r new) → MatchBool b (IsTrue other × (now ≡ was)) (Other r now)) [
      | true ↦ λ m. wanting m.0 m.1
      | false ↦ done
    ]

-- a call that meets a step of the entities meets it in the world
pub lifted : {A : Type 0} (edition : Edition) (qs : List (List QueryTerm)) (Step : Indexed Record → Result A Refusal → Indexed Record → Type 0) (may : Bool)
    (v new : Indexed Record) (r : Result A Refusal) → Meets (Step v) may v r new
    → Meets (OnEntities Step (world_with edition v qs)) may (world_with edition v qs) r (world_with edition new qs)
lifted edition qs Step may v new r = meets_as (Step v) (OnEntities Step (world_with edition v qs)) may may v new _ _ r
    (λ wants same. (wants, ap (λ x. world_with edition x qs) same)) (λ made. (new, made, refl))

-- a call that meets a step which keeps the world lawful does so, as the store is seen
pub met_lawful : {A : Type 0} (Step : Result A Refusal → WorldState → Type 0) (may : Bool) (seen w new : WorldState) (r : Result A Refusal)
    → seen ≡ w →
    IsLawful seen → (IsLawful w → Step r new → IsLawful new) → Meets Step may w r new → IsLawful new
met_lawful Step may seen w new r is was keeps = let lawful = subst IsLawful is was in meets_lawful Step may w r new lawful (keeps lawful)

module _ (w : WorldState) (e : Entity) (reserved : Bool) (why : Refusal) (unfit : IsUnfit w e reserved why) where
  -- what is refused for who acts is met by each step that refuses that
  refused_for : {S : Type 0} (Step : Result (Unit {0}) Refusal → S → Type 0) (may : Bool) (s : S) → Step (Err why) s → Meets Step may s (Err why) s
  refused_for Step may s step = subst (λ b. MatchBool b (IsTrue may × (s ≡ s)) (Step (Err why) s)) (sym unfit.other) step

  -- so does each step that asks for that first
  asked_first : {S : Type 0} (later : List (Bool × Refusal)) (Done : Result (Unit {0}) Refusal → S → Type 0) (s : S) →
      MatchOption (first_refusal ((not (is_alive w e), NotAlive) ∷ (reserved, Reserved) ∷ later)) (Done (Err why) s)
      (λ y. Refuses {A = Unit {0}} y s (Err why) s)
  asked_first later Done s = subst (λ o. MatchOption o (Done (Err why) s) (λ y. Refuses {A = Unit {0}} y s (Err why) s)) (sym (unfit.first later)) (refl, refl)

  pub refused : (later : List (Bool × Refusal)) (Done : Result (Unit {0}) Refusal → WorldState → Type 0) (may : Bool) →
      Meets (λ r new. MatchOption (first_refusal ((not (is_alive w e), NotAlive) ∷ (reserved, Reserved) ∷ later)) (Done r new)
      (λ y. Refuses y w r new)) may w (Err why) w
  refused later Done may =
      refused_for (λ r new. MatchOption (first_refusal ((not (is_alive w e), NotAlive) ∷ (reserved, Reserved) ∷ later)) (Done r new)
      (λ y. Refuses y w r new)) may w (asked_first later Done w)

module _ (w : WorldState) (e : Entity) (why : Refusal) (unfit : IsUnfit w e (is_builtin w e) why) where
  pub rename_refused : (name : Option (List ℕ)) → Meets (Renames w e name) (may_rename w e name) w (Err why) w
  rename_refused name =
      refused_for w e (is_builtin w e) why unfit (Renames w e name) (may_rename w e name) w (
        entities w,
        asked_first w e (is_builtin w e) why unfit
            ((not (is_proper name), BadName) ∷ (not (is_same_name (own_name w e) name) && is_taken w name, NameTaken) ∷ [])
            (λ r new. Answers tt (indexed.changed (entities w) e (with_name name)) r new) (entities w),
        refl,
      )
