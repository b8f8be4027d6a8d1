-- Where memory is never wanting, each step has one answer and leads to one world.
use Rattle.eco_script.proofs.Common.{◌≡◌, ◌≢◌, ℕ, Bool, true, false, true≢false, inl, inr, List, [], ◌∷◌, ◌++◌, Option, Some, None}
use Rattle.eco_script.proofs.Common.{Result, Ok, Err, refl, ap, ◌∙◌, sym, flat_map, slice_get, ◌||◌, subst, IsFalse, IsTrue, MatchResult, MatchBool}
use Rattle.eco_script.proofs.Common.{or_parts, Entity, Id, Refusal, NoMoreIds, NotAlive, OutOfMemory, list_any, Creates, MakesAlive, MakesComponent, may_admit}
use Rattle.eco_script.proofs.Common.{admitted, lookup, is_out_of_memory, Refuses, Answers, Meets, QueryTerm, WorldState, entities, is_alive, with_entities}
use Rattle.eco_script.proofs.Common.{SpellsId, SpellsQuery, SpellsRef, QuerySlot, Reads, ReadsInMemory, ReadsOnce, entity_of_placed, id_of, ok_both, ok_map}
use Rattle.eco_script.proofs.Common.{query_of, Phase, Action, is_frame, Reply, done, merged, shown, with_declared, AnswersAdded, Calls, Changes, DeclaresSystem}
use Rattle.eco_script.proofs.Common.{On, ReadsSystem, Replies, StepReplies, Then, NamedSystem, ScriptState, WrittenChange, WrittenCommand, Outcomes, Merges}
use Rattle.eco_script.proofs.Common.{RunsAdmitted, may_merge, DoesBut, Text, TextInMemory, has_wanted, step_lines}
use Rattle.eco_ids.specs.declared.value.Value.{Value}
use Rattle.eco_ids.specs.Delete.{DeletesOne, DeletesWith}
use Rattle.eco_ids.specs.Laws.{HasOneEnd}
use Rattle.eco_ids.specs.Step.{Adds, Sets, Removes, Clears, RemovesAll, Renames}
use Rattle.eco_script.specs.Recording.{MakesOfNamed, ReadsAction, ReadsActions, ReadsChange, ReadsCommand, ReadsCommands, ReadsEach, has_stages}
use Rattle.eco_script.specs.References.{ReadsBoth, ReadsEntity, ReadsId, ReadsQuery}
use Rattle.eco_ids.specs.Run as run
use Rattle.eco_steps.specs.Actions as texts
use Rattle.eco_steps.specs.Commands as command
use Rattle.eco_steps.specs.Steps as step

-- one answer and one end at most, where memory was not wanting, as this tells of an answer
abbrev OnceBy : {A S : Type 0} → (Result A Refusal → Bool) → (Result A Refusal → S → Type 0) → Type 0
OnceBy {A} {S} wanted Step = (r q : Result A Refusal) (new other : S) → IsFalse (wanted r) → IsFalse (wanted q)
    → Step r new → Step q other → (r ≡ q) × (new ≡ other)

abbrev Once : {A S : Type 0} → (Result A Refusal → S → Type 0) → Type 0
Once = OnceBy is_out_of_memory

-- likewise, where memory was wanting for no command of a merge either
abbrev OnceInMemory : {S : Type 0} → (Result Reply Refusal → S → Type 0) → Type 0
OnceInMemory = OnceBy has_wanted

plainly : {S : Type 0} (Step : Result Reply Refusal → S → Type 0) → Once Step → OnceInMemory Step
plainly Step one r q new other f g p h = one r q new other (or_parts (is_out_of_memory r) _ f).0 (or_parts (is_out_of_memory q) _ g).0 p h

meets_once : {A S : Type 0} (Step : Result A Refusal → S → Type 0) (may : Bool) (w : S)
    → ((r q : Result A Refusal) (new other : S) → Step r new → Step q other → (r ≡ q) × (new ≡ other)) → Once (Meets Step may w)
meets_once Step may w one r q new other f g p h = one r q new other (rw f at p) (rw g at h)

answers_once : {A : Type 0} (x : A) (after : WorldState) (r q : Result A Refusal) (new other : WorldState)
    → Answers x after r new → Answers x after q other → (r ≡ q) × (new ≡ other)
answers_once x after r q new other (a, b) (c, d) = (a ∙ sym c, b ∙ sym d)

refuses_once : {A : Type 0} (why : Refusal) (w : WorldState) (r q : Result A Refusal) (new other : WorldState)
    → Refuses why w r new → Refuses why w q other → (r ≡ q) × (new ≡ other)
refuses_once why w r q new other (a, b) (c, d) = (a ∙ sym c, b ∙ sym d)

mapped_plain : {A : Type 0} (reply : A → Reply) (x : Result A Refusal) → is_out_of_memory x ≡ is_out_of_memory (ok_map reply x)
mapped_plain reply (Ok x) = refl
mapped_plain reply (Err OutOfMemory) = refl
mapped_plain reply (Err _) = refl

calls_once : {A : Type 0} (wanted : Result Reply Refusal → Bool) (Call : Result A Refusal → WorldState → Type 0) (reply : A → Reply)
    → OnceBy (λ x. wanted (ok_map reply x)) Call → OnceBy wanted (Calls Call reply)
calls_once wanted Call reply one r q new other f g (x, c, is) (y, d, at) =
    let (same, end) = one x y new other (ap wanted (sym is) ∙ f) (ap wanted (sym at) ∙ g) c d in
    (is ∙ ap (ok_map reply) same ∙ sym at, end)

plain_calls : {A : Type 0} (Call : Result A Refusal → WorldState → Type 0) (reply : A → Reply) → Once Call → Once (Calls Call reply)
plain_calls Call reply one =
    calls_once is_out_of_memory Call reply (λ x y new other f g. one x y new other (mapped_plain reply x ∙ f) (mapped_plain reply y ∙ g))

-- a text that is read in one way at most, where memory is never wanting for it; where it is, it is for the step too
on_once : {A B : Type 0} (wanted : Result B Refusal → Bool) → IsTrue (wanted (Err OutOfMemory)) → (Reads : Result A Refusal → Type 0) (w : WorldState)
    (Goes : A → Result B Refusal → WorldState → Type 0)
    → ((n m : Result A Refusal) → n ≢ Err OutOfMemory → m ≢ Err OutOfMemory → Reads n → Reads m → n ≡ m)
    → ((x : A) → OnceBy wanted (Goes x)) → OnceBy wanted (On Reads w Goes)
on_once {A} {B} wanted wants Reads w Goes one goes r q new other f g (n, p, c) (m, h, d) =
    same n c (subst (After q other) (sym (one n m (plain r new f n c) (plain q other g m d) p h)) d) where
      After : Result B Refusal → WorldState → Result A Refusal → Type 0
      After r new n = MatchResult n (λ x. Goes x r new) (λ why. Refuses why w r new)

      plain : (r : Result B Refusal) (new : WorldState) → IsFalse (wanted r) → (n : Result A Refusal) → After r new n → n ≢ Err OutOfMemory
      plain r new f n c none = true≢false (sym wants ∙ ap wanted (sym (subst (After r new) none c).0) ∙ f)

      same : (n : Result A Refusal) → After r new n → After q other n → (r ≡ q) × (new ≡ other)
      same (Ok x) c d = goes x r q new other f g c d
      same (Err why) c d = refuses_once why w r q new other c d

-- a reading that isn't refused for want of memory is one of the text alone
in_memory : {X T : Type 0} {Spells : List ℕ → X → Type 0} {meaning : X → Result T Refusal} {text : List ℕ} (n : Result T Refusal) → n ≢ Err OutOfMemory
    → ReadsInMemory Spells meaning text n → Reads Spells meaning text n
in_memory n some (inl read) = read
in_memory n some (inr (x, spelled, is, none)) = absurd (some none)

names_once : {A C : Type 0} (Reads : Result A Refusal → Type 0) (make : A → C) → ((n m : Result A Refusal) → Reads n → Reads m → n ≡ m)
    → (r q : Result C Refusal) → MakesOfNamed Reads make r → MakesOfNamed Reads make q → r ≡ q
names_once Reads make one r q (x, p, is) (y, h, at) = is ∙ ap (ok_map make) (one x y p h) ∙ sym at

-- texts that are each read in one way at most
module _ {T C : Type 0} (One : T → Result C Refusal → Type 0) where
  -- what stands behind the first
  abbrev Behind : List T → Result (List C) Refusal → Result C Refusal → Type 0
  Behind ts r first =
      MatchResult first (λ x. (rest : Result (List C) Refusal) × ReadsEach One ts rest × (r ≡ ok_map (λ xs. x ∷ xs) rest)) (λ why. r ≡ Err why)

  behind_once : (ts : List T) → ((r q : Result (List C) Refusal) → ReadsEach One ts r → ReadsEach One ts q → r ≡ q)
      → (r q : Result (List C) Refusal) (x : Result C Refusal) → Behind ts r x → Behind ts q x → r ≡ q
  behind_once ts others r q (Ok x) (rest, more, is) (other, less, at) = is ∙ ap (ok_map (λ xs. x ∷ xs)) (others rest other more less) ∙ sym at
  behind_once ts others r q (Err why) is at = is ∙ sym at

  each_once : ((t : T) (r q : Result C Refusal) → One t r → One t q → r ≡ q)
      → (ts : List T) (r q : Result (List C) Refusal) → ReadsEach One ts r → ReadsEach One ts q → r ≡ q
  each_once one [] r q p h = p ∙ sym h
  each_once one (t ∷ ts) r q (x, first, p) (y, other, h) =
      behind_once ts (λ a b m k. each_once one ts a b m k) r q x p (subst (Behind ts q) (sym (one t x y first other)) h)

-- the laws of what the steps stand on
pub record Laws : Type 0 where
  pub refs : (entity_named : List ℕ → Option Entity) → ReadsOnce SpellsRef (entity_of_placed entity_named)
  pub ids : (entity_named : List ℕ → Option Entity) → ReadsOnce SpellsId (id_of entity_named)
  pub queries : (entity_named : List ℕ → Option Entity) → ReadsOnce SpellsQuery (query_of entity_named)
  pub create : (name : Option (List ℕ)) → HasOneEnd (λ w. Creates w name)
  pub component : (name : Option (List ℕ)) (fields : ℕ) → HasOneEnd (λ w. MakesComponent w name fields)
  pub add : (e : Entity) (i : Id) → HasOneEnd (λ w. Adds w e i)
  pub set : (e : Entity) (i : Id) (v : Value) → HasOneEnd (λ w. Sets w e i v)
  pub remove : (e : Entity) (i : Id) → HasOneEnd (λ w. Removes w e i)
  pub clear : (e : Entity) → HasOneEnd (λ w. Clears w e)
  pub rename : (e : Entity) (name : Option (List ℕ)) → HasOneEnd (λ w. Renames w e name)
  pub remove_all : (i : Id) → HasOneEnd (λ w. RemovesAll w i)
  pub delete : (e : Entity) → HasOneEnd (λ w. DeletesOne w e)
  pub delete_with : (i : Id) → HasOneEnd (λ w. DeletesWith w i)
  pub make_alive : (e : Entity) → HasOneEnd (λ w. MakesAlive w e)

-- a merge: its texts name one list of commands at most, and these have one run
module _ (l : Laws) where
  applies_once : (c : run.Command) → HasOneEnd (run.Applies c)
  applies_once (run.Create e) = l.make_alive e
  applies_once (run.Add e i) = l.add e i
  applies_once (run.Remove e i) = l.remove e i
  applies_once (run.Set e i v) = l.set e i v
  applies_once (run.Clear e) = l.clear e
  applies_once (run.Rename e name) = l.rename e name
  applies_once (run.Delete e) = l.delete e
  applies_once (run.DeleteWith i) = l.delete_with i
  applies_once (run.RemoveAll i) = l.remove_all i

  runs_once : (cs : List run.Command) (w : WorldState) (rs qs : Outcomes) (new other : WorldState) → IsFalse (list_any is_out_of_memory rs)
      → IsFalse (list_any is_out_of_memory qs) → run.Runs w cs rs new → run.Runs w cs qs other → (rs ≡ qs) × (new ≡ other)
  runs_once [] w [] [] new other f g p h = (refl, p ∙ sym h)
  runs_once [] w [] (q ∷ qs) new other f g p h = absurd h
  runs_once [] w (r ∷ rs) qs new other f g p h = absurd p
  runs_once (c ∷ cs) w [] qs new other f g p h = absurd p
  runs_once (c ∷ cs) w (r ∷ rs) [] new other f g p h = absurd h
  runs_once (c ∷ cs) w (r ∷ rs) (q ∷ qs) new other f g (mid, one, more) (way, two, rest) =
      let (f0, fs) = or_parts (is_out_of_memory r) (list_any is_out_of_memory rs) f in
      let (g0, gs) = or_parts (is_out_of_memory q) (list_any is_out_of_memory qs) g in
      let (same, at) = meets_once (run.Applies c w) (run.may_want c w) w (applies_once c w) r q mid way f0 g0 one two in
      let (others, end) = runs_once cs mid rs qs new other fs gs more (subst (λ v. run.Runs v cs qs other) (sym at) rest) in
      (ap (λ x. x ∷ rs) same ∙ ap (λ xs. q ∷ xs) others, end)

  module _ (w : WorldState) where
    entity_once : (text : List ℕ) (n m : Result Entity Refusal) → ReadsEntity w text n → ReadsEntity w text m → n ≡ m
    unfolding ReadsEntity
    entity_once text n m = l.refs (lookup w) text n m

    id_once : (text : List ℕ) (n m : Result Id Refusal) → ReadsId w text n → ReadsId w text m → n ≡ m
    unfolding ReadsId
    id_once text n m = l.ids (lookup w) text n m

    both_once : (e i : List ℕ) (n m : Result (Entity × Id) Refusal) → ReadsBoth w e i n → ReadsBoth w e i m → n ≡ m
    both_once e i n m (x, y, p, q, is) (u, v, h, k, at) =
        is ∙ ap (λ a. ok_both (λ s t. (s, t)) a y) (entity_once e x u p h) ∙ ap (λ b. ok_both (λ s t. (s, t)) u b) (id_once i y v q k) ∙ sym at

    change_once : (c : WrittenChange) (r q : Result run.Command Refusal) → ReadsChange w c r → ReadsChange w c q → r ≡ q
    change_once (command.add e i) = names_once _ _ (both_once e i)
    change_once (command.remove e i) = names_once _ _ (both_once e i)
    change_once (command.set e i v) = names_once _ _ (both_once e i)
    change_once (command.clear e) = names_once _ _ (entity_once e)
    change_once (command.rename e name) = names_once _ _ (entity_once e)
    change_once (command.delete e) = names_once _ _ (entity_once e)
    change_once (command.delete_with i) = names_once _ _ (id_once i)
    change_once (command.remove_all i) = names_once _ _ (id_once i)

    command_once : (c : WrittenCommand) (r q : Result run.Command Refusal) → ReadsCommand w c r → ReadsCommand w c q → r ≡ q
    command_once (command.create e) = names_once _ _ (entity_once e)
    command_once (command.change c) = change_once c

    commands_once : (cs : List WrittenCommand) (r q : Result (List run.Command) Refusal) → ReadsCommands w cs r → ReadsCommands w cs q → r ≡ q
    commands_once = each_once (ReadsCommand w) command_once

    action_once : (a : texts.WrittenAction) (r q : Result Action Refusal) → ReadsAction w a r → ReadsAction w a q → r ≡ q
    action_once (texts.add i) = names_once _ _ (id_once i)
    action_once (texts.remove i) = names_once _ _ (id_once i)
    action_once (texts.put slot v) = λ r q is at. is ∙ sym at
    action_once (texts.sum into from) = λ r q is at. is ∙ sym at
    action_once texts.kill = λ r q is at. is ∙ sym at
    action_once (texts.spawn None) = λ r q is at. is ∙ sym at
    action_once (texts.spawn (Some i)) = names_once _ _ (id_once i)

    actions_once : (acts : List texts.WrittenAction) (r q : Result (List Action) Refusal) → ReadsActions w acts r → ReadsActions w acts q → r ≡ q
    actions_once = each_once (ReadsAction w) action_once

    merges_once : (n : ℕ) (cs : List run.Command) (may : Bool) (x y : Result Outcomes Refusal) (new other : WorldState)
        → IsFalse (has_wanted (ok_map merged x)) → IsFalse (has_wanted (ok_map merged y))
        → MatchBool may (RunsAdmitted w n cs x new) (Refuses NoMoreIds w x new)
        → MatchBool may (RunsAdmitted w n cs y other) (Refuses NoMoreIds w y other) → (x ≡ y) × (new ≡ other)
    merges_once n cs false x y new other f g (a, b) (c, d) = (a ∙ sym c, b ∙ sym d)
    merges_once n cs true x y new other f g (rs, is, p) (qs, at, h) =
        let (same, end) = runs_once cs (with_entities w (admitted n (entities w))) rs qs new other
        (subst (λ z. IsFalse (has_wanted (ok_map merged z))) is f) (subst (λ z. IsFalse (has_wanted (ok_map merged z))) at g) p h in
        (is ∙ ap Ok same ∙ sym at, end)

    merge_once : (n : ℕ) (ss : List (List WrittenCommand)) (may : Bool)
        → OnceInMemory (Meets (On (ReadsCommands w (flat_map (λ s. s) ss)) w (λ cs. Calls (Merges w n cs) merged)) may w)
    merge_once n ss may r q new other f g p h =
        on_once has_wanted refl (ReadsCommands w (flat_map (λ s. s) ss)) w (λ cs. Calls (Merges w n cs) merged)
        (λ x y _ _. commands_once (flat_map (λ s. s) ss) x y)
        (λ cs. calls_once has_wanted (Merges w n cs) merged (λ x y. merges_once n cs (may_admit (entities w) n) x y)) r q new other f g
        (rw (or_parts (is_out_of_memory r) _ f).0 at p) (rw (or_parts (is_out_of_memory q) _ g).0 at h)

module _ (l : Laws) (w : WorldState) where
  on_entity : (text : List ℕ) (Goes : Entity → Result Reply Refusal → WorldState → Type 0) → ((x : Entity) → Once (Goes x))
      → Once (On (ReadsEntity w text) w Goes)
  on_entity text Goes = on_once is_out_of_memory refl (ReadsEntity w text) w Goes (λ n m _ _. entity_once l w text n m)

  on_id : (text : List ℕ) (Goes : Id → Result Reply Refusal → WorldState → Type 0) → ((x : Id) → Once (Goes x))
      → Once (On (ReadsId w text) w Goes)
  on_id text Goes = on_once is_out_of_memory refl (ReadsId w text) w Goes (λ n m _ _. id_once l w text n m)

  on_query : (text : List ℕ) (Goes : List QuerySlot → Result Reply Refusal → WorldState → Type 0) → ((q : List QuerySlot) → Once (Goes q))
      → Once (On (ReadsQuery w text) w Goes)
  unfolding ReadsQuery
  on_query text Goes goes =
      on_once is_out_of_memory refl (ReadsQuery w text) w Goes (λ n m p h a b. l.queries (lookup w) text n m (in_memory n p a) (in_memory m h b)) goes

  meets : {A : Type 0} (Step : Result A Refusal → WorldState → Type 0) (may : Bool) (reply : A → Reply)
      → ((r q : Result A Refusal) (new other : WorldState) → Step r new → Step q other → (r ≡ q) × (new ≡ other)) → Once (Calls (Meets Step may w) reply)
  meets Step may reply one = plain_calls (Meets Step may w) reply (meets_once Step may w one)

  answered : (x : Reply) → Once (Answers x w)
  answered x r q new other f g = answers_once x w r q new other

  show_once : (e : Entity) (alive : Bool) → Once (λ r new. MatchBool alive (Answers (shown e) w r new) (Refuses NotAlive w r new))
  show_once e true r q new other f g c d = answers_once (shown e) w r q new other c d
  show_once e false r q new other f g c d = refuses_once NotAlive w r q new other c d

  added_once : (o : Option (List QueryTerm)) → Once (AnswersAdded w o)
  added_once None r q new other f g (a, b) (c, d) = (a ∙ sym c, b ∙ sym d)
  added_once (Some slots) r q new other f g p h = meets_once _ _ w (answers_once _ w) r q new other f g p h

  replies_once : (s : step.WrittenStep) → OnceInMemory (Replies w s)
  replies_once (step.create name) = plainly _ (meets _ _ _ (l.create name w))
  replies_once (step.component name n) = plainly _ (meets _ _ _ (l.component (Some name) n w))
  replies_once (step.change c) =
      plainly _ (plain_calls (Changes w c) (λ _. done) (on_once is_out_of_memory refl (ReadsChange w c) w _ (λ n m _ _. change_once l w c n m)
      (λ x. meets_once (run.Applies x w) (run.may_want x w) w (applies_once l x w))))
  replies_once (step.has e i) = plainly _ (on_entity e _ (λ x. on_id i _ (λ y. answered _)))
  replies_once (step.get e i) = plainly _ (on_entity e _ (λ x. on_id i _ (λ y. answered _)))
  replies_once (step.show e) = plainly _ (on_entity e _ (λ x. show_once x (is_alive w x)))
  replies_once step.list = plainly _ (meets_once _ _ w (answers_once _ w))
  replies_once (step.query text) = plainly _ (on_query text _ (λ q. meets_once _ _ w (answers_once _ w)))
  replies_once (step.cache text) = plainly _ (on_query text _ (λ q. meets _ _ _ (answers_once _ _)))
  replies_once (step.cached n) = plainly _ (added_once (slice_get w.queries n))
  replies_once (step.merge n ss) = merge_once l w n ss (has_stages ss || may_merge w n [])
  replies_once (step.system name phase text actions) = λ r q new other f g p h. absurd p
  replies_once step.frame = λ r q new other f g p h. absurd p

-- systems: their texts name one at most
module _ (l : Laws) (s : ScriptState) where
  -- what was read is gone on with
  abbrev Onward : {A C : Type 0} → (A → Result C Refusal → Type 0) → Result C Refusal → Result A Refusal → Type 0
  Onward Goes r k = MatchResult k (λ x. Goes x r) (λ why. r ≡ Err why)

  -- a text is read, and gone on with: refused for want of memory, so is the answer
  then_once : {A C : Type 0} (Reads : Result A Refusal → Type 0) (Goes : A → Result C Refusal → Type 0)
      → ((n m : Result A Refusal) → n ≢ Err OutOfMemory → m ≢ Err OutOfMemory → Reads n → Reads m → n ≡ m)
      → ((x : A) (r q : Result C Refusal) → IsFalse (is_out_of_memory r) → IsFalse (is_out_of_memory q) → Goes x r → Goes x q → r ≡ q)
      → (r q : Result C Refusal) → IsFalse (is_out_of_memory r) → IsFalse (is_out_of_memory q) → Then Reads Goes r → Then Reads Goes q → r ≡ q
  then_once {A} {C} Reads Goes one goes r q f g (n, p, c) (m, h, d) =
      same n c (subst (Onward Goes q) (sym (one n m (plain r f n c) (plain q g m d) p h)) d) where
        plain : (r : Result C Refusal) → IsFalse (is_out_of_memory r) → (n : Result A Refusal) → Onward Goes r n → n ≡ Err OutOfMemory → ⊥
        plain r f n c none = let a = subst (Onward Goes r) none c in true≢false (sym (ap is_out_of_memory a) ∙ f)

        same : (n : Result A Refusal) → Onward Goes r n → Onward Goes q n → r ≡ q
        same (Ok x) c d = goes x r q f g c d
        same (Err why) a b = a ∙ sym b

  system_once : (name : List ℕ) (phase : Phase) (text : List ℕ) (acts : List texts.WrittenAction) (r q : Result NamedSystem Refusal)
      → IsFalse (is_out_of_memory r) → IsFalse (is_out_of_memory q)
      → ReadsSystem s name phase text acts r → ReadsSystem s name phase text acts q → r ≡ q
  unfolding ReadsQuery
  system_once name phase text acts =
      then_once (ReadsQuery s.world text) _ (λ n m p h a b. l.queries (lookup s.world) text n m (in_memory n p a) (in_memory m h b))
      (λ slots. then_once (ReadsActions s.world acts) _ (λ n m _ _ a b. actions_once l s.world acts n m a b)
      (λ named r q _ _ is at. is ∙ sym at))

  declares_once : (name : List ℕ) (phase : Phase) (text : List ℕ) (acts : List texts.WrittenAction) → Once (DeclaresSystem s name phase text acts)
  declares_once name phase text acts r q new other f g p h =
      let (x, one, is, a) = rw f at p in
      let (y, two, at, b) = rw g at h in
      let same : x ≡ y = system_once name phase text acts x y (mapped_plain (λ _. done) x ∙ ap is_out_of_memory (sym is) ∙ f)
      (mapped_plain (λ _. done) y ∙ ap is_out_of_memory (sym at) ∙ g) one two in
      (is ∙ ap (ok_map (λ _. done)) same ∙ sym at, a ∙ ap (with_declared s) same ∙ sym b)

  same_state : (a b : ScriptState) → a.world ≡ b.world → a.systems ≡ b.systems → a ≡ b
  same_state a b p q =
      ap (λ w. let c : ScriptState = record { world = w; systems = a.systems } in c) p
      ∙ ap (λ ds. let c : ScriptState = record { world = b.world; systems = ds } in c) q

  world_once : (t : step.WrittenStep) → OnceInMemory (λ r (new : ScriptState). Replies s.world t r new.world × (new.systems ≡ s.systems))
  world_once t r q new other f g (p, a) (h, b) =
      let (same, end) = replies_once l s.world t r q new.world other.world f g p h in (same, same_state new other end (a ∙ sym b))

  pub step_once : (m n : ℕ) (t : step.WrittenStep) → IsFalse (is_frame t) → (r q : Result Reply Refusal) (new other : ScriptState) → IsFalse (has_wanted r)
      → IsFalse (has_wanted q) → StepReplies m s t r new → StepReplies n s t q other → (r ≡ q) × (new ≡ other)
  step_once m n (step.system name phase text acts) plain = plainly _ (declares_once name phase text acts)
  step_once m n step.frame plain = absurd (true≢false plain)
  step_once m n t plain = world_once t

  does_once : (x y : ℕ) (t : step.WrittenStep) (a b : List ℕ) (m n : ScriptState) → IsFalse (is_frame t) → DoesBut has_wanted x s t a m
      → DoesBut has_wanted y s t b n → (a ≡ b) × (m ≡ n)
  does_once x y t a b m n plain (r, p, f, e) (q, h, g, k) =
      let (same, end) = step_once x y t plain r q m n f g p h in
      (e ∙ ap (λ v. step_lines v.world r) end ∙ ap (step_lines n.world) same ∙ sym k, end)

pub text_once : (l : Laws) (v w : ℕ) (s : ScriptState) (ss : List step.WrittenStep) (t u : List ℕ) (e f : ScriptState) → IsFalse (list_any is_frame ss)
    → TextInMemory v s ss t e → TextInMemory w s ss u f → (t ≡ u) × (e ≡ f)
text_once l v w s [] t u e f plain (p, q) (h, k) = (p ∙ sym h, q ∙ sym k)
text_once l v w s (x ∷ xs) t u e f plain (a, rest, m, d, more, p) (b, other, n, g, less, h) =
    let (one, others) = or_parts (is_frame x) (list_any is_frame xs) plain in
    let (first, mid) = does_once l s v w x a b m n one d g in
    let (same, end) = text_once l v w m xs rest other e f others more (subst (λ z. TextInMemory w z xs other f) (sym mid) less) in
    (p ∙ ap (λ v. v ++ rest) first ∙ ap (λ v. b ++ v) same ∙ sym h, end)

pub text_may_be : (workers : ℕ) (s : ScriptState) (ss : List step.WrittenStep) (t : List ℕ) (e : ScriptState) → TextInMemory workers s ss t e
    → Text workers s ss t e
text_may_be workers s [] t e h = h
text_may_be workers s (x ∷ xs) t e (a, rest, m, (r, p, f, is), more, h) = (a, rest, m, (r, p, is), text_may_be workers m xs rest e more, h)
