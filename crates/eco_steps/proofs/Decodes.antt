-- What is found in a value is exactly the script that it is.
use Rattle.eco_steps.proofs.Common.{◌≡◌, ◌≤◌, ℕ, zero, suc, true, List, [], ◌∷◌, map, Option, Some, None, option_map, option_and_then, refl}
use Rattle.eco_steps.proofs.Common.{ap, sym, subst, ◌∙◌, codes, arith, option_or, bytes_eq, All, AllZip, option_and_then_some, as_str, Edition, First, Second}
use Rattle.eco_steps.proofs.Common.{builtin_count, largest_arity, list_in, each_in, name_in, number_in, value_of_data, change_with, change_of_text}
use Rattle.eco_steps.proofs.Common.{change_of_texts, change_of_two, change_of_three, text_changes, texts_changes, bare_steps, text_steps, texts_steps}
use Rattle.eco_steps.proofs.Common.{created_of, command_with, command_in, stage_in, stages_in, step_of_none, step_of_one, step_of_text, step_of_texts}
use Rattle.eco_steps.proofs.Common.{step_of_two, step_of, words_in, merge_of_data, phase_of, actions_in, named_system_of_data, system_of_data, step_with}
use Rattle.eco_steps.proofs.Common.{step_in, Parts, edition_of, limit_in, parts_of, parts_in, parts_with, script_of, script_in, version_in}
use Rattle.std.proofs.lemmas.List.Elements.{All-cons, All-nil}
use Rattle.serde_json.specs.Data.{Data, number, string, unsigned}
use Rattle.eco_steps.specs.Script.{WrittenScript, IsScriptData, IsScript, version}
use Rattle.eco_steps.specs.Steps.{WrittenStep, create, component, change, has, get, show, list, query, cache, cached, merge, system, frame, IsChangeData}
use Rattle.eco_steps.specs.Steps.{IsCommandData, IsStageData, IsStagesData, IsStepData, KeepsTo, written_list, list_data}
use Rattle.eco_steps.specs.Commands.{WrittenChange, WrittenCommand, add, remove, set, clear, rename, delete, delete_with, remove_all}
use Rattle.eco_steps.proofs.Values.{mapped, items_list-items_of, each_found, each_is}
use Rattle.eco_steps.proofs.Parts.{number_in_range, value_found, chosen, of_table, word_is, str_is, name_is, number_is, list_is, value_is, words_is}
use Rattle.eco_steps.proofs.Acts.{phase_found, phase_is, actions_found, actions_are}
use Rattle.eco_steps.specs.Commands as command

module _ (edition : Edition) where
  -- ---- what is written is found

  -- a change, as a step and as a command
  change_found : (d : Data) (c : WrittenChange) → IsChangeData edition d c
      → (step_in edition d ≡ Some (change c)) × (command_in edition d ≡ Some (command.change c))
  change_found d (add e i) is = rw is (refl, refl)
  change_found d (remove e i) is = rw is (refl, refl)
  change_found d (set e i v) (value, is, of) = rw (is, value_found edition value v of) (refl, refl)
  change_found d (clear e) is = rw is (refl, refl)
  change_found d (rename e None) is = rw is (refl, refl)
  change_found d (rename e (Some name)) is = rw is (refl, refl)
  change_found d (delete e) is = rw is (refl, refl)
  change_found d (delete_with i) is = rw is (refl, refl)
  change_found d (remove_all i) is = rw is (refl, refl)

  command_found : (d : Data) (c : WrittenCommand) → IsCommandData edition d c → command_in edition d ≡ Some c
  command_found d (command.create handle) is = rw is refl
  command_found d (command.change c) is = (change_found d c is).1

  stage_found : (d : Data) (cs : List WrittenCommand) → IsStageData edition d cs → stage_in edition d ≡ Some cs
  stage_found d cs (items, is, are) = rw (is, items_list-items_of items) (each_found (command_in edition) (IsCommandData edition) command_found items cs are)

  stages_found : (d : Data) (stages : List (List WrittenCommand)) → IsStagesData edition d stages → stages_in edition d ≡ Some stages
  stages_found d stages (items, is, are) = rw (is, items_list-items_of items) (each_found (stage_in edition) (IsStageData edition) stage_found items stages are)

  pub step_found : (d : Data) (s : WrittenStep) → IsStepData edition d s → step_in edition d ≡ Some s
  step_found d (create None) is = rw is refl
  step_found d (create (Some name)) is = rw is refl
  step_found d (component name n) (is, low, high) = rw (is, number_in_range 1 (largest_arity edition) n low high) refl
  step_found d (change c) is = (change_found d c is).0
  step_found d (has e i) is = rw is refl
  step_found d (get e i) is = rw is refl
  step_found d (show e) is = rw is refl
  step_found d list is = rw is refl
  step_found d (query q) is = rw is refl
  step_found d (cache q) is = rw is refl
  step_found d (cached n) (is, most) = rw (is, number_in_range 0 4294967295 n (omega arith) most) refl
  step_found d (merge n stages) (value, is, most, of) =
      let at : number_in 0 1048576 (number (unsigned n)) ≡ Some n = number_in_range 0 1048576 n (omega arith) most in
      rw (is, at, stages_found value stages of) refl
  step_found d (system name phase text actions) (value, is, are) = rw (is, phase_found phase, actions_found edition value actions are) refl
  step_found d frame is = rw is refl

  -- ---- what is found is what is written

  text_change : (w x : List ℕ) (c : WrittenChange) → change_of_text w x ≡ Some c → IsChangeData edition (written_list w (string x ∷ [])) c
  text_change w x = of_table (λ v. IsChangeData edition (written_list v (string x ∷ []))) (text_changes x) (refl, (refl, (refl, (refl, tt)))) w

  texts_change : (w x y : List ℕ) (c : WrittenChange) → change_of_texts w x y ≡ Some c
      → IsChangeData edition (written_list w (string x ∷ string y ∷ [])) c
  texts_change w x y = of_table (λ v. IsChangeData edition (written_list v (string x ∷ string y ∷ []))) (texts_changes x y) (refl, (refl, tt)) w

  two_change : (w x : List ℕ) (d : Data) (c : WrittenChange) → change_of_two w x d ≡ Some c
      → IsChangeData edition (written_list w (string x ∷ d ∷ [])) c
  two_change w x d c e =
      chosen _ (bytes_eq w (codes "rename")) _ _ c e
      (λ t h. mapped (rename x) (name_in d) c h (λ name n q. rw (name_is d name n, q, word_is w _ t) refl))
      (λ f. option_and_then_some (change_of_texts w x) (as_str d) c f (λ y is h. rw (str_is d y is) (texts_change w x y c h)))

  three_change : (w x y : List ℕ) (d : Data) (c : WrittenChange) → change_of_three edition w x y d ≡ Some c
      → IsChangeData edition (written_list w (string x ∷ string y ∷ d ∷ [])) c
  three_change w x y d c e =
      chosen _ (bytes_eq w (codes "set")) _ _ c e
      (λ t h. mapped (set x y) (value_of_data edition d) c h (λ v n q. rw (q, word_is w _ t) (d, refl, value_is edition d v n))) (λ h. cc)

  -- a word with arguments is written as the change that they are
  change_is : (w : List ℕ) (ds : List Data) (c : WrittenChange) → change_with edition w ds ≡ Some c → IsChangeData edition (written_list w ds) c
  change_is w [] c e = cc
  change_is w (a ∷ []) c e = option_and_then_some (change_of_text w) (as_str a) c e (λ x at k. rw (str_is a x at) (text_change w x c k))
  change_is w (a ∷ b ∷ []) c e =
      option_and_then_some (λ x. change_of_two w x b) (as_str a) c e (λ x at k. rw (str_is a x at) (two_change w x b c k))
  change_is w (a ∷ b ∷ f ∷ []) c e =
      option_and_then_some (λ x. option_and_then (λ y. change_of_three edition w x y f) (as_str b)) (as_str a) c e
      (λ x at k. option_and_then_some (λ y. change_of_three edition w x y f) (as_str b) c k
      (λ y of l. rw (str_is a x at, str_is b y of) (three_change w x y f c l)))
  change_is w (a ∷ b ∷ f ∷ d ∷ ds) c e = cc

  -- or as the command
  created_is : (w : List ℕ) (ds : List Data) (c : WrittenCommand) → bytes_eq w (codes "create") ≡ true → created_of ds ≡ Some c
      → IsCommandData edition (written_list w ds) c
  created_is w (a ∷ []) c t e = mapped command.create (as_str a) c e (λ x n q. rw (str_is a x n, q, word_is w _ t) refl)
  created_is w _ c t e = cc

  command_with_is : (w : List ℕ) (ds : List Data) (c : WrittenCommand) → command_with edition w ds ≡ Some c → IsCommandData edition (written_list w ds) c
  command_with_is w ds c e =
      chosen _ (bytes_eq w (codes "create")) _ _ c e (created_is w ds c)
      (λ f. mapped command.change (change_with edition w ds) c f (λ x n q. rw q (change_is w ds x n)))

  command_is : (d : Data) (c : WrittenCommand) → command_in edition d ≡ Some c → IsCommandData edition d c
  command_is d c e =
      option_and_then_some (λ p. command_with edition p.0 p.1) (words_in d) c e
      (λ p is h. rw (words_is d p.0 p.1 is) (command_with_is p.0 p.1 c h))

  stage_is : (d : Data) (cs : List WrittenCommand) → stage_in edition d ≡ Some cs → IsStageData edition d cs
  stage_is d cs e =
      option_and_then_some (each_in (command_in edition)) (list_in d) cs e
      (λ items is h. (items, list_is d items is, each_is (command_in edition) (IsCommandData edition) command_is items cs h))

  stages_is : (d : Data) (stages : List (List WrittenCommand)) → stages_in edition d ≡ Some stages → IsStagesData edition d stages
  stages_is d stages e =
      option_and_then_some (each_in (stage_in edition)) (list_in d) stages e
      (λ items is h. (items, list_is d items is, each_is (stage_in edition) (IsStageData edition) stage_is items stages h))

  merge_is : (w : List ℕ) (ds : List Data) (s : WrittenStep) → bytes_eq w (codes "merge") ≡ true → merge_of_data edition ds ≡ Some s
      → IsStepData edition (written_list w ds) s
  merge_is w (a ∷ b ∷ []) s t e =
      option_and_then_some (λ n. option_map (merge n) (stages_in edition b)) (number_in 0 1048576 a) s e
      (λ n at h. mapped (merge n) (stages_in edition b) s h (λ stages k q.
      let (is, low, high) = number_is 0 1048576 a n at in rw (is, q, word_is w _ t) (b, refl, high, stages_is b stages k)))
  merge_is w _ s t e = cc

  system_with_is : (w n : List ℕ) (a b c : Data) (s : WrittenStep) → bytes_eq w (codes "system") ≡ true → named_system_of_data edition n a b c ≡ Some s
      → IsStepData edition (written_list w (string n ∷ a ∷ b ∷ c ∷ [])) s
  system_with_is w n a b c s t e =
      option_and_then_some (λ p. option_and_then (λ x. option_map (system n p x) (actions_in edition c)) (as_str b)) (option_and_then phase_of (as_str a)) s e
      (λ p is h. option_and_then_some (λ x. option_map (system n p x) (actions_in edition c)) (as_str b) s h
      (λ x at k. mapped (system n p x) (actions_in edition c) s k (λ actions l q.
      rw (phase_is a p is, str_is b x at, q, word_is w _ t) (c, refl, actions_are edition c actions l))))

  system_is : (w : List ℕ) (ds : List Data) (s : WrittenStep) → bytes_eq w (codes "system") ≡ true → system_of_data edition ds ≡ Some s
      → IsStepData edition (written_list w ds) s
  system_is w (a ∷ b ∷ c ∷ d ∷ []) s t e =
      option_and_then_some (λ n. named_system_of_data edition n b c d) (as_str a) s e (λ n at h. rw (str_is a n at) (system_with_is w n b c d s t h))
  system_is w _ s t e = cc

  none_is : (w : List ℕ) (s : WrittenStep) → step_of_none w ≡ Some s → IsStepData edition (written_list w []) s
  none_is = of_table (λ w. IsStepData edition (written_list w [])) bare_steps (refl, (refl, (refl, tt)))

  text_is : (w x : List ℕ) (s : WrittenStep) → step_of_text w x ≡ Some s → IsStepData edition (written_list w (string x ∷ [])) s
  text_is w x = of_table (λ v. IsStepData edition (written_list v (string x ∷ []))) (text_steps x) (refl, (refl, (refl, (refl, tt)))) w

  one_is : (w : List ℕ) (d : Data) (s : WrittenStep) → step_of_one w d ≡ Some s → IsStepData edition (written_list w (d ∷ [])) s
  one_is w d s e =
      chosen _ (bytes_eq w (codes "cached")) _ _ s e
      (λ t h. mapped cached (number_in 0 4294967295 d) s h (λ k n q.
      let (is, low, high) = number_is 0 4294967295 d k n in rw (is, q, word_is w _ t) (refl, high)))
      (λ f. option_and_then_some (step_of_text w) (as_str d) s f (λ x is h. rw (str_is d x is) (text_is w x s h)))

  texts_are : (w x y : List ℕ) (s : WrittenStep) → step_of_texts w x y ≡ Some s → IsStepData edition (written_list w (string x ∷ string y ∷ [])) s
  texts_are w x y = of_table (λ v. IsStepData edition (written_list v (string x ∷ string y ∷ []))) (texts_steps x y) (refl, (refl, tt)) w

  two_is : (w x : List ℕ) (d : Data) (s : WrittenStep) → step_of_two edition w x d ≡ Some s → IsStepData edition (written_list w (string x ∷ d ∷ [])) s
  two_is w x d s e =
      chosen _ (bytes_eq w (codes "component")) _ _ s e
      (λ t h. mapped (component x) (number_in 1 (largest_arity edition) d) s h (λ arity n q.
      let (is, low, high) = number_is 1 (largest_arity edition) d arity n in rw (is, q, word_is w _ t) (refl, low, high)))
      (λ f. option_and_then_some (step_of_texts w x) (as_str d) s f (λ y is h. rw (str_is d y is) (texts_are w x y s h)))

  -- a word with arguments is written as the step that they are
  step_of_is : (w : List ℕ) (ds : List Data) (s : WrittenStep) → step_of edition w ds ≡ Some s → IsStepData edition (written_list w ds) s
  step_of_is w [] s e = none_is w s e
  step_of_is w (a ∷ []) s e = one_is w a s e
  step_of_is w (a ∷ b ∷ []) s e =
      option_and_then_some (λ x. step_of_two edition w x b) (as_str a) s e (λ x at k. rw (str_is a x at) (two_is w x b s k))
  step_of_is w (a ∷ b ∷ c ∷ ds) s e = cc

  -- a change, or a step that is none
  either_is : (w : List ℕ) (ds : List Data) (s : WrittenStep) (o : Option WrittenChange) → change_with edition w ds ≡ o
      → option_or (option_map change o) (step_of edition w ds) ≡ Some s → IsStepData edition (written_list w ds) s
  either_is w ds s None n h = step_of_is w ds s h
  either_is w ds s (Some c) n h = let q : s ≡ change c = cc in rw q (change_is w ds c n)

  -- a word with arguments that are a step that may hold others, or are one that holds none
  step_with_is : (w : List ℕ) (ds : List Data) (s : WrittenStep) → step_with edition w ds ≡ Some s → IsStepData edition (written_list w ds) s
  step_with_is w ds s e =
      chosen _ (bytes_eq w (codes "merge")) _ _ s e (merge_is w ds s)
      (λ f. chosen _ (bytes_eq w (codes "system")) _ _ s f (system_is w ds s) (either_is w ds s (change_with edition w ds) refl))

  pub step_is : (d : Data) (s : WrittenStep) → step_in edition d ≡ Some s → IsStepData edition d s
  step_is d s e =
      option_and_then_some (λ p. step_with edition p.0 p.1) (words_in d) s e
      (λ p is h. rw (words_is d p.0 p.1 is) (step_with_is p.0 p.1 s h))

-- ---- the version

version_found : (edition : Edition) → version_in (number (unsigned (version edition))) ≡ Some edition
version_found First = refl
version_found Second = refl

version_of_edition : (n : ℕ) → 1 ≤ n → n ≤ 2 → version (edition_of n) ≡ n
version_of_edition zero low high = omega arith
version_of_edition (suc zero) low high = refl
version_of_edition (suc (suc zero)) low high = refl
version_of_edition (suc (suc (suc n))) low high = omega arith

version_is : (d : Data) (edition : Edition) → version_in d ≡ Some edition → d ≡ number (unsigned (version edition))
version_is d edition e = mapped edition_of (number_in 1 2 d) edition e (λ k n q.
    let (is, low, high) = number_is 1 2 d k n in is ∙ ap (λ m. number (unsigned m)) (sym (version_of_edition k low high) ∙ ap version (sym q)))

-- ---- scripts

pub script_in_data : (d : Data) (s : WrittenScript) → IsScriptData d s → script_in d ≡ Some s
script_in_data d s is =
    rw (
      is.is_list,
      version_found s.edition,
      number_in_range (builtin_count s.edition) 1048576 s.limit is.at_least is.at_most,
      items_list-items_of is.items,
      each_found (step_in s.edition) (IsStepData s.edition) (step_found s.edition) is.items s.steps is.are_steps,
    ) refl

-- what the three parts of a script are
abbrev ArePartsOf : List Data → Edition → ℕ → List Data → Type 0
ArePartsOf ds edition l items =
    (list_data ds ≡ list_data (number (unsigned (version edition)) ∷ number (unsigned l) ∷ list_data items ∷ []))
    × (builtin_count edition ≤ l) × (l ≤ 1048576)

-- items beside an edition and a limit
abbrev with_items : Edition → ℕ → List Data → Parts
with_items edition l items = (edition, l, items)

-- what has the parts of a script is written so
parts_are : (ds : List Data) (edition : Edition) (l : ℕ) (items : List Data) → parts_of ds ≡ Some (edition, l, items) → ArePartsOf ds edition l items
parts_are (a ∷ b ∷ c ∷ []) edition l items e =
    option_and_then_some (λ v. parts_with v b c) (version_in a) (edition, l, items) e
    (λ v is h. option_and_then_some (λ k. option_map (with_items v k) (list_in c)) (limit_in v b) (edition, l, items) h
    (λ k at n. mapped (with_items v k) (list_in c) (edition, l, items) n (λ ds told same.
    let (at_limit, least, most) = number_is (builtin_count v) 1048576 b k at in
    let p : edition ≡ v = ap (λ (t : Parts). t.0) same in
    let q : l ≡ k = ap (λ (t : Parts). t.1) same in
    let r : items ≡ ds = ap (λ (t : Parts). t.2) same in
    rw (p, q, r, version_is a v is, at_limit, list_is c ds told) (refl, least, most))))
parts_are _ edition l items e = cc

-- the script of a value with such parts
pub script_is : (d : Data) (edition : Edition) (l : ℕ) (items : List Data) (ss : List WrittenStep) → parts_in d ≡ Some (edition, l, items)
    → each_in (step_in edition) items ≡ Some ss → IsScriptData d (record { edition = edition; limit = l; steps = ss })
script_is d edition l items ss e f =
    option_and_then_some parts_of (list_in d) (edition, l, items) e
    (λ ds is h. let (written_so, least, most) = parts_are ds edition l items h in
    record {
      items = items;
      is_list = list_is d ds is ∙ written_so;
      are_steps = each_is (step_in edition) (IsStepData edition) (step_is edition) items ss f;
      at_least = least;
      at_most = most;
    })

pub script_found : (d : Data) (s : WrittenScript) → script_in d ≡ Some s → IsScriptData d s
script_found d s e =
    option_and_then_some script_of (parts_in d) s e
    (λ p at h. mapped (λ ss. let t : WrittenScript = record { edition = p.0; limit = p.1; steps = ss } in t) (each_in (step_in p.0) p.2) s h
    (λ ss are same. subst (IsScriptData d) (sym same) (script_is d p.0 p.1 p.2 ss at are)))

-- where nothing is found, the value is no script
no_script : (d : Data) → script_in d ≡ None → (s : WrittenScript) → ¬ IsScriptData d s
no_script d e s is = let found = script_in_data d s is in cc

pub no_steps : (d : Data) (edition : Edition) (l : ℕ) (items : List Data) → parts_in d ≡ Some (edition, l, items)
    → each_in (step_in edition) items ≡ None → (s : WrittenScript) → ¬ IsScriptData d s
no_steps d edition l items e f =
    no_script d (ap (option_and_then script_of) e
    ∙ ap (option_map (λ ss. let s : WrittenScript = record { edition = edition; limit = l; steps = ss } in s)) f)

pub one_script : (bytes : List ℕ) (a b : WrittenScript) → IsScript bytes a → IsScript bytes b → a ≡ b
one_script bytes a b (utf8, v, is, of) (other, w, at, so) =
    let same : v ≡ w = cc in
    let first = script_in_data v a of in
    let second : script_in v ≡ Some b = rw same (script_in_data w b so) in
    cc

-- ---- ranges

-- a step of an edition keeps to its ranges
step_keeps : (edition : Edition) (d : Data) (s : WrittenStep) → IsStepData edition d s → KeepsTo edition s
step_keeps edition d (component name n) (is, low, high) = (low, high)
step_keeps edition d _ is = tt

-- and so do all
pub steps_keep : {X : Type 0} (f : X → WrittenStep) (edition : Edition) (ds : List Data) (xs : List X) → AllZip (IsStepData edition) ds (map f xs)
    → All (λ x. KeepsTo edition (f x)) xs
steps_keep f edition [] [] are = All-nil (λ x. KeepsTo edition (f x))
steps_keep f edition [] (x ∷ xs) are = absurd are
steps_keep f edition (d ∷ ds) [] are = absurd are
steps_keep f edition (d ∷ ds) (x ∷ xs) (is, are) =
    All-cons (λ y. KeepsTo edition (f y)) x xs (step_keeps edition d (f x) is) (steps_keep f edition ds xs are)
