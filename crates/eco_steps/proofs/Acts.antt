-- What is found in a value is exactly the phase, or the actions, that it is.
use Rattle.eco_steps.proofs.Common.{◌≡◌, ℕ, List, [], ◌∷◌, map, Some, None, option_and_then, refl, codes, arith, bytes_eq, option_and_then_some}
use Rattle.eco_steps.proofs.Common.{as_str, Edition, list_in, each_in, value_of_data, slot_in, phase_of, bare_actions, text_actions, action_of_none}
use Rattle.eco_steps.proofs.Common.{action_of_text, action_of_slot, action_of, action_in, actions_in, words_in}
use Rattle.serde_json.specs.Data.{Data, string}
use Rattle.eco_systems.specs.declared.phase.Phase.{Phase}
use Rattle.eco_systems.specs.declared.phase.Phase.TheVariants.{OnLoad, PostLoad, PreUpdate, OnUpdate, OnValidate, PostUpdate, PreStore, OnStore}
use Rattle.eco_systems.specs.Phases.{phases}
use Rattle.eco_steps.specs.Actions.{WrittenAction, add, remove, put, sum, kill, spawn}
use Rattle.eco_steps.specs.Steps.{IsSlotData, IsActionData, IsActionsData, phase_word, written_list}
use Rattle.eco_steps.proofs.Parts.{number_in_range, value_found, chosen, of_table, word_is, str_is, number_is, list_is, value_is, words_is}
use Rattle.eco_steps.proofs.Values.{mapped, items_list-items_of, each_found, each_is}

-- ---- phases

pub phase_found : (p : Phase) → phase_of (phase_word p) ≡ Some p
phase_found OnLoad = refl
phase_found PostLoad = refl
phase_found PreUpdate = refl
phase_found OnUpdate = refl
phase_found OnValidate = refl
phase_found PostUpdate = refl
phase_found PreStore = refl
phase_found OnStore = refl

word_of : (w : List ℕ) (p : Phase) → phase_of w ≡ Some p → w ≡ phase_word p
word_of = of_table (λ w p. w ≡ phase_word p) (map (λ p. (phase_word p, p)) phases) (refl, (refl, (refl, (refl, (refl, (refl, (refl, (refl, tt))))))))

pub phase_is : (d : Data) (p : Phase) → option_and_then phase_of (as_str d) ≡ Some p → d ≡ string (phase_word p)
phase_is d p e = option_and_then_some phase_of (as_str d) p e (λ w is h. rw (← word_of w p h) (str_is d w is))

-- ---- actions

slot_found : (d : Data) (n : ℕ) → IsSlotData d n → slot_in d ≡ Some n
slot_found d n (is, most) = rw is (number_in_range 0 31 n (omega arith) most)

slot_is : (d : Data) (n : ℕ) → slot_in d ≡ Some n → IsSlotData d n
slot_is d n e = let (is, low, high) = number_is 0 31 d n e in (is, high)

module _ (edition : Edition) where
  -- what is written is found
  action_found : (d : Data) (a : WrittenAction) → IsActionData edition d a → action_in edition d ≡ Some a
  action_found d (add i) is = rw is refl
  action_found d (remove i) is = rw is refl
  action_found d (put n v) (place, value, is, at, of) = rw (is, slot_found place n at, value_found edition value v of) refl
  action_found d (sum n m) (place, other, is, at, of) = rw (is, slot_found place n at, slot_found other m of) refl
  action_found d kill is = rw is refl
  action_found d (spawn None) is = rw is refl
  action_found d (spawn (Some i)) is = rw is refl

  pub actions_found : (d : Data) (actions : List WrittenAction) → IsActionsData edition d actions → actions_in edition d ≡ Some actions
  actions_found d actions (items, is, are) = rw (is, items_list-items_of items)
      (each_found (action_in edition) (IsActionData edition) action_found items actions are)

  -- what is found is what is written
  none_is : (w : List ℕ) (a : WrittenAction) → action_of_none w ≡ Some a → IsActionData edition (written_list w []) a
  none_is = of_table (λ w. IsActionData edition (written_list w [])) bare_actions (refl, (refl, tt))

  text_is : (w x : List ℕ) (a : WrittenAction) → action_of_text w x ≡ Some a → IsActionData edition (written_list w (string x ∷ [])) a
  text_is w x = of_table (λ v. IsActionData edition (written_list v (string x ∷ []))) (text_actions x) (refl, (refl, (refl, tt))) w

  slots_are : (w : List ℕ) (d e : Data) (n : ℕ) (a : WrittenAction) → IsSlotData d n → action_of_slot edition w n e ≡ Some a
      → IsActionData edition (written_list w (d ∷ e ∷ [])) a
  slots_are w d e n a at f =
      chosen _ (bytes_eq w (codes "put")) _ _ a f
      (λ t h. mapped (put n) (value_of_data edition e) a h (λ v is q. rw (q, word_is w _ t) (d, e, refl, at, value_is edition e v is)))
      (λ g. chosen _ (bytes_eq w (codes "sum")) _ _ a g
      (λ t h. mapped (sum n) (slot_in e) a h (λ m is q. rw (q, word_is w _ t) (d, e, refl, at, slot_is e m is))) (λ h. cc))

  action_of_is : (w : List ℕ) (ds : List Data) (a : WrittenAction) → action_of edition w ds ≡ Some a → IsActionData edition (written_list w ds) a
  action_of_is w [] a e = none_is w a e
  action_of_is w (d ∷ []) a e = option_and_then_some (action_of_text w) (as_str d) a e (λ x is h. rw (str_is d x is) (text_is w x a h))
  action_of_is w (d ∷ f ∷ []) a e =
      option_and_then_some (λ n. action_of_slot edition w n f) (slot_in d) a e (λ n is h. slots_are w d f n a (slot_is d n is) h)
  action_of_is w (d ∷ f ∷ g ∷ ds) a e = cc

  action_is : (d : Data) (a : WrittenAction) → action_in edition d ≡ Some a → IsActionData edition d a
  action_is d a e =
      option_and_then_some (λ p. action_of edition p.0 p.1) (words_in d) a e (λ p is h. rw (words_is d p.0 p.1 is) (action_of_is p.0 p.1 a h))

  pub actions_are : (d : Data) (actions : List WrittenAction) → actions_in edition d ≡ Some actions → IsActionsData edition d actions
  actions_are d actions e =
      option_and_then_some (each_in (action_in edition)) (list_in d) actions e
      (λ items is h. (items, list_is d items is, each_is (action_in edition) (IsActionData edition) action_is items actions h))
