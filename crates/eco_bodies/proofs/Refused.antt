-- The first action for which there is a reason to refuse it.
use Rattle.eco_bodies.proofs.Common.{◌≡◌, ℕ, ◌+◌, ◌<◌, true, false, List, length, drop, get_or, Option, Some, None, is_some, refl, sym, ap}
use Rattle.eco_bodies.proofs.Common.{◌∙◌, true≢false, QuerySlot, action_refusal, first_action_refusal, Action}
use Rattle.std.proofs.lemmas.List.{drop_more}
use Rattle.std.specs.Option.{option_or}
use Rattle.eco_ids.specs.declared.refusal.Refusal.{Refusal}

here : (r rest : Option Refusal) → is_some r ≡ true → option_or r rest ≡ r
here None rest h = absurd (true≢false (sym h))
here (Some why) rest h = refl

later : (r rest : Option Refusal) → is_some r ≡ false → option_or r rest ≡ rest
later None rest h = refl
later (Some why) rest h = absurd (true≢false h)

module _ (slots : List QuerySlot) (actions : List Action) (k : ℕ) (d : Action) where
  split : k < length actions → first_action_refusal slots actions ≡ first_action_refusal slots (drop k actions)
      → first_action_refusal slots actions ≡ option_or (action_refusal slots (get_or actions k d)) (first_action_refusal slots (drop (k + 1) actions))
  split h inv = inv ∙ ap (first_action_refusal slots) (drop_more actions k d h)

  pub refused_here : (r : Option Refusal) → k < length actions → first_action_refusal slots actions ≡ first_action_refusal slots (drop k actions)
      → r ≡ action_refusal slots (get_or actions k d) → is_some r ≡ true → r ≡ first_action_refusal slots actions
  refused_here r h inv is some =
      sym (split h inv ∙ ap (λ o. option_or o (first_action_refusal slots (drop (k + 1) actions))) (sym is)
      ∙ here r (first_action_refusal slots (drop (k + 1) actions)) some)

  pub refused_later : (r : Option Refusal) → k < length actions → first_action_refusal slots actions ≡ first_action_refusal slots (drop k actions)
      → r ≡ action_refusal slots (get_or actions k d) → is_some r ≡ false
      → first_action_refusal slots actions ≡ first_action_refusal slots (drop (k + 1) actions)
  refused_later r h inv is none =
      split h inv ∙ ap (λ o. option_or o (first_action_refusal slots (drop (k + 1) actions))) (sym is)
      ∙ later r (first_action_refusal slots (drop (k + 1) actions)) none
