-- The values of a row, slot by slot.
use Rattle.eco_frame.proofs.Common.{◌≡◌, ℕ, zero, suc, List, [], ◌∷◌, Option, None, Some, refl, sym, ap, ◌∙◌, slice_get, option_copied, map}
use Rattle.eco_frame.proofs.Common.{slice_get-get_or, slice_get_past, entry_value, entry_values}
use Rattle.std.specs.Borrow.{Bor}
use Rattle.std.specs.Slice.{IsItemAt}
use Rattle.eco_ids.specs.declared.id.Id.{Id}
use Rattle.eco_ids.specs.declared.value.Value.{Value}
use Rattle.eco_query.specs.declared.slot.Slot.{Slot}
use Rattle.eco_query.specs.Queries.{QuerySlot, slot_view}
use Rattle.eco_bodies.specs.Lent.{item_at}

-- what `get` finds
pub found : {X : Type 0} (xs : List X) (k : ℕ) (o : Option (Bor X)) → IsItemAt xs k o → option_copied o ≡ slice_get xs k
found xs k None at = sym (slice_get_past xs k at.3)
found xs k (Some x) at = ap Some at.1 ∙ sym (slice_get-get_or xs k x.now at.3.0)

module _ (value : Id → Option Value) where
  -- what a slot and its entry show, where there are both
  abbrev pub shown_at : Option Slot → Option (Option Id) → Option Value
  shown_at None entry = None
  shown_at (Some s) None = None
  shown_at (Some s) (Some entry) = entry_value value s.access entry

  no_entry : (o : Option Slot) → None ≡ shown_at o None
  no_entry None = refl
  no_entry (Some s) = refl

  item_of : (slots : List Slot) (entries : List (Option Id)) (k : ℕ)
      → item_at (entry_values value (map slot_view slots) entries) k ≡ shown_at (slice_get slots k) (slice_get entries k)
  item_of [] entries k = refl
  item_of (s ∷ ss) [] k = no_entry (slice_get (s ∷ ss) k)
  item_of (s ∷ ss) (e ∷ es) zero = refl
  item_of (s ∷ ss) (e ∷ es) (suc k) = item_of ss es k

  -- the item of a row's values is what the slot there shows of the entry there
  pub value_is : (slots : List Slot) (asked : List QuerySlot) (entries : List (Option Id)) (k : ℕ) (o : Option (Bor Slot)) (e : Option (Bor (Option Id)))
      → map slot_view slots ≡ asked → IsItemAt slots k o → IsItemAt entries k e
      → shown_at (option_copied o) (option_copied e) ≡ item_at (entry_values value asked entries) k
  value_is slots asked entries k o e same at there =
      ap (λ s. shown_at s (option_copied e)) (found slots k o at) ∙ ap (shown_at (slice_get slots k)) (found entries k e there)
      ∙ sym (item_of slots entries k)
      ∙ ap (λ ss. item_at (entry_values value ss entries) k) same

  -- where there is no such slot
  pub none_is : (slots : List Slot) (asked : List QuerySlot) (entries : List (Option Id)) (k : ℕ)
      → map slot_view slots ≡ asked → IsItemAt slots k None → None ≡ item_at (entry_values value asked entries) k
  none_is slots asked entries k same at =
      ap (λ s. shown_at s (slice_get entries k)) (found slots k None at) ∙ sym (item_of slots entries k)
      ∙ ap (λ ss. item_at (entry_values value ss entries) k) same
