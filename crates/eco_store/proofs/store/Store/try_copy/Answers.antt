use Rattle.eco_store.proofs.Common.{subst, ap, ◌∙◌, RowlessIn, kept_widths, all_staying, read}
use Rattle.eco_archetypes.proofs.Copying.{copied_kept, copied_rows, copied_rowless}
use Rattle.eco_store.proofs.Laid.{done_idle, laid_alike, only_idle_stay}
use Rattle.eco_store.proofs.StoreChanges.{same_read}
use Rattle.eco_store.proofs.store.Store.try_copy.Goals as goal

pub invariant_of-result : goal.invariant_of-result
invariant_of-result c =
    let l = c.self.inside.layout in
    let s = c.in_ok-archetypes.archetypes in
    let q = c.emptied.result in
    let copies = c.in_ok-archetypes.ensures in
    let idle = l.staying.idle in
    rw c.in_ok-entities.ensures (record {
      laid =
          laid_alike l s q _ _ c.self.invariant.laid (copied_rows l.archetypes s copies)
          (λ covers. kept_widths l.archetypes s (copied_kept l.archetypes s copies) _ covers)
          (only_idle_stay s q idle c.emptied.ensures
          (subst (λ p. RowlessIn s (all_staying p)) c.self.invariant.done
          (copied_rowless l.archetypes s copies (all_staying l.staying) c.self.invariant.laid.tidy)));
      done = done_idle q idle c.emptied.ensures;
    })

pub returns : goal.returns
returns c =
    let l = c.self.inside.layout in
    let s = c.in_ok-archetypes.archetypes in
    let same = ap (λ w. read w s) c.in_ok-entities.ensures ∙ same_read l.entities l.archetypes s (copied_rows l.archetypes s c.in_ok-archetypes.ensures) in
    rw (← c.self.view_is) (λ t. record { entities = same t })
