use Rattle.eco_store.proofs.Common.{◌++◌, sym, subst, ◌∙◌, append_assoc, RowlessIn, SameRows}
use Rattle.eco_store.proofs.Laid.{done_idle, laid_alike, only_idle_stay}
use Rattle.eco_store.proofs.StoreChanges.{same_read}
use Rattle.eco_store.proofs.layout.Layout.forget.Goals as goal

pub returns-clause-settled : goal.returns-clause-settled
returns-clause-settled c =
    let l = c.args.self.now in
    let s = l.archetypes in
    let p = l.staying in
    let s1 = c.drop_each.new.self in
    let s2 = c.drop_each-2.new.self in
    let q = c.clear.new.self in
    let others = p.targets ++ p.idle in
    let rows : SameRows s s2 = λ n k. c.drop_each-2.ensures.rows n k ∙ c.drop_each.ensures.rows n k in
    record {
      laid =
          laid_alike l s2 q _ _ c.requires rows (λ was. c.drop_each-2.ensures.widths _ (c.drop_each.ensures.widths _ was))
          (only_idle_stay s2 q p.idle c.clear.ensures
          (c.drop_each-2.ensures.rowless p.idle
          (subst (λ slots. RowlessIn s1 (slots ++ p.idle)) (sym c.targets.ensures)
          (c.drop_each.ensures.rowless others
          (subst (λ slots. RowlessIn s (slots ++ others)) (sym c.gathered.ensures)
          (subst (RowlessIn s) (append_assoc p.gathered p.targets p.idle) c.requires.tidy))))));
      done = done_idle q p.idle c.clear.ensures;
    }

pub returns-clause-same : goal.returns-clause-same
returns-clause-same c =
    same_read c.args.self.now.entities c.args.self.now.archetypes c.drop_each-2.new.self
    (λ n k. c.drop_each-2.ensures.rows n k ∙ c.drop_each.ensures.rows n k)
