use Rattle.eco_store.proofs.Common.{refl, sym, ◌∙◌, all_staying}
use Rattle.eco_store.proofs.Laid.{laid_alike}
use Rattle.eco_store.proofs.Targets.{same_but}
use Rattle.eco_store.proofs.layout.Layout.slim.Goals as goal

pub returns : goal.returns
returns c =
    let l = c.args.self.now in
    let s1 = c.shrink.new.self in
    record {
      laid =
          laid_alike l s1 l.staying _ _ c.requires.laid c.shrink.ensures.rows (c.shrink.ensures.widths _)
          (c.shrink.ensures.rowless (all_staying l.staying) c.requires.laid.tidy);
      entities = refl;
      rows = c.shrink.ensures.rows;
      staying = refl;
      targets = same_but l.archetypes s1 l.staying.targets c.args.slot _ (sym c.is_target.ensures ∙ c.if-is_target.false) c.shrink.ensures.sets;
    }
