use Rattle.eco_store.proofs.Common.{refl, sym, ◌∙◌, all_staying}
use Rattle.eco_store.proofs.Laid.{laid_alike}
use Rattle.eco_store.proofs.Targets.{same_targets}
use Rattle.eco_store.proofs.layout.Layout.leave.Goals as goal

pub returns-then-not-is_target : goal.returns-then-not-is_target
returns-then-not-is_target c =
    let l = c.args.self.now in
    let s1 = c.drop_empty.new.self in
    record {
      laid =
          laid_alike l s1 l.staying _ _ c.requires c.drop_empty.ensures.rows (c.drop_empty.ensures.widths _)
          (c.drop_empty.ensures.rowless (all_staying l.staying) c.requires.tidy);
      entities = refl;
      rows = c.drop_empty.ensures.rows;
      staying = refl;
      targets =
          same_targets l.archetypes s1 l.staying.targets c.args.slot _ (sym c.is_target.ensures ∙ c.if-not-is_target.true)
          c.drop_empty.ensures.dropped c.drop_empty.ensures.kept;
    }
