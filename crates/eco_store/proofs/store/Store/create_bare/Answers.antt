use Rattle.eco_store.proofs.Common.{[], None, subst, ◌∙◌, option_copied, CreatesRecord, StoreState}
use Rattle.eco_store.proofs.store.Store.create_bare.Goals.{then-is_none+in_default, else-is_none}
use Rattle.eco_store.proofs.store.Store.create_bare.Goals as goal

pub returns : goal.returns
returns c =
    let call = c.create_without_ids in
    let step : StoreState → Type 0 = λ x. CreatesRecord x.entities (option_copied c.args.name) None [] call.result call.new.self.entities in
    record {
      step = elim c.if-is_none.branch [
        | then-is_none+in_default w ↦ subst step (w.self-is ∙ w.in_default.ensures.none) call.ensures.step
        | else-is_none w ↦ subst step w.self-is call.ensures.step
      ];
    }
