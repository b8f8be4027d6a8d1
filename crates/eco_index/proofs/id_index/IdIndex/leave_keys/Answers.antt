use Rattle.eco_index.proofs.Common.{◌≡◌, false, true, ap, sym, ◌∙◌, arith, any_matches, lists_of}
use Rattle.eco_index.proofs.Joinings.{kept_key, own_key, own_more}
use Rattle.eco_index.proofs.Keys.{turns_as}
use Rattle.eco_index.proofs.id_index.IdIndex.leave_keys.Goals.{then-not-is_matched, else-not-is_matched}
use Rattle.eco_index.proofs.id_index.IdIndex.leave_keys.Goals as goal

pub loop-key-preserved : goal.loop-key-preserved
loop-key-preserved c =
    let others = c.args.others.now in
    let l0 = lists_of c.args.self.now.slots in
    let l = lists_of c.loop-key.self.slots in
    let asked = ap (any_matches others) (sym c.pattern.ensures) ∙ sym c.is_matched.ensures in
    elim c.if-not-is_matched.branch [
      | then-not-is_matched w ↦
          let matched : c.is_matched.result ≡ false = grind (arith, w.if-not-is_matched.true) in
          rw w.self-is
          (own_more c.args.keys.now others c.loop-key.key-index _ c.args.slot l0 l (lists_of w.take.new.self.slots) (omega arith) c.loop-key.invariant
          (turns_as false _ _ l (lists_of w.take.new.self.slots) c.args.slot (own_key _ others (asked ∙ matched)) w.take.ensures))
      | else-not-is_matched w ↦
          let matched : c.is_matched.result ≡ true = grind (arith, w.if-not-is_matched.false) in
          rw w.self-is
          (own_more c.args.keys.now others c.loop-key.key-index _ c.args.slot l0 l l (omega arith) c.loop-key.invariant
          (kept_key _ others l c.args.slot (asked ∙ matched)))
    ]
