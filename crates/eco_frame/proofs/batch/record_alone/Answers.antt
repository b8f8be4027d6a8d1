use Rattle.eco_frame.proofs.Common.{◌≡◌, ◌∷◌, ◌++◌, [], ap, subst, sym, ◌∙◌, append-nil, IsInTurn, by_index, all_commands}
use Rattle.eco_frame.proofs.batch.record_alone.Goals as goal

pub returns-clause-batch : goal.returns-clause-batch
returns-clause-batch g c =
    let stage = c.in_ok-stage.stage in
    let all : all_commands c.push_reserved.new.self.items ≡ stage =
    ap all_commands (c.push_reserved.ensures.items ∙ ap (λ l. l ++ stage ∷ []) c.in_ok-stages.ensures.items) ∙ append-nil stage in
    subst (IsInTurn (by_index g.P.Piece.commands) (by_index g.P.Piece.taken) c.args.pieces.now c.args.base c.in_ok-stage.drawn) (sym all)
    c.in_ok-stage.ensures.batch
