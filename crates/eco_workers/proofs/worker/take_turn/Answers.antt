use Rattle.eco_workers.proofs.Common.{◌≡◌, ℕ, ◌<◌, List, [], ◌∷◌, ◌++◌, length, length-append, ap, sym, ◌∙◌, subst, Ticket, claimed}
use Rattle.eco_workers.proofs.Common.{drawn, by_index, entry_of}
use Rattle.eco_workers.proofs.Logs.{log_push, log_same, stopped, broken}
use Rattle.eco_workers.proofs.worker.take_turn.Goals as goal

pub returns-in-Ok-one_piece-clause-turned : goal.returns-in-Ok-one_piece-clause-turned
returns-in-Ok-one_piece-clause-turned g c =
    let going = c.requires.going in
    let before = c.args.drawer.now.seat in
    let between = c.claim.new.seat in
    let after = c.one_piece.new.drawer.seat in
    let event = c.in-Some.ensures.event.1 going.going in
    let kept = c.in-Ok-one_piece.ensures.claim in
    let made = c.in-Ok-one_piece.ensures.piece in
    let mine = made.2 in
    let p = c.in-Ok-one_piece.piece in
    let numbers : Ticket → List ℕ = λ t. t.hand.me.0.numbers in
    let claims : claimed after ≡ claimed before ++ p.number ∷ [] = ap numbers kept ∙ event.2 ∙ ap (λ n. claimed before ++ n ∷ []) (sym made.0) in
    let draws : drawn after ≡ drawn before ++ mine.0 = mine.1 ∙ ap (λ (t : Ticket). numbers t ++ mine.0) c.in-Some.ensures.other in
    let items = c.push_reserved.ensures.items ∙ ap (λ l. l ++ p ∷ []) c.in-Ok.ensures.items in
    record {
      going = ap (λ (t : Ticket). t.over) kept ∙ event.1;
      wet = made.1;
      log = going.log ++ entry_of p mine.0 ∷ [];
      logged = log_push (by_index g.P.Piece.commands) (by_index g.P.Piece.taken) c.args.pieces.now (claimed before) (claimed after) (drawn before)
          (drawn after) c.args.collected.now.items c.push_reserved.new.self.items going.log p mine.0 going.logged claims draws items mine.2;
    }

pub returns-in-Ok-one_piece-clause-one_more : goal.returns-in-Ok-one_piece-clause-one_more
returns-in-Ok-one_piece-clause-one_more g c =
    let before = claimed c.args.drawer.now.seat in
    let numbers : Ticket → List ℕ = λ t. t.hand.me.0.numbers in
    let event = c.in-Some.ensures.event.1 c.requires.going.going in
    ap (λ (t : Ticket). length (numbers t)) c.in-Ok-one_piece.ensures.claim ∙ ap length event.2 ∙ length-append before (c.in-Some.number ∷ [])

pub one_piece-requires-clause-number : goal.one_piece-requires-clause-number
one_piece-requires-clause-number g c = subst (λ n. c.in-Some.number < n) c.requires.count (c.in-Some.ensures.event.1 c.requires.going.going).0

pub one_piece-requires-clause-wet : goal.one_piece-requires-clause-wet
one_piece-requires-clause-wet g c = ap (λ (t : Ticket). t.over) c.in-Some.ensures.other ∙ c.requires.going.wet

pub returns-in_default-claim-clause-turned : goal.returns-in_default-claim-clause-turned
returns-in_default-claim-clause-turned g c =
    let going = c.requires.going in
    let before = c.args.drawer.now.seat in
    let after = c.claim.new.seat in
    let event = c.in_default-claim.ensures.event.1 going.going in
    let numbers : Ticket → List ℕ = λ t. t.hand.me.0.numbers in
    record {
      done = event.0;
      log = going.log;
      logged = log_same (by_index g.P.Piece.commands) (by_index g.P.Piece.taken) c.args.pieces.now (claimed before) (claimed after) (drawn before)
          (drawn after) c.args.collected.now.items c.reserve.new.self.items going.log going.logged event.1
          (ap numbers c.in_default-claim.ensures.other) c.in-Ok.ensures.items;
    }

pub returns-in_default-clause-turned : goal.returns-in_default-clause-turned
returns-in_default-clause-turned g c =
    let going = c.requires.going in
    stopped (by_index g.P.Piece.commands) (by_index g.P.Piece.taken) c.args.pieces.now c.args.drawer.now.seat c.args.collected.now.items going.log going.logged

pub returns-in-Err-clause-turned : goal.returns-in-Err-clause-turned
returns-in-Err-clause-turned g c =
    let going = c.requires.going in
    let before = c.args.drawer.now.seat in
    let after = c.one_piece.new.drawer.seat in
    let event = c.in-Some.ensures.event.1 going.going in
    let kept = c.in-Err.ensures.claim in
    let e = c.in-Err.ensures.err in
    let numbers : Ticket → List ℕ = λ t. t.hand.me.0.numbers in
    let claims : claimed after ≡ claimed before ++ c.in-Some.number ∷ [] = ap numbers kept ∙ event.2 in
    let draws : drawn after ≡ drawn before ++ e.0 = e.1 ∙ ap (λ (t : Ticket). numbers t ++ e.0) c.in-Some.ensures.other in
    broken (by_index g.P.Piece.commands) (by_index g.P.Piece.taken) c.args.pieces.now before after
    c.args.collected.now.items going.log c.in-Some.number e.0 c.in-Err.refusal going.logged claims draws e.2 e.3 c.in-Err.ensures.why
