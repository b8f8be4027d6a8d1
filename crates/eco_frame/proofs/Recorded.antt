-- What pieces record is what their systems record.
use Rattle.eco_frame.proofs.Common.{◌≡◌, ℕ, ◌≤◌, List, [], ◌∷◌, ◌++◌, map, take, drop, length, Bool, refl, sym, ap, ◌∙◌, subst}
use Rattle.eco_frame.proofs.Common.{arith, length-append, eq-eqb, take-append-drop, length-take-le, length-map, nil_from_length, Entity, Pattern, Command}
use Rattle.eco_frame.proofs.Common.{joined, PiecesRecord, RowsRecord, ValuedRow, commands_in_turn, taken_of, System, AreStages, by_index, fresh, model_of}
use Rattle.eco_frame.proofs.Common.{Settled, piece_commands, piece_taken}

module _ {B : Type 0} (reads writes : B → List Pattern) (kills : B → Bool) (taken : B → ValuedRow → List Entity → ℕ)
    (commands : B → ValuedRow → List Entity → List Command) (settled : Settled taken commands) where
  -- rows that take just these draws record, each with its own
  rows_record : (s : System B) (rows : List ValuedRow) (draws : List Entity) → taken_of (taken s.body) rows draws ≡ length draws
      → RowsRecord (model_of reads writes kills taken commands s) rows draws (commands_in_turn (commands s.body) (taken s.body) rows draws)
  rows_record s [] draws h = (nil_from_length draws (sym h), refl)
  rows_record s (row ∷ rows) draws h =
      let n = taken s.body row draws in
      let mine = take n draws in
      let others = drop n draws in
      let split : mine ++ others ≡ draws = take-append-drop n draws in
      let both = length-append mine others in
      let len = ap length split in
      let most : n ≤ length draws = omega (arith, h) in
      let long : length mine ≡ n = length-take-le n draws most in
      let own = settled s.body row mine others (ap (taken s.body row) split ∙ sym long) in (
        mine,
        others,
        commands_in_turn (commands s.body) (taken s.body) rows others,
        eq-eqb (taken s.body row mine) (length mine) own.0,
        rows_record s rows others (omega (arith, h, both, len, long)),
        sym split,
        ap (λ l. l ++ commands_in_turn (commands s.body) (taken s.body) rows others) (ap (commands s.body row) (sym split) ∙ own.1),
      )

  -- the stages of a system's pieces are what it records
  pub pieces_record : (s : System B) (pieces : List (List ValuedRow)) (own : List (List ℕ)) (stages : List (List Command))
      → AreStages (by_index (piece_commands taken commands)) (by_index (piece_taken taken commands)) (map (λ rows. (s.body, rows)) pieces) own stages
      → PiecesRecord (model_of reads writes kills taken commands s) pieces (map (map fresh) own) (joined stages)
  pieces_record s [] [] [] h = refl
  pieces_record s [] [] (x ∷ xs) h = absurd h
  pieces_record s [] (d ∷ ds) [] h = absurd h
  pieces_record s [] (d ∷ ds) (x ∷ xs) h = absurd h
  pieces_record s (p ∷ ps) [] [] h = absurd h
  pieces_record s (p ∷ ps) [] (x ∷ xs) h = absurd h
  pieces_record s (p ∷ ps) (d ∷ ds) [] h = absurd h
  pieces_record s (p ∷ ps) (d ∷ ds) (x ∷ xs) h =
      let draws = map fresh d in
      let record_ = rows_record s p draws (h.0.0 ∙ sym (length-map d fresh)) in (
        x,
        joined xs,
        subst (RowsRecord (model_of reads writes kills taken commands s) p draws) (sym h.0.1) record_,
        pieces_record s ps ds xs h.1,
        refl,
      )
