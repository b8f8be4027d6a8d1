use Rattle.std.proofs.lemmas.List.{flat_map_more}
use Rattle.std.proofs.lemmas.Result.{IfOk-from_err}
use Rattle.eco_archetypes.proofs.Common.{◌≡◌, ℕ, ◌+◌, ◌<◌, List, [], ◌++◌, length, get_or, take, Option, sym, ap, ◌∙◌, arith, take_all, take_more, err_says}
use Rattle.eco_archetypes.proofs.Common.{TableState, table_in, standing_in}
use Rattle.eco_ids.specs.declared.entity.Entity.{Entity}
use Rattle.eco_tables.specs.Table.{entities_of}
use Rattle.eco_archetypes.proofs.found.gather.Goals as goal

module _ (s : List (Option TableState)) (xs : List ℕ) (i : ℕ) (here : i < length xs) where
  -- those in one table more
  standing_more : (old new own : List Entity) → old ≡ standing_in s (take i xs) → own ≡ entities_of (table_in s (get_or xs i 0)).rows → new ≡ old ++ own
      → new ≡ standing_in s (take (i + 1) xs)
  standing_more old new own so_far is added =
      added
      ∙ ap (λ es. es ++ own) so_far
      ∙ ap (λ es. standing_in s (take i xs) ++ es) is
      ∙ flat_map_more (λ n. entities_of (table_in s n).rows) [] (take i xs) (get_or xs i 0)
      ∙ ap (standing_in s) (sym (take_more xs i 0 here))

  some : 0 < length xs
  some = omega arith

pub loop-slot-init : goal.loop-slot-init
loop-slot-init c = c.new-entities.ensures.items

pub loop-slot-preserved : goal.loop-slot-preserved
loop-slot-preserved c =
    standing_more c.args.tables.now c.args.slots.now c.loop-slot.slot-index c.loop-slot-test.true c.loop-slot.entities.items
    c.extend_from_slice.new.self.items c.entities_at.result.now c.loop-slot.invariant c.entities_at.ensures c.in_ok-extend_from_slice.ensures.items

pub returns-in_err-extend_from_slice-clause-all : goal.returns-in_err-extend_from_slice-clause-all
returns-in_err-extend_from_slice-clause-all c = IfOk-from_err c.from_residual.result _ c.from_residual.ensures.0

pub returns-in_err-extend_from_slice-clause-some : goal.returns-in_err-extend_from_slice-clause-some
returns-in_err-extend_from_slice-clause-some c =
    err_says c.from_residual.result (some c.args.tables.now c.args.slots.now c.loop-slot.slot-index c.loop-slot-test.true)

pub returns-clause-all : goal.returns-clause-all
returns-clause-all c =
    c.loop-slot.invariant ∙ ap (standing_in c.args.tables.now) (take_all c.loop-slot.slot-index c.args.slots.now c.loop-slot-test.false)
