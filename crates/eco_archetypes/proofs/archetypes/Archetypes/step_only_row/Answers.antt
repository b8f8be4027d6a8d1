use Rattle.std.proofs.lemmas.Result.{IfOk-from_err}
use Rattle.eco_archetypes.proofs.Common.{◌≡◌, true≢false, sym, ap, ◌∙◌, slot_of, err_says, need}
use Rattle.eco_archetypes.proofs.Alone.{absent_with, absent_without, some_is, took_with, took_without}
use Rattle.eco_archetypes.proofs.archetypes.Archetypes.step_only_row.Goals.{Joined-then-is_some}
use Rattle.eco_archetypes.proofs.archetypes.Archetypes.step_only_row.Goals.{then-is_some-via-then-is_some}
use Rattle.eco_archetypes.proofs.archetypes.Archetypes.step_only_row.Goals.{then-is_some-via-else-is_some+in_ok-find_toggled+then-is_some-2}
use Rattle.eco_archetypes.proofs.archetypes.Archetypes.step_only_row.Goals as goal

unchanged : (c : Joined-then-is_some) → c.then-is_some.self ≡ c.args.self.now
unchanged c = elim c.then-is_some.branch [
  | then-is_some-via-then-is_some w ↦ w.self-is
  | then-is_some-via-else-is_some+in_ok-find_toggled+then-is_some-2 w ↦ w.self-is ∙ w.find_toggled.ensures.same
]

pub find_toggled-requires : goal.find_toggled-requires
find_toggled-requires c = c.requires.there

pub returns-in_err-find_toggled-clause-ok : goal.returns-in_err-find_toggled-clause-ok
returns-in_err-find_toggled-clause-ok c = IfOk-from_err c.from_residual.result _ c.from_residual.ensures.0

pub returns-in_err-find_toggled-clause-refused : goal.returns-in_err-find_toggled-clause-refused
returns-in_err-find_toggled-clause-refused c = IfOk-from_err c.from_residual.result _ c.from_residual.ensures.0

pub returns-in_err-find_toggled-clause-err : goal.returns-in_err-find_toggled-clause-err
returns-in_err-find_toggled-clause-err c = err_says c.from_residual.result (λ n. ap (λ s. slot_of s n) c.find_toggled.ensures.same)

pub returns-in_err-find_toggled-clause-widths : goal.returns-in_err-find_toggled-clause-widths
returns-in_err-find_toggled-clause-widths c = rw c.find_toggled.ensures.same (λ covers. covers)

pub returns-then-is_some-clause-ok : goal.returns-then-is_some-clause-ok
returns-then-is_some-clause-ok c = λ n. ap (λ s. slot_of s n) (unchanged c)

pub returns-then-is_some-clause-refused : goal.returns-then-is_some-clause-refused
returns-then-is_some-clause-refused c = λ no. elim c.then-is_some.branch [
  | then-is_some-via-then-is_some w ↦ some_is c.lead.result _ (sym c.is_some.ensures ∙ w.if-is_some.true) c.lead.ensures.typed
  | then-is_some-via-else-is_some+in_ok-find_toggled+then-is_some-2 w ↦
      some_is w.in_ok-find_toggled.field-0 _ (sym w.is_some-else-is_some.ensures ∙ w.if-is_some-2.true) w.in_ok-find_toggled.ensures.found
]

pub returns-then-is_some-clause-widths : goal.returns-then-is_some-clause-widths
returns-then-is_some-clause-widths c = rw (unchanged c) (λ covers. covers)

pub type_in-requires : goal.type_in-requires
type_in-requires c = rw (c.self.view_is, c.find_toggled.ensures.same) c.requires.there

pub lose_alone-requires-clause-there : goal.lose_alone-requires-clause-there
lose_alone-requires-clause-there c = rw c.find_toggled.ensures.same c.requires.there

pub lose_alone-requires-clause-has : goal.lose_alone-requires-clause-has
lose_alone-requires-clause-has c = rw (← c.self.view_is, ← c.type_in.ensures.ids) (sym c.has.ensures.is ∙ c.if-has.true)

pub lose_alone-requires-clause-absent : goal.lose_alone-requires-clause-absent
lose_alone-requires-clause-absent c =
    absent_without c.args.self.now c.find_toggled.new.self c.args.slot c.args.id c.find_toggled.ensures.same c.in_ok-find_toggled.field-0
    (sym c.is_some-else-is_some.ensures ∙ c.if-is_some-2.false) c.in_ok-find_toggled.ensures.none
    (rw (← c.self.view_is, ← c.type_in.ensures.ids) (sym c.has.ensures.is ∙ c.if-has.true))

pub gain_alone-requires-clause-there : goal.gain_alone-requires-clause-there
gain_alone-requires-clause-there c = rw c.find_toggled.ensures.same c.requires.there

pub gain_alone-requires-clause-lacks : goal.gain_alone-requires-clause-lacks
gain_alone-requires-clause-lacks c = rw (← c.self.view_is, ← c.type_in.ensures.ids) (sym c.has.ensures.is ∙ c.if-has.false)

pub gain_alone-requires-clause-absent : goal.gain_alone-requires-clause-absent
gain_alone-requires-clause-absent c =
    absent_with c.args.self.now c.find_toggled.new.self c.args.slot c.args.id c.find_toggled.ensures.same c.in_ok-find_toggled.field-0
    (sym c.is_some-else-is_some.ensures ∙ c.if-is_some-2.false) c.in_ok-find_toggled.ensures.none
    (rw (← c.self.view_is, ← c.type_in.ensures.ids) (sym c.has.ensures.is ∙ c.if-has.false))

pub returns-in_err-lose_alone-clause-ok : goal.returns-in_err-lose_alone-clause-ok
returns-in_err-lose_alone-clause-ok c = IfOk-from_err c.from_residual-in_err-lose_alone.result _ c.from_residual-in_err-lose_alone.ensures.0

pub returns-in_err-lose_alone-clause-refused : goal.returns-in_err-lose_alone-clause-refused
returns-in_err-lose_alone-clause-refused c = IfOk-from_err c.from_residual-in_err-lose_alone.result _ c.from_residual-in_err-lose_alone.ensures.0

pub returns-in_err-lose_alone-clause-err : goal.returns-in_err-lose_alone-clause-err
returns-in_err-lose_alone-clause-err c = rw (← c.find_toggled.ensures.same) (err_says _ c.in_err-lose_alone.ensures.err)

pub returns-in_err-lose_alone-clause-widths : goal.returns-in_err-lose_alone-clause-widths
returns-in_err-lose_alone-clause-widths c = rw (← c.find_toggled.ensures.same) (c.lose_alone.ensures.widths (need c.args.entities.now))

pub returns-in_err-gain_alone-clause-ok : goal.returns-in_err-gain_alone-clause-ok
returns-in_err-gain_alone-clause-ok c = IfOk-from_err c.from_residual-in_err-gain_alone.result _ c.from_residual-in_err-gain_alone.ensures.0

pub returns-in_err-gain_alone-clause-refused : goal.returns-in_err-gain_alone-clause-refused
returns-in_err-gain_alone-clause-refused c = IfOk-from_err c.from_residual-in_err-gain_alone.result _ c.from_residual-in_err-gain_alone.ensures.0

pub returns-in_err-gain_alone-clause-err : goal.returns-in_err-gain_alone-clause-err
returns-in_err-gain_alone-clause-err c = rw (← c.find_toggled.ensures.same) (err_says _ c.in_err-gain_alone.ensures.err)

pub returns-in_err-gain_alone-clause-widths : goal.returns-in_err-gain_alone-clause-widths
returns-in_err-gain_alone-clause-widths c = rw (← c.find_toggled.ensures.same) c.gain_alone.ensures.widths

pub returns-in_ok-lose_alone-clause-ok : goal.returns-in_ok-lose_alone-clause-ok
returns-in_ok-lose_alone-clause-ok c = (
  took_without c.args.self.now c.find_toggled.new.self c.args.slot c.args.id c.find_toggled.ensures.same c.lose_alone.new.self
      (rw (← c.self.view_is, ← c.type_in.ensures.ids) (sym c.has.ensures.is ∙ c.if-has.true)) c.in_ok-lose_alone.ensures.ok,
  c.requires.alone,
)

pub returns-in_ok-lose_alone-clause-widths : goal.returns-in_ok-lose_alone-clause-widths
returns-in_ok-lose_alone-clause-widths c = rw (← c.find_toggled.ensures.same) (c.lose_alone.ensures.widths (need c.args.entities.now))

pub returns-in_ok-gain_alone-clause-ok : goal.returns-in_ok-gain_alone-clause-ok
returns-in_ok-gain_alone-clause-ok c = (
  took_with c.args.self.now c.find_toggled.new.self c.args.slot c.args.id c.find_toggled.ensures.same c.gain_alone.new.self
      (rw (← c.self.view_is, ← c.type_in.ensures.ids) (sym c.has.ensures.is ∙ c.if-has.false)) c.in_ok-gain_alone.ensures.ok,
  c.requires.alone,
)

pub returns-in_ok-gain_alone-clause-widths : goal.returns-in_ok-gain_alone-clause-widths
returns-in_ok-gain_alone-clause-widths c = rw (← c.find_toggled.ensures.same) c.gain_alone.ensures.widths

pub returns-in_ok-lose_alone-clause-refused : goal.returns-in_ok-lose_alone-clause-refused
returns-in_ok-lose_alone-clause-refused c = λ untrue. absurd (true≢false untrue)

pub returns-in_ok-gain_alone-clause-refused : goal.returns-in_ok-gain_alone-clause-refused
returns-in_ok-gain_alone-clause-refused c = λ untrue. absurd (true≢false untrue)
