use Rattle.eco_world.proofs.Common.{is_some, sym, ap, ◌∙◌, list_any, Id, has_symmetric, mirror_of, held_by, type_of}
use Rattle.eco_world.proofs.Losing.{none_hold, none_symmetric, some_held}
use Rattle.eco_world.proofs.world.World.has_mirrors.Goals as goal

pub returns-then-has_symmetric-clause-none : goal.returns-then-has_symmetric-clause-none
returns-then-has_symmetric-clause-none c = λ none.
    let w = c.args.self.now in
    let e = c.args.entity in
    none_hold w e (type_of w e)
    (ap (list_any (λ (j : Id). is_some (mirror_of w e j))) (sym c.ids_of.ensures.ids) ∙ sym c.any_mirror.ensures ∙ none)

pub returns-then-has_symmetric-clause-some : goal.returns-then-has_symmetric-clause-some
returns-then-has_symmetric-clause-some c = λ some.
    let w = c.args.self.now in
    let e = c.args.entity in
    some_held (λ (j : Id). is_some (mirror_of w e j)) (held_by w e)
    (ap (list_any (λ (j : Id). is_some (mirror_of w e j))) (sym c.ids_of.ensures.ids) ∙ sym c.any_mirror.ensures ∙ some)

pub returns-else-has_symmetric-clause-none : goal.returns-else-has_symmetric-clause-none
returns-else-has_symmetric-clause-none c = λ _.
    none_symmetric c.args.self.now c.args.entity (type_of c.args.self.now c.args.entity)
    (ap has_symmetric (sym c.edition.ensures) ∙ sym c.has_symmetric.ensures ∙ c.if-has_symmetric.false)
