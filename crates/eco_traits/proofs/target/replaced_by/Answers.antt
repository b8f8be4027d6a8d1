use Rattle.eco_traits.proofs.Common.{not, ◌&&◌, sym, ap, ◌∙◌, list_any, id_eq, is_pair_of}
use Rattle.std.proofs.Common.{find}
use Rattle.eco_traits.proofs.Replaced.{all_stay, is_among, some_goes, none_goes, one_goes}
use Rattle.eco_traits.proofs.target.replaced_by.Goals as goal

pub returns-then-not-is_exclusive-clause-left : goal.returns-then-not-is_exclusive-clause-left
returns-then-not-is_exclusive-clause-left c = all_stay (is_pair_of c.args.relationship) _ c.args.own.now c.if-not-is_exclusive.true

pub returns-in_default-clause-left : goal.returns-in_default-clause-left
returns-in_default-clause-left c =
    let is_one = is_pair_of c.args.relationship in
    some_goes is_one _ c.args.own.now c.args.own.now c.if-not-is_exclusive.false
    (none_goes is_one c.args.own.now (ap (find is_one) (sym c.as_slice-ids.ensures.ids) ∙ sym c.in_default.ensures))

pub returns-clause-left : goal.returns-clause-left
returns-clause-left c =
    let is_one = is_pair_of c.args.relationship in
    let ids = sym c.as_slice-ids.ensures.ids in
    some_goes is_one _ c.args.own.now _ c.if-not-is_exclusive.false
    (one_goes is_one c.args.own.now c.in-Some.first (ap (find is_one) ids ∙ sym c.in-Some.ensures)
    (ap (list_any (λ id. is_one id && not (id_eq id c.in-Some.first))) ids ∙ sym c.has_other_pair_of.ensures ∙ c.if-has_other_pair_of.false))

pub returns-clause-among : goal.returns-clause-among
returns-clause-among c =
    let is_one = is_pair_of c.args.relationship in
    is_among is_one c.args.own.now c.in-Some.first (ap (find is_one) (sym c.as_slice-ids.ensures.ids) ∙ sym c.in-Some.ensures)
