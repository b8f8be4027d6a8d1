use Rattle.std.proofs.lemmas.Result.{IfOk-from_err}
use Rattle.eco_archetypes.proofs.Common.{◌≡◌, ℕ, Some, option_map, refl, ap, sym, subst, ◌∙◌, same_Some, id_cmp, has_item, with_item, fingerprint}
use Rattle.eco_archetypes.proofs.Common.{TableState, slot_of, table_in, err_says, exact_types, need, then_told, TakesType, marks_back, type_at}
use Rattle.eco_index.specs.Contents.{slots_by_mark}
use Rattle.eco_archetypes.proofs.ArchetypeLemmas.{found_kept, found_ready, there_as_typed}
use Rattle.eco_archetypes.proofs.Turnings.{found_turned}
use Rattle.eco_archetypes.proofs.archetypes.Archetypes.gain_alone.Goals as goal

pub invariant_of-self : goal.invariant_of-self
invariant_of-self c = found_ready c.self.invariant (λ p n. refl) c.reserve_one.ensures.same

pub mark_with-grown-requires : goal.mark_with-grown-requires
mark_with-grown-requires c = ap (λ ids. has_item id_cmp ids c.args.id) c.type_in-old.ensures.ids ∙ (rw (← c.self.view_is) at c.requires.lacks)

pub invariant_of-self-in_err-add : goal.invariant_of-self-in_err-add
invariant_of-self-in_err-add c = found_ready c.self.invariant c.in_err-add.ensures.err c.reserve_one.ensures.same

pub invariant_of-self-in-Err : goal.invariant_of-self-in-Err
invariant_of-self-in-Err c =
    let s = c.self.inside.tables in
    let n = c.args.slot in
    let old = c.type_in-old.result.now in
    let grown : c.mark_with-grown.result ≡ fingerprint (with_item id_cmp old c.args.id) = c.mark_with-grown.ensures in
    let types : (k : ℕ) → type_at c.gain.new.tables k ≡ type_at s k = λ k. ap (option_map (λ (t : TableState). t.ids)) (c.in-Err.ensures.err k) in
    let had = c.type_in-old.ensures.typed in
    found_kept c.self.invariant types
    (marks_back (type_at s) (type_at c.gain.new.tables) (slots_by_mark c.self.inside.by_type) (slots_by_mark c.add.new.self) (slots_by_mark c.leave.new.self)
    n old (with_item id_cmp old c.args.id) c.self.invariant.types had (λ k other. types k) (rw grown at c.in_ok-add.ensures.ok) (types n ∙ had)
    (rw (grown, c.mark-mark.ensures) at c.leave.ensures))
    c.gain.ensures.index c.gain.ensures.agreed (exact_types _ _ _ types (c.reserve_one.ensures.same (type_at s) c.self.invariant.cached))

pub invariant_of-self-2 : goal.invariant_of-self-2
invariant_of-self-2 c =
    let s = c.self.inside.tables in
    let old = c.type_in-old.result.now in
    let new = c.type_in.result.now in
    let is : new ≡ with_item id_cmp (table_in s c.args.slot).ids c.args.id =
    same_Some _ _ (sym c.type_in.ensures.typed ∙ c.in_default.ensures.ok.typed) in
    let grown : c.mark_with-grown.result ≡ fingerprint new =
    c.mark_with-grown.ensures ∙ ap (λ ids. fingerprint (with_item id_cmp ids c.args.id)) c.type_in-old.ensures.ids ∙ ap fingerprint (sym is) in
    found_turned c.self.invariant c.type_in-old.ensures.typed
    (subst (TakesType s c.gain.new.tables c.args.slot) (sym is) c.in_default.ensures.ok)
    (λ n e. (rw (← c.self.view_is) at c.requires.absent) n (e ∙ ap Some is))
    (rw grown at c.in_ok-add.ensures.ok) (rw (c.mark-mark.ensures, grown) at c.leave-2.ensures)
    c.gain.ensures.index c.cut.ensures c.gain.ensures.agreed (then_told _ _ _ _ _ c.reserve_one.ensures.same c.tell.ensures.told)

pub type_in-old-requires : goal.type_in-old-requires
type_in-old-requires c = rw c.self.view_is c.requires.there

pub gain-requires-clause-there : goal.gain-requires-clause-there
gain-requires-clause-there c = rw c.self.view_is c.requires.there

pub gain-requires-clause-lacks : goal.gain-requires-clause-lacks
gain-requires-clause-lacks c = rw c.self.view_is c.requires.lacks

pub gain-requires-clause-index : goal.gain-requires-clause-index
gain-requires-clause-index c = c.self.invariant.matches

pub gain-requires-clause-agreed : goal.gain-requires-clause-agreed
gain-requires-clause-agreed c = c.self.invariant.agreed

pub gain-requires-clause-few : goal.gain-requires-clause-few
gain-requires-clause-few c = c.width_of-width.ensures.few

pub gain-requires-clause-width : goal.gain-requires-clause-width
gain-requires-clause-width c = rw c.self.view_is c.width_of-width.ensures.agrees

pub type_in-requires : goal.type_in-requires
type_in-requires c =
    there_as_typed c.gain.new.tables c.args.slot (with_item id_cmp (table_in c.self.inside.tables c.args.slot).ids c.args.id)
    c.in_default.ensures.ok.typed

pub tell-requires : goal.tell-requires
tell-requires c = c.in_ok-reserve_one.ensures.room

pub returns-in_err-reserve_one-clause-ok : goal.returns-in_err-reserve_one-clause-ok
returns-in_err-reserve_one-clause-ok c = IfOk-from_err c.from_residual.result _ c.from_residual.ensures.0

pub returns-in_err-reserve_one-clause-err : goal.returns-in_err-reserve_one-clause-err
returns-in_err-reserve_one-clause-err c = err_says c.from_residual.result (λ n. ap (λ s. slot_of s n) c.self.view_is)

pub returns-in_err-reserve_one-clause-widths : goal.returns-in_err-reserve_one-clause-widths
returns-in_err-reserve_one-clause-widths c = rw c.self.view_is (λ covers. covers)

pub returns-in_err-add-clause-ok : goal.returns-in_err-add-clause-ok
returns-in_err-add-clause-ok c = IfOk-from_err c.from_residual-in_err-add.result _ c.from_residual-in_err-add.ensures.0

pub returns-in_err-add-clause-err : goal.returns-in_err-add-clause-err
returns-in_err-add-clause-err c = err_says c.from_residual-in_err-add.result (λ n. ap (λ s. slot_of s n) c.self.view_is)

pub returns-in_err-add-clause-widths : goal.returns-in_err-add-clause-widths
returns-in_err-add-clause-widths c = rw c.self.view_is (λ covers. covers)

pub returns-in-Err-clause-err : goal.returns-in-Err-clause-err
returns-in-Err-clause-err c = rw (← c.self.view_is) c.in-Err.ensures.err

pub returns-in-Err-clause-widths : goal.returns-in-Err-clause-widths
returns-in-Err-clause-widths c = λ covers.
    c.gain.ensures.widths (need c.args.entities.now) (c.width_of-width.ensures.covers covers) (rw c.self.view_is covers)

pub returns-clause-ok : goal.returns-clause-ok
returns-clause-ok c = rw (← c.self.view_is) c.in_default.ensures.ok

pub returns-clause-widths : goal.returns-clause-widths
returns-clause-widths c = λ covers.
    c.gain.ensures.widths (need c.args.entities.now) (c.width_of-width.ensures.covers covers) (rw c.self.view_is covers)
