use Rattle.eco_world.proofs.Common.{rules, ◌≡◌, true, nat_lt, length, Some, [], ◌∷◌, ◌++◌, ◌∙◌, map, sym, ap, subst, append-nil, Contains}
use Rattle.eco_world.proofs.Common.{List, append_assoc, arith, cond, IsDistinct, iter_rest, nat_tests, map-append, IsPermutation-map, asked_by, world_with}
use Rattle.eco_world.proofs.Common.{lent, lent_of, listed, listed_of, shown_of}
use Rattle.eco_world.proofs.Lending.{all_lend, lent_rows, with_rows_in_slots}
use Rattle.eco_world.proofs.Tabled.{all_covered, kinds_differ, none_left, with_rows}
use Rattle.eco_world.proofs.Layouts.{covers_moved, layout_of, same_type, sorted_tables, Covers}
use Rattle.eco_world.proofs.world.World.tables.Goals as goal

pub returns-clause-layout : goal.returns-clause-layout
returns-clause-layout c =
    let qs = asked_by c.self.inside.queries.items in
    let slots = c.tables.result.now in
    let old = c.loop-slot.tables.items in
    let new = c.sort_by_type.new.tables.items in
    let all : listed old ≡ with_rows slots =
    sym (append-nil (listed old)) ∙ ap (λ ss. listed old ++ with_rows ss) (sym (none_left (iter_rest c.loop-slot.slot-iterator) c.in-None.ensures.steps.0))
    ∙ c.loop-slot.invariant.0 ∙ ap with_rows (ap iter_rest c.into_iter-slot-iterator.ensures.into_iter_gives ∙ c.iter-slot-items.ensures) in
    let w = world_with c.self.inside.edition c.self.inside.store.entities qs in
    rw (← c.self.view_is)
    (layout_of w (listed new)
    (sorted_tables old new c.sort_by_type.ensures.same c.sort_by_type.ensures.ordered
    (subst (IsDistinct same_type) (sym all) (kinds_differ slots c.tables.ensures.kinds)))
    (covers_moved w _ (listed old) (listed new) (IsPermutation-map listed_of old new c.sort_by_type.ensures.same)
    (subst (Covers w _) (sym all) (all_covered w slots c.tables.ensures.shown c.tables.ensures.kinds))))

pub returns-clause-values : goal.returns-clause-values
returns-clause-values c =
    let qs = asked_by c.self.inside.queries.items in
    let slots = c.tables.result.now in
    let old = c.loop-slot.tables.items in
    let w = world_with c.self.inside.edition c.self.inside.store.entities qs in
    let run = rw (← c.self.view_is) at c.loop-slot.invariant.1 in
    let all : map lent old ≡ lent_rows w slots =
    sym (append-nil (map lent old))
    ∙ ap (λ ss. map lent old ++ lent_rows w ss) (sym (none_left (iter_rest c.loop-slot.slot-iterator) c.in-None.ensures.steps.0))
    ∙ run ∙ ap (lent_rows w) (ap iter_rest c.into_iter-slot-iterator.ensures.into_iter_gives ∙ c.iter-slot-items.ensures) in
    rw (← c.self.view_is)
    (all_lend w slots c.tables.ensures.shown c.tables.ensures.kept c.self.invariant old c.sort_by_type.new.tables.items c.sort_by_type.ensures.same
    (λ x p. with_rows_in_slots w slots x (subst (λ xs. Contains xs x) all p)) c.loop-slot.invariant.2)

-- a list that grows by one, whose image comes next among those that are to come
grown : {A B : Type 0} (f : A → B) (xs new : List A) (x : A) (y : B) (rest later all : List B) → new ≡ xs ++ x ∷ [] → f x ≡ y
    → y ∷ rest ≡ later
    → map f xs ++ later ≡ all → map f new ++ rest ≡ all
grown f xs new x y rest later all pushed is next was =
    ap (λ ns. map f ns ++ rest) pushed ∙ ap (λ ys. ys ++ rest) (map-append f xs (x ∷ [])) ∙ append_assoc (map f xs) (f x ∷ []) rest
    ∙ ap (λ z. map f xs ++ z ∷ rest) is ∙ ap (λ zs. map f xs ++ zs) next ∙ was

pub loop-slot-preserved-in-loop-slot : goal.loop-slot-preserved-in-loop-slot
loop-slot-preserved-in-loop-slot c =
    let w = c.args.self.now in
    let rest = iter_rest c.next.new.self in
    let old = c.loop-slot.tables.items in
    let new = c.push.new.self.items in
    let t = c.in-Some-slot.table in
    let was = c.loop-slot.invariant in
    let steps : iter_rest c.loop-slot.slot-iterator ≡ Some t ∷ rest = c.in-Some.ensures.steps ∙ ap (λ o. o ∷ rest) c.in-Some-slot.is in
    let some : nat_lt 0 (length t.rows) ≡ true = let count = c.row_count.ensures in let more = c.if-row_count-gt0.true in grind (arith, nat_tests) in
    let pushed : new ≡ old ++ c.of.result ∷ [] = c.in_ok-push.ensures.items in
    let shows : shown_of t ∷ with_rows rest ≡ with_rows (iter_rest c.loop-slot.slot-iterator) =
    sym (ap (λ b. cond b (shown_of t ∷ with_rows rest) (with_rows rest)) some) ∙ ap with_rows (sym steps) in
    let lends : lent_of w t ∷ lent_rows w rest ≡ lent_rows w (iter_rest c.loop-slot.slot-iterator) =
    sym (ap (λ b. cond b (lent_of w t ∷ lent_rows w rest) (lent_rows w rest)) some) ∙ ap (lent_rows w) (sym steps) in (
      grown listed_of old new c.of.result (shown_of t) (with_rows rest) _ _ pushed c.of.ensures.listed shows was.0,
      grown lent old new c.of.result (lent_of w t) (lent_rows w rest) _ _ pushed c.of.ensures.lent lends was.1,
      search rules,
    )
