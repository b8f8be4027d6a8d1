use Rattle.eco_tables.proofs.Common.{◌≡◌, ◌≤◌, ◌++◌, ◌-◌, ◌∷◌, [], List, eqb-true, ap, sym, ◌∙◌, arith, refl, length, map}
use Rattle.eco_tables.proofs.Common.{subst, true≢false, kind_of, AreKinds, retyped_row, rows_of}
use Rattle.eco_tables.proofs.Rows.{changed_table, taken_rows}
use Rattle.eco_tables.proofs.Shapes.{length-rows_of}
use Rattle.eco_tables.proofs.table.Table.swap_rows.Goals as goal

no_items : {X : Type 0} (xs : List X) → length xs ≡ 0 → xs ≡ []
no_items [] none = refl
no_items (x ∷ xs) none = absurd (omega (arith, none))

pub overflow_sub-self : goal.overflow_sub-self
overflow_sub-self c =
    let some : length c.source.inside.entities.items ≤ c.self.inside.room =
    rw (length-rows_of _ _ _ _ _ c.source.invariant) at (rw (← c.self.view_is, ← c.source.view_is) at c.requires) in
    omega (arith, some, c.len-count.ensures, c.source.inside.entities.ok.0)

alike : (c : goal.After-source-1) → map kind_of c.self.inside.columns.items ≡ map kind_of c.source.inside.columns.items
alike c =
    ap (map kind_of) (sym c.as_slice.ensures.value) ∙ c.if-not-are_alike.ensures.0 refl ∙ ap (map kind_of) c.as_slice-else-source-count.ensures.value

none_here : (c : goal.After-source-1) → c.self.inside.entities.items ≡ []
none_here c = no_items c.self.inside.entities.items (sym c.self.inside.entities.ok.0 ∙ eqb-true _ _ (sym c.if-not-is_empty.ensures))

pub returns-clause-taken : goal.returns-clause-taken
returns-clause-taken c = λ done.
    let own = c.self.inside in
    let source = c.source.inside in
    let count : c.len-count.result ≡ length (rows_of source.type_list source.columns.items source.entities.items) =
    c.len-count.ensures ∙ source.entities.ok.0 ∙ sym (length-rows_of _ _ _ _ _ c.source.invariant) in
    let rows : rows_of own.type_list c.swap-2.new.x.items c.swap.new.x.items
    ≡ rows_of own.type_list own.columns.items own.entities.items
    ++ map (retyped_row own.type_list) (rows_of source.type_list source.columns.items source.entities.items) =
    (λ t. rows_of own.type_list (c.swap-2.ensures.x_after t).items (c.swap.ensures.x_after t).items)
    ∙ taken_rows own.type_list source.type_list source.columns.items c.source.invariant.kinds 0 source.entities.items
    ∙ sym (ap (λ es. rows_of own.type_list own.columns.items es
    ++ map (retyped_row own.type_list) (rows_of source.type_list source.columns.items source.entities.items)) (none_here c)) in
    let kinds : map kind_of c.swap-2.new.x.items ≡ map kind_of own.columns.items = (λ t. map kind_of (c.swap-2.ensures.x_after t).items) ∙ sym (alike c) in
    rw (← c.self.view_is, ← c.source.view_is)
    (changed_table own.type_list own.columns.items _ _ _ _ _ kinds rows (ap (λ n. own.room - n) count))

pub returns-clause-left : goal.returns-clause-left
returns-clause-left c = λ done.
    let own = c.self.inside in
    let source = c.source.inside in
    let kinds : map kind_of c.swap-2.new.y.items ≡ map kind_of source.columns.items = (λ t. map kind_of (c.swap-2.ensures.y_after t).items) ∙ alike c in
    let rows : rows_of source.type_list c.swap-2.new.y.items c.swap.new.y.items ≡ [] =
    (λ t. rows_of source.type_list (c.swap-2.ensures.y_after t).items (c.swap.ensures.y_after t).items)
    ∙ ap (rows_of source.type_list own.columns.items) (none_here c) in
    rw (← c.source.view_is) (changed_table source.type_list source.columns.items _ _ _ _ _ kinds rows refl)

pub returns-clause-same : goal.returns-clause-same
returns-clause-same c = λ h. absurd (true≢false h)

pub returns-clause-kept : goal.returns-clause-kept
returns-clause-kept c = λ h. absurd (true≢false h)

pub invariant_of-self : goal.invariant_of-self
invariant_of-self c = rw (c.swap.ensures.x_after, c.swap-2.ensures.x_after) record {
  kinds = subst (AreKinds c.self.inside.type_list) (alike c) c.self.invariant.kinds;
  even = c.source.invariant.even;
  roomy = λ k d in_cs. omega (arith, c.source.invariant.roomy k d in_cs);
  rows_room = omega (arith, c.source.invariant.rows_room);
}

pub invariant_of-source : goal.invariant_of-source
invariant_of-source c = rw (c.swap.ensures.y_after, c.swap-2.ensures.y_after) record {
  kinds = subst (AreKinds c.source.inside.type_list) (sym (alike c)) c.source.invariant.kinds;
  even = c.self.invariant.even;
  roomy = λ k d in_cs. omega arith;
  rows_room = omega (arith, c.self.invariant.rows_room);
}
