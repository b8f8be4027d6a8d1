use Rattle.eco_archetypes.proofs.Common.{◌≡◌, ℕ, Option, Some, None, sym, ◌∙◌, lists_of, exact_types, type_at, type_marked, type_matches}
use Rattle.eco_index.specs.Contents.{slots_by_mark}
use Rattle.eco_archetypes.proofs.ArchetypeLemmas.{index_same, kinds_kept}
use Rattle.eco_archetypes.proofs.Copying.{copied_kept, copied_types}
use Rattle.eco_archetypes.proofs.Widths.{kept_agreed}
use Rattle.eco_archetypes.proofs.archetypes.Archetypes.try_copy.Goals as goal

pub invariant_of-result : goal.invariant_of-result
invariant_of-result c =
    let own = c.self.inside in
    let s = own.tables in
    let s1 = c.in_ok-tables.tables in
    let same = copied_types s s1 c.in_ok-tables.ensures in
    record {
      kinds = kinds_kept (type_at s) (type_at s1) (λ k ids e. sym (same k) ∙ e) c.self.invariant.kinds;
      types =
          index_same type_marked (type_at s) (type_at s1) (slots_by_mark own.by_type) (slots_by_mark c.in_ok-by_type.by_type) c.self.invariant.types same
          c.in_ok-by_type.ensures;
      matches =
          index_same type_matches (type_at s) (type_at s1) (lists_of own.by_id.slots) (lists_of c.in_ok-by_id.by_id.slots) c.self.invariant.matches same
          c.in_ok-by_id.ensures;
      graph = λ n m i e. absurd (let bad : ◌≡◌ {A = Option ℕ} None (Some m) = sym (c.new.ensures n i) ∙ e in cc);
      agreed = kept_agreed s s1 (copied_kept s s1 c.in_ok-tables.ensures) c.self.invariant.agreed;
      cached = exact_types _ _ _ same (c.in_ok-caches.ensures.exact (type_at s) c.self.invariant.cached);
    }

pub returns : goal.returns
returns c = rw (← c.self.view_is) c.in_ok-tables.ensures
