-- The names that most proofs here cite, passed on from one place. Declares nothing.
pub use Rattle.eco_ids.proofs.Common.{AllByRecursion, Bool, Err, IsTrue, List, MatchResult, None, Ok, Option, Result, Some, [], ap, append-nil, append_assoc}
pub use Rattle.eco_ids.proofs.Common.{arith, codes, common_steps, drop, false, flat_map, get_or, if◌then◌else◌, inl, inr, is_name, le-ltb, length}
pub use Rattle.eco_ids.proofs.Common.{length-append, length-map, list_all, list_any, lt-ltb, map, may_begin, may_follow, nat_lt, nat_tests, refl, subst, suc}
pub use Rattle.eco_ids.proofs.Common.{sym, true, zero, ℕ, ◌&&◌, ◌++◌, ◌+◌, ◌-◌, ◌<◌, ◌||◌, ◌∙◌, ◌∷◌, ◌≡◌, ◌≤◌}
pub use Rattle.std.proofs.lemmas.Result.{err_from_is_err_and}
pub use Rattle.std.specs.Prelude.{IsOk}
pub use Rattle.eco_grammar.specs.LastTerms.{IsLast, ends_positive, last_of, left_over, misplaces_last, term_with}
pub use Rattle.eco_grammar.specs.Proper.{AreProperMarks, IsProperAtom, IsProperPart}
pub use Rattle.eco_grammar.specs.Readings.{InMemory, Reads, ReadsAll, ReadsInMemory, ReadsOnce, entity_of_placed, id_of, ids_of, is_positive_body}
pub use Rattle.eco_grammar.specs.Readings.{misplaces_wildcard, ok_both, ok_map, part_of, pattern_of_atom, query_of, slots_of_written, term_of_body}
pub use Rattle.eco_grammar.specs.declared.last_term.LastTerm.{LastTerm}
pub use Rattle.eco_ids.specs.Terms.{And, Or, QueryTerm}
pub use Rattle.eco_ids.specs.declared.entity.Entity.{Entity}
pub use Rattle.eco_ids.specs.declared.id.Id.{Id}
pub use Rattle.eco_ids.specs.declared.id.Id.TheVariants.{One, Two}
pub use Rattle.eco_ids.specs.declared.refusal.Refusal.{Refusal}
pub use Rattle.eco_ids.specs.declared.refusal.Refusal.TheVariants.{Syntax, TooManyTerms}
pub use Rattle.eco_query.specs.Queries.{IsPattern, IsPatternPart, IsQuery, IsTerm, QuerySlot, exactly, patterns_of, reads, slot_view}
pub use Rattle.eco_query.specs.declared.access.Access.{Access}
pub use Rattle.eco_query.specs.declared.access.Access.TheVariants.{In, InOut, InOutNone, Out}
pub use Rattle.eco_scan.specs.Faults.{IsFault, IsSpelled, SpellsOnce, SpellsOrFails}
pub use Rattle.eco_scan.specs.Grammar.{AreMore, AreMoreSlots, IsAtom, IsBody, IsPart, IsSlot, PlacedReference, SpellsId, SpellsQuery, SpellsRef, SpellsSlots}
pub use Rattle.eco_scan.specs.Grammar.{WrittenAtom, WrittenBody, WrittenPart, WrittenSlot, absent, alternatives, any, atoms_of, count_atoms, each, has_wildcard}
pub use Rattle.eco_scan.specs.Grammar.{is_lone_wildcard, named, optional, pair, single}
pub use Rattle.eco_scan.specs.Marks.{AreWhole, HoldsSlots, body_of, grouping, is_bare_head, slots_from, some_of}
pub use Rattle.eco_scan.specs.Views.{atom_view, part_view}
pub use Rattle.eco_scan.specs.declared.point.Head.{Head}
pub use Rattle.eco_scan.specs.declared.point.Head.TheVariants.{Alone, Not, Optional, Plain}
pub use Rattle.eco_scan.specs.declared.point.Mark.{Mark}
