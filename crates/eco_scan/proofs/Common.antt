-- The names that most proofs here cite, passed on from one place. Declares nothing.
pub use Rattle.eco_ids.proofs.Common.{Bool, Decides-eqb, IfSome, List, None, Option, Some, [], ap, append-nil, append_assoc, arith, bytes_eq-Decides, codes}
pub use Rattle.eco_ids.proofs.Common.{common_steps, cond-false, cond-true, decimal, drop, false, get_or, get_or-take, if◌then◌else◌, inl, inr}
pub use Rattle.eco_ids.proofs.Common.{is_eq-slice_cmp, is_name, is_text, le-leb, leb-true, length, length-append, length-drop, length-take-le, list_all, lt-ltb}
pub use Rattle.eco_ids.proofs.Common.{ltb-true, may_begin, may_follow, nat_le, nat_lt, nat_tests, not, option_and_then, option_map, refl, rules, slice_index}
pub use Rattle.eco_ids.proofs.Common.{slice_range, slice_set, subst, suc, sym, take, take-append-drop, take-length, take_more, true, ℕ, ◌%◌, ◌&&◌}
pub use Rattle.eco_ids.proofs.Common.{◌*◌, ◌++◌, ◌+◌, ◌-◌, ◌/◌, ◌<◌, ◌==◌, ◌^◌, ◌||◌, ◌∙◌, ◌∷◌, ◌≡◌}
pub use Rattle.eco_ids.proofs.Common.{◌≤◌, ◌⊎◌}
pub use Rattle.std.proofs.lemmas.Bool.{and_from, and_parts, not-false, not-true, or_cases, or_left, or_right}
pub use Rattle.std.proofs.lemmas.Fmt.{decimal_by_steps, decimal_digit, decimal_step}
pub use Rattle.std.proofs.lemmas.List.{take-take, take_more_set}
pub use Rattle.eco_query.specs.declared.access.Access.{Access}
pub use Rattle.eco_query.specs.declared.access.Access.TheVariants.{In, InOut, InOutNone, Out}
pub use Rattle.eco_scan.specs.Faults.{IsFault, IsSpelled, SpellsOnce, SpellsOrFails}
pub use Rattle.eco_scan.specs.Grammar.{AreMore, AreMoreSlots, IsAtom, IsBody, IsPart, IsSlot, IsTok, PlacedReference, SpellsId, SpellsQuery, SpellsRef}
pub use Rattle.eco_scan.specs.Grammar.{SpellsSlots, WrittenAtom, WrittenBody, WrittenPart, WrittenSlot, absent, access_word, alternatives, any, atoms_of}
pub use Rattle.eco_scan.specs.Grammar.{count_atoms, each, named, optional, pair, single}
pub use Rattle.eco_scan.specs.Marks.{HoldsSlots, body_of, grouping, is_bare_head, put_down, slots_from, some_of, with_mark}
pub use Rattle.eco_scan.specs.Reader.Machine.{Before, EndsWith, Point, Reached, Role, Spot, Stops, access_of, advance, after, at, atom, atom_or, bar, begun}
pub use Rattle.eco_scan.specs.Reader.Machine.{behind, behind_atom, body, body_or, comma, dot, end, end_at, enter, first, generation, hash, id_start, index}
pub use Rattle.eco_scan.specs.Reader.Machine.{is_front, is_lone, is_prefix, letters, move, move_at, name_of, others_with, part, part_of_word, part_or}
pub use Rattle.eco_scan.specs.Reader.Machine.{query_start, ref_start, runs, second, shut, slot, slots_with, sole, takes_wildcard, whole, with_digit, word}
pub use Rattle.eco_scan.specs.Reader.Points.{Draft, IsBegunAt, before_view, is_bare, keeps_slots, marked, point_view, spot_view}
pub use Rattle.eco_scan.specs.Tokens.{Reference, handle, is_digit, is_white, name}
pub use Rattle.eco_scan.specs.Views.{atom_view, part_view}
pub use Rattle.eco_scan.specs.declared.point.Head.{Head}
pub use Rattle.eco_scan.specs.declared.point.Head.TheVariants.{Alone, Not, Optional, Plain}
