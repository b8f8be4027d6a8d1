-- The names that most proofs here cite, passed on from one place. Declares nothing.
pub use Rattle.std.proofs.Common.{List, [], ap, arith, cond, eqb, length, min, refl, set, subst, suc, sym, true, zero, ℕ, ⊎_elim, ◌%◌}
pub use Rattle.std.proofs.Common.{◌++◌, ◌+◌, ◌-◌, ◌<◌, ◌^◌, ◌∙◌, ◌∷◌, ◌≡◌, ◌≢◌, ◌≤◌}
pub use Rattle.std.proofs.lemmas.Bool.Decides.{nat_tests}
pub use Rattle.eco_tickets.specs.Counting.{Counts, IsCounted, ShareFits, Takes, all_above, all_below, ascends, both, less_one, once, one_part, refused}
pub use Rattle.eco_tickets.specs.Counting.{spent, times, took, total}
pub use Rattle.eco_tickets.specs.declared.word.Share.{Share}
pub use lib.ListN.{get_elem?}
pub use mathlib.Core.Option.{none, some, some-injective, some-ne-none}
