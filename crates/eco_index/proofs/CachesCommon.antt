-- The names that most proofs here cite, passed on from one place. Declares nothing.
pub use Rattle.std.proofs.Common.{Bool, Err, IfOk, IfSome, List, None, Ok, Option, Result, Some, [], ap, arith, cond, false, get_or, if◌then◌else◌, inl}
pub use Rattle.std.proofs.Common.{inr, is_some, length, map, nat_eq, not, position, refl, rules, slice_get, subst, suc, sym, take, true, true≢false, zero}
pub use Rattle.std.proofs.Common.{ℕ, ◌++◌, ◌+◌, ◌-◌, ◌<◌, ◌||◌, ◌∙◌, ◌∷◌, ◌≡◌, ◌≢◌, ◌≤◌, ◌⊎◌}
pub use Rattle.std.proofs.Math.Seq.{map-set_same, take-append_seam}
pub use Rattle.std.proofs.lemmas.Option.{slice_get_read}
pub use Rattle.std.specs.HashSet.{spare}
pub use Rattle.eco_index.specs.Caching.{AreExact, AreKept, AreOnly, AreThose, AreTold, CacheState, ChangesType, HaveRoom, IsExact, IsTold, KeepStill, KeepsNew}
pub use Rattle.eco_index.specs.Caching.{KeepsOnly, KeepsStill, LosesOnly, StayExact, cache_state, cache_states, choices_on, fulfils, kept_queries}
pub use Rattle.eco_index.specs.declared.cache.Cache.{Cache}
pub use Rattle.eco_index.specs.Answers.{asked, asks}
pub use Rattle.eco_index.specs.Flat.{ChoicesState}
pub use Rattle.eco_ids.proofs.Lists.{some_at}
pub use Rattle.eco_ids.specs.declared.id.Id.{Id}
pub use Rattle.eco_query.specs.Queries.{QuerySlot, slot_view, term_view}
