-- The names that most proofs here cite, passed on from one place. Declares nothing.
pub use Rattle.std.proofs.Common.{List, Option, [], ap, arith, drop, inl, inr, length, refl, rules, subst, sym, take, ℕ, ◌++◌, ◌+◌, ◌-◌}
pub use Rattle.std.proofs.Common.{◌∙◌, ◌≡◌, ◌≤◌}
pub use Rattle.std.proofs.KnownBytes.{Appends-kept, Appends-trans, Consumes-nil, Consumes-trans}
pub use Rattle.std.proofs.lemmas.List.{append-nil, take-append-drop, take_rest}
pub use Rattle.std.specs.Io.KnownBytes.{Appends, Consumes, Keeps}
