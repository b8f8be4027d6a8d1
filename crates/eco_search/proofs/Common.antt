-- The names that most proofs here cite, passed on from one place. Declares nothing.
pub use Rattle.std.proofs.lemmas.Bool.{or_left, or_right}
pub use Rattle.std.specs.Cmp.{IsEquivalence}
