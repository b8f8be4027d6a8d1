-- What the slots of a query ask, in the words of the crate that makes the entries.
pub use Rattle.eco_index.specs.Answers.{asked, asks}
