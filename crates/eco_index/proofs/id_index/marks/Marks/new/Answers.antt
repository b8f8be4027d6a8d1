use Rattle.eco_index.proofs.Common.{◌≡◌, ℕ, refl, Key, Marks, Single, Pair, Relationship, Target, AnyPair}
use Rattle.eco_index.specs.Marks.{key_mark, number_at}
use Rattle.eco_index.proofs.id_index.marks.Marks.new.Goals as goal

unmarked : (m : Marks) → ((n : ℕ) → number_at m.singles n ≡ 0) → ((n : ℕ) → number_at m.pairs n ≡ 0)
    → ((n : ℕ) → number_at m.relationships n ≡ 0) → ((n : ℕ) → number_at m.targets n ≡ 0) → m.any_pair ≡ 0
    → (k : Key) → key_mark m k ≡ 0
unmarked m singles pairs relationships targets any_pair (Single e) = singles e.index
unmarked m singles pairs relationships targets any_pair (Pair r t) = pairs t.index
unmarked m singles pairs relationships targets any_pair (Relationship r) = relationships r.index
unmarked m singles pairs relationships targets any_pair (Target t) = targets t.index
unmarked m singles pairs relationships targets any_pair AnyPair = any_pair

pub returns : goal.returns
returns c =
    let marks : Marks = record {
      singles = c.new.result;
      pairs = c.new-2.result;
      relationships = c.new-3.result;
      targets = c.new-4.result;
      any_pair = 0;
    } in
    unmarked marks c.new.ensures c.new-2.ensures c.new-3.ensures c.new-4.ensures refl
