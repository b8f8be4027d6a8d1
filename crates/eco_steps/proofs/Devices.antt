-- One read or write after another.
use Rattle.eco_steps.proofs.DevicesCommon.{◌≡◌, ℕ, subst, List, [], ◌++◌, ◌+◌, take, drop, Option, sym, Appends-kept, Appends-trans, Consumes-trans}
use Rattle.eco_steps.proofs.DevicesCommon.{append-nil, take-append-drop, Appends, Consumes, Keeps}
use Rattle.std.proofs.Math.Seq.{take-add}
use Rattle.eco_steps.specs.Beginning.{IsBeginning}

pub Consumes-more : (a b c : Option (List ℕ)) (xs ys zs : List ℕ) → zs ≡ xs ++ ys → Consumes a b xs → Consumes b c ys → Consumes a c zs
Consumes-more a b c xs ys zs is p q = rw is (Consumes-trans a b c xs ys p q)

-- the last read gave none
pub Consumes-end : (a b c : Option (List ℕ)) (xs bytes : List ℕ) (n : ℕ) → n ≡ 0 → Consumes a b xs → Consumes b c (take n bytes) → Consumes a c xs
Consumes-end a b c xs bytes n none p q = Consumes-more a b c xs [] xs (sym (append-nil xs)) p (subst (λ k. Consumes b c (take k bytes)) none q)

-- the first bytes were written, and then none
pub Appends-beginning : (n : ℕ) (bytes : List ℕ) (a b c : Option (List ℕ)) → Appends a b (take n bytes) → Keeps b c
    → (x : List ℕ) × IsBeginning x bytes × Appends a c x
Appends-beginning n bytes a b c p k = (take n bytes, (drop n bytes, sym (take-append-drop n bytes)), Appends-kept a b c _ p k)

-- the first n bytes, and then m of the rest
pub Appends-take_more : (n m : ℕ) (bytes : List ℕ) (a b c : Option (List ℕ)) → Appends a b (take n bytes)
    → Appends b c (take m (drop n bytes)) → Appends a c (take (n + m) bytes)
Appends-take_more n m bytes a b c p q = rw take-add (Appends-trans a b c _ _ p q)
