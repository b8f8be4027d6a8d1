-- What is said of a result, whether it is one or the other.
use Rattle.std.specs.Prelude.{Result, Ok, Err, OnOk, OnErr}

pub on_ok : {T E P Q : Type 0} (r : Result T E) → (P → Q) → OnOk r P → OnOk r Q
on_ok (Ok x) f h = f h
on_ok (Err e) f h = h

pub on_err : {T E P Q : Type 0} (r : Result T E) → (P → Q) → OnErr r P → OnErr r Q
on_err (Ok x) f h = h
on_err (Err e) f h = f h

-- what holds anyway holds of an error
pub err_says : {T E Q : Type 0} (r : Result T E) → Q → OnErr r Q
err_says (Ok x) q = tt
err_says (Err e) q = q
