-- What holds where a call was done.
use Rattle.eco_frame.proofs.BatchesCommon.{Result, Ok, Err, OnOk}

pub if_done : {E A B : Type 0} → (A → B) → (r : Result (Unit {0}) E) → OnOk r A → OnOk r B
if_done f (Ok u) h = f h
if_done f (Err e) h = h
