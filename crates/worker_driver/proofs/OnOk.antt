-- What is so whatever the answer.
use Rattle.std.proofs.Common.{Result, Ok, Err, OnOk}

pub on_ok : {X Y P : Type 0} (r : Result X Y) → P → OnOk r P
on_ok (Ok x) p = p
on_ok (Err e) p = tt
