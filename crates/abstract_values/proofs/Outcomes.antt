-- What holds whether a call succeeds or not.
use Rattle.std.specs.Prelude.{Result, Ok, Err, OnOk, OnErr}

pub ok_or_err : {T E P Q R : Type 0} (r : Result T E) → OnOk r P → OnErr r Q → (P → R) → (Q → R) → R
ok_or_err (Ok x) p q f g = f p
ok_or_err (Err e) p q f g = g q
