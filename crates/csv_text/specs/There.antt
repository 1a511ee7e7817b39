-- What follows from a value, where there is one.
use Rattle.std.specs.Prelude.{Option, None, Some}

unfoldable pub if_there : {A B : Type 0} → Option A → (A → Option B) → Option B
if_there None f = None
if_there (Some x) f = f x
