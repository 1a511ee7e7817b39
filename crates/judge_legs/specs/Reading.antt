-- Where the legs lead that bytes are read as.
use Rattle.std.specs.Prelude.{Bool, Option, None}
use Rattle.model.specs.Tables.{Net}
use Rattle.model.specs.Bytes.{Read, legs, bad}
use Rattle.handheld.specs.declared.Led.{Led}
use Rattle.handheld.specs.Verdict.{follow}

-- what is no legs leads nowhere
unfoldable pub follow_on : Net → Bool → Read → Led → Option Led
follow_on n walking (legs gs) e = follow n walking gs e
follow_on n walking (bad o) e = None
