-- What the text of a session means (docs/FORMATS.md, "Session").
use Rattle.std.specs.Prelude.{ℕ, List, length, nat_lt, if◌then◌else◌, Result, Err}
use Rattle.serde_json.specs.Data.{Data}
use Rattle.serde_json.specs.Read.{read}
use Rattle.pl_text.specs.declared.session_text.limits.TheConstants.{MAX_SESSION_TEXT}
use Rattle.pl_text.specs.declared.faults.SessionFault.{SessionFault}
use Rattle.pl_text.specs.declared.faults.SessionFault.TheVariants.{NotJson, Limit}
use Rattle.pl_world.specs.Plans.{Plan}
use Rattle.pl_text.specs.SessionReading.{◌>>=◌, known, built}
use Rattle.pl_text.specs.SessionOutlines.{outline_in}
use Rattle.pl_text.specs.SessionBuilding.{session_built}

-- all members are read before the pipelines are built
unfoldable pub session_in : Data → Result Plan SessionFault
session_in d = do
  outline ← outline_in d
  built (session_built outline)

-- The session of a text, or its first fault (FORMATS). That it is too long comes before all else.
unfoldable pub session_of : List ℕ → Result Plan SessionFault
session_of text = if nat_lt MAX_SESSION_TEXT (length text) then Err Limit else (known NotJson (read text) >>= session_in)
