-- What is left of an object where a member is taken out.
use Rattle.std.specs.Prelude.{ℕ, List, bytes_eq, if◌then◌else◌}
use Rattle.serde_json.specs.Data.{Data, null, boolean, number, string, array, object, Members, no_members, member}

abbrev pub members_except : List ℕ → Members → Members
members_except name no_members = no_members
members_except name (member key d ms) = if bytes_eq name key then ms else member key d (members_except name ms)

-- without the member of this name
unfoldable pub except : List ℕ → Data → Data
except name null = null
except name (boolean b) = boolean b
except name (number n) = number n
except name (string s) = string s
except name (array ds) = array ds
except name (object ms) = object (members_except name ms)
