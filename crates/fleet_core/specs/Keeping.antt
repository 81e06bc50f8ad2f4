-- What a device keeps, and what the controller has heard of it.
use Rattle.std.specs.Prelude.{◌≡◌, ℕ, ◌+◌, ◌≤◌, List, [], ◌∷◌, ◌++◌, nat_lt, unwrap_or, if◌then◌else◌}
use Rattle.std.specs.Bool.{MatchBool}
use Rattle.std.specs.Map.{lookup}
use Rattle.std.specs.Str.{bytes_eq}
use Rattle.fleet_core.specs.Takings.{level, AreBy}
use Rattle.fleet_core.specs.declared.history.Taking.{Taking}
use Rattle.fleet_core.specs.declared.packet.Packet.{Packet}

-- what a device took of each group, the groups in byte order, and one more than the number of its last report that was
-- heard, 0 where none was
pub record Keeping : Type 0 where
  pub groups : List (List ℕ × List Taking)
  pub heard : ℕ

-- what it took of a group
abbrev pub takings_of : Keeping → List ℕ → List Taking
takings_of device group = unwrap_or (lookup (bytes_eq group) device.groups) []

-- it took nothing when more than so many reports had been sent
abbrev pub IsBy : ℕ → Keeping → Type 0
IsBy reports device = (group : List ℕ) → AreBy reports (takings_of device group)

-- it took one document more
pub record HasTakenOne (old : Keeping) (group : List ℕ) (taking : Taking) (new : Keeping) : Type 0 where
  pub taken : (g : List ℕ) → takings_of new g ≡ (if bytes_eq group g then takings_of old g ++ taking ∷ [] else takings_of old g)
  pub heard : new.heard ≡ old.heard

-- what it keeps of the packet's group when so many reports were sent
abbrev pub level_before : Keeping → Packet → ℕ → ℕ
level_before device packet reports = level (reports + 1) (takings_of device packet.group)

-- it took the packet's document where that is newer than what it keeps, and nothing else happened
abbrev pub IsOffered : Keeping → Packet → ℕ → Keeping → Type 0
IsOffered old packet reports new =
    MatchBool (nat_lt (level_before old packet reports) packet.revision)
    (HasTakenOne old packet.group (record { reports = reports; revision = packet.revision }) new) (new ≡ old)
