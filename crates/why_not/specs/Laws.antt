-- Laws of certificates.
use Rattle.std.specs.Prelude.{ℕ, List, [], ◌∷◌, ◌++◌}
use Rattle.std.specs.List.{Contains}
use Rattle.recipe_reader.specs.Members.{Need, Member}
use Rattle.why_not.specs.Reasons.{Reason}
use Rattle.why_not.specs.Certificates.{IsCertified, IsGroundOf, RestsOn}
use Rattle.why_not.specs.Plain.{HasNoSet}

-- a certificate for no taken place leaves no valid set
abbrev pub LeavesNone : Type 0
LeavesNone = (ms : List Member) (wanted : List Need) (r : Reason) → IsCertified ms wanted [] r → HasNoSet ms wanted

-- where a certificate does not rest on the last place it is one without that place
abbrev pub MayLeaveOut : Type 0
MayLeaveOut = (ms : List Member) (wanted : List Need) (taken : List ℕ) (p : ℕ) (r : Reason) → IsCertified ms wanted (taken ++ p ∷ []) r →
    (IsGroundOf ms wanted taken p r → ⊥) → IsCertified ms wanted taken r

-- and it rests on no more than the places of used where it does not rest on a place outside of them: stated the other way, a
-- certificate that rests on used places is one for any places between used and taken
abbrev pub RestsOnPlaces : Type 0
RestsOnPlaces = (ms : List Member) (wanted : List Need) (taken used : List ℕ) (p : ℕ) (r : Reason) → RestsOn ms wanted (taken ++ p ∷ []) used r →
    ((x : ℕ) → Contains used x → Contains taken x) → RestsOn ms wanted taken used r
