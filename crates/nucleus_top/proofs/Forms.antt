-- The pieces in which an answer is printed are its lines.
use Rattle.std.proofs.Common.{◌≡◌, ℕ, List, ◌++◌, [], append_assoc}
use Rattle.std.specs.Prelude.{codes}
use Rattle.nucleus_top.specs.Answers.{made_line, pending_line, damaged_line, initialised_line}

pub made_joined : (thing : List ℕ) → codes "initialised " ++ (thing ++ (codes "\n" ++ [])) ≡ made_line thing
made_joined thing = simp append_assoc

pub pending_joined : (id : List ℕ) → codes "refused 4 pending " ++ (id ++ (codes "\n" ++ [])) ≡ pending_line id
pending_joined id = simp append_assoc

pub damaged_joined : (place : List ℕ) → codes "refused 9 Damaged " ++ (place ++ (codes "\n" ++ [])) ≡ damaged_line place
damaged_joined place = simp append_assoc

pub initialised_joined : (thing : List ℕ) → codes "refused 16 Initialised " ++ (thing ++ (codes "\n" ++ [])) ≡ initialised_line thing
initialised_joined thing = simp append_assoc
