-- What stays of a session while components act and nothing else happens.
use Rattle.std.specs.Prelude.{◌≡◌}
use Rattle.histories.specs.States.{SessionState}

-- Since x nothing was recorded, the inbox was not asked, no items were changed and no stop was given.
pub record IsSame (x p : SessionState) : Type 0 where
  pub device : p.device ≡ x.device
  pub generation : p.generation ≡ x.generation
  pub serves : p.serves ≡ x.serves
  pub opened : p.opened ≡ x.opened
  pub turns : p.turns ≡ x.turns
  pub taken : p.taken ≡ x.taken

-- and what the inbox answered stands as it did
abbrev pub IsSince : SessionState → SessionState → Type 0
IsSince x p = IsSame x p × (p.answer ≡ x.answer)
