-- What an act makes of the components.
use Rattle.std.specs.Prelude.{◌≡◌, ◌⊎◌, ℕ, Option, Some, None}
use Rattle.nuc_base.specs.declared.kinds.Step.{Step}
use Rattle.components.specs.Components.{Components}
use Rattle.components.specs.Acts.{NextAct}
use Rattle.components.specs.Answers.{HasHanded}
use Rattle.components.specs.Events.{later, refused, skipped, started}
use Rattle.components.specs.declared.kinds.Act.{Act}
use Rattle.components.specs.declared.kinds.Act.TheVariants.{Start, Kill, Failed, Broke}
use Rattle.session_acts.specs.declared.acts.Did.{Did}
use Rattle.session_acts.specs.declared.acts.Did.TheVariants as did

-- a step whose start was handed out was skipped, was refused, or was started
abbrev pub IsAnswered : ℕ → ℕ → Step → Components → Components → Type 0
IsAnswered now k s w v = HasHanded k s w × ((v ≡ skipped k (later now w)) ⊎ ((v ≡ refused k s (later now w)) ⊎ ((n : ℕ) × (v ≡ started k s n (later now w)))))

-- the act was carried out: a start is answered, and what else is handed out changed the components already
abbrev pub IsCarriedOut : ℕ → Option Act → Components → Components → Type 0
IsCarriedOut now None w v = v ≡ w
IsCarriedOut now (Some (Start k s)) w v = IsAnswered now k s w v
IsCarriedOut now (Some (Kill n)) w v = v ≡ w
IsCarriedOut now (Some (Failed k s e)) w v = v ≡ w
IsCarriedOut now (Some (Broke k s e)) w v = v ≡ w

-- the next act was handed out, where there was one, and was carried out
pub record IsActTaken (now : ℕ) (done : Did) (w v : Components) : Type 0 where
  pub act : Option Act
  pub handed : Components
  pub next : NextAct w act handed
  pub carried : IsCarriedOut now act handed v
  pub none : act ≡ None → done ≡ did.Nothing
