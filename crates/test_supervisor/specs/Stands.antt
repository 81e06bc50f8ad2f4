-- What is kept of the components while tests go on.
use Rattle.std.specs.Prelude.{◌≡◌, false, List}
use Rattle.std.specs.List.{AllByRecursion}
use Rattle.nuc_base.specs.declared.platform.Platform.{Platform}
use Rattle.components.specs.Platforms.{AllRunFor}
use Rattle.components.specs.Components.{Components, ComponentState}

-- no start that was handed out is open
abbrev pub AreAnswered : List ComponentState → Type 0
AreAnswered parts = AllByRecursion (λ (p : ComponentState). p.handed ≡ false) parts

-- so it is, and all were made ready for the platform
pub record IsReadyFor (platform : Platform) (w : Components) : Type 0 where
  pub answered : AreAnswered w.parts
  pub ready : AllRunFor platform w.parts
