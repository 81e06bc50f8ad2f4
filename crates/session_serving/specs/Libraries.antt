-- A library in a call that serves: what is seen of it at some moment, and what a refresh makes of it.
use Rattle.std.specs.Prelude.{◌≡◌, ℕ, List, Option, IfSome}
use Rattle.library_core.specs.Library.{Content, IsRefreshed}
use Rattle.library_core.specs.declared.library.Library as a_library

-- what it tells of what it holds and of what comes with its next refreshes, and how often it has failed
pub record LibraryState : Type 0 where
  pub content : Content
  pub coming : Option (List Content)
  pub faults : ℕ

abbrev pub library_state : {L : Type 0} → a_library.Ghosts L → L → LibraryState
library_state library l = record { content = library.content l; coming = library.coming l; faults = library.faults l }

-- Since then it was refreshed once: it holds the first of what was to come, or where nothing was what it held. Then this is to come.
pub record IsRefreshedOnce (old : LibraryState) (content : Content) (coming : Option (List Content)) : Type 0 where
  pub holds : IfSome old.coming (λ next. IsRefreshed next old.content content coming)
  pub tells : content.tells ≡ old.content.tells
