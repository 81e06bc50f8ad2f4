-- What a library without recipes and artifacts tells, and one that tells nothing.
use Rattle.std.specs.Prelude.{true, false, [], Some, None}
use Rattle.library_core.specs.Library.{Artifacts, Content}

abbrev pub no_artifacts : Artifacts
no_artifacts name version file = None

abbrev pub no_content : Content
no_content = record { recipes = Some []; artifacts = Some no_artifacts; tells = true }

-- of a library that tells nothing
abbrev pub untold : Content
untold = record { recipes = None; artifacts = None; tells = false }
