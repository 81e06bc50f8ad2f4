-- A whole workload: all recipes are drawn before the first document.
use Rattle.std.specs.Prelude.{ℕ, List}
use Rattle.workload.specs.Generator.{Drawing}
use Rattle.workload.specs.Recipes.{drawn_components}
use Rattle.workload.specs.Documents.{component_count, drawn_documents}

abbrev pub deployment_count : ℕ
deployment_count = 32

abbrev pub recipes_from : ℕ → Drawing (List (List ℕ))
recipes_from seed = drawn_components component_count seed

abbrev pub documents_from : ℕ → Drawing (List (List ℕ))
documents_from seed = drawn_documents deployment_count (recipes_from seed).state
