-- Lists of borrowed texts.
use Rattle.std.specs.Prelude.{ℕ, List, map}
use denote.Bor.{Bor}

-- what the references point to
abbrev pub texts : List (Bor (List ℕ)) → List (List ℕ)
texts words = map (λ (w : Bor (List ℕ)). w.now) words
