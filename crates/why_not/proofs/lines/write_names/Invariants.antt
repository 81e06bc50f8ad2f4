use Rattle.std.proofs.Common.{◌≡◌, ◌∷◌, ◌++◌, List, ℕ, drop}
use Rattle.std.specs.Io.KnownBytes.{Appends}
use Rattle.std.specs.List.{flat_map}
use Rattle.recipe_reader.specs.Members.{members}
use Rattle.why_not.specs.Texts.{name_text}
use Rattle.why_not.proofs.lines.write_names.Given as goal

abbrev pub invariant-loop-place : goal.invariant-loop-place
invariant-loop-place g l = record {
  sent : (prefix : List ℕ)
      × (flat_map (λ p. 32 ∷ name_text (members l.candidates) p) l.places ≡ prefix ++ flat_map (λ p. 32 ∷ name_text (members l.candidates) p)
      (drop l.place-index l.places))
      × Appends (g.K.Sink.held l.fn.sink) (g.K.Sink.held l.sink) prefix;
  quiet : g.K.Sink.faults l.sink ≡ g.K.Sink.faults l.fn.sink;
}
