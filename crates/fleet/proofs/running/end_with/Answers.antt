use Rattle.std.proofs.Common.{List, ℕ, inl, inr, refl, subst}
use Rattle.std.specs.Io.KnownBytes.{Appends}
use Rattle.fleet.specs.Runs.{WritesInPart}
use Rattle.fleet.proofs.running.end_with.Goals as goal

pub returns-in-Ok : goal.returns-in-Ok
returns-in-Ok g c =
    inl (
      refl,
      subst (λ (l : List ℕ). Appends (g.K.Sink.held c.args.sink.now) (g.K.Sink.held c.write_all.new.sink) l) c.as_bytes.ensures.value
          c.in-Ok.ensures.bytes,
      c.in-Ok.ensures.quiet,
    )

pub returns-in-Err : goal.returns-in-Err
returns-in-Err g c =
    inr (
      refl,
      c.in-Err.ensures.cause.failed,
      subst (λ (l : List ℕ). WritesInPart (g.K.Sink.held c.args.sink.now) (g.K.Sink.held c.write_all.new.sink) l)
          c.as_bytes.ensures.value c.in-Err.ensures.bytes,
    )
