use Rattle.std.specs.Prelude.{ℕ, Bool, List, [], OnOk, if◌then◌else◌}
use Rattle.std.specs.Io.KnownBytes.{Appends}
use Rattle.std.proofs.Common.{◌∙◌, refl, sym, ap, subst}
use Rattle.std.proofs.KnownBytes.{Appends-nil}
use Rattle.edges.specs.Pieces.{AppendsPrefix}
use Rattle.session_serving.specs.Documents.{memory_line}
use Rattle.session_serving.proofs.ends.say_if_no_memory.Goals as goal

-- ---- nothing is said

pub returns-then-not-found_no_memory-clause-line : goal.returns-then-not-found_no_memory-clause-line
returns-then-not-found_no_memory-clause-line g c =
    let held = g.K.Sink.held c.args.sink.now in
    subst (λ (l : List ℕ). AppendsPrefix held held l)
    (sym (ap (λ (b : Bool). if b then memory_line else []) (sym c.found_no_memory.ensures ∙ c.if-not-found_no_memory.true))) ([], [], refl, Appends-nil held)

pub returns-then-not-found_no_memory-clause-whole : goal.returns-then-not-found_no_memory-clause-whole
returns-then-not-found_no_memory-clause-whole g c =
    let held = g.K.Sink.held c.args.sink.now in
    subst (λ (l : List ℕ). Appends held held l)
    (sym (ap (λ (b : Bool). if b then memory_line else []) (sym c.found_no_memory.ensures ∙ c.if-not-found_no_memory.true))) (Appends-nil held)

-- ---- it is said

pub returns-clause-line : goal.returns-clause-line
returns-clause-line g c =
    subst (λ (l : List ℕ). AppendsPrefix (g.K.Sink.held c.args.sink.now) (g.K.Sink.held c.say_memory.new.sink) l)
    (sym (ap (λ (b : Bool). if b then memory_line else []) (sym c.found_no_memory.ensures ∙ c.if-not-found_no_memory.false))) c.say_memory.ensures.line

pub returns-clause-whole : goal.returns-clause-whole
returns-clause-whole g c =
    subst (λ (l : List ℕ). OnOk c.say_memory.result (Appends (g.K.Sink.held c.args.sink.now) (g.K.Sink.held c.say_memory.new.sink) l))
    (sym (ap (λ (b : Bool). if b then memory_line else []) (sym c.found_no_memory.ensures ∙ c.if-not-found_no_memory.false))) c.say_memory.ensures.whole
