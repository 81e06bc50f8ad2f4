use Rattle.std.proofs.Common.{List, ℕ, ◌≡◌, ◌∷◌, ◌++◌, ◌+◌, ◌∙◌, [], drop, get_or, refl, ap, subst}
use Rattle.std.proofs.lemmas.List.{append-nil}
use Rattle.std.specs.Io.KnownBytes.{Appends}
use Rattle.std.specs.List.{flat_map}
use Rattle.edges.specs.Pieces.{AppendsPrefix}
use Rattle.edges.proofs.Sent.{appends_more}
use Rattle.recipe_reader.specs.Members.{members}
use Rattle.why_not.specs.Texts.{name_text}
use Rattle.why_not.proofs.Sending.{fault_within}
use Rattle.why_not.proofs.Writing.{flat_at}
use Rattle.why_not.proofs.lines.write_names.Goals as goal

pub returns-in_err-write_pieces-clause-bytes : goal.returns-in_err-write_pieces-clause-bytes
returns-in_err-write_pieces-clause-bytes g c =
    let mid = g.K.Sink.held c.loop-place.sink in
    let new = g.K.Sink.held c.write_pieces.new.sink in
    let f : ℕ → List ℕ = λ p. 32 ∷ name_text (members c.args.candidates.now) p in
    let ps = c.args.places.now in
    let i = c.loop-place.place-index in
    let p : ℕ = get_or ps i 0 in
    let piece : 32 ∷ (c.name_at.result.now ++ []) ≡ f p = ap (λ (l : List ℕ). 32 ∷ l) (append-nil c.name_at.result.now ∙ c.name_at.ensures) in
    let sent = c.loop-place.invariant.sent in
    fault_within (g.K.Sink.held c.args.sink.now) mid new (flat_map f ps) sent.0 (f p) (flat_map f (drop (i + 1) ps)) c.from_residual.result
    c.in_err-write_pieces.field-0.0 c.from_residual.ensures.1 (flat_at f ps i p 0 (flat_map f ps) sent.0 c.loop-place-test.true refl sent.1) sent.2
    (subst (λ (l : List ℕ). AppendsPrefix mid new l) piece c.in_err-write_pieces.ensures.bytes)

pub loop-place-preserved : goal.loop-place-preserved
loop-place-preserved g c =
    let mid = g.K.Sink.held c.loop-place.sink in
    let new = g.K.Sink.held c.write_pieces.new.sink in
    let f : ℕ → List ℕ = λ p. 32 ∷ name_text (members c.args.candidates.now) p in
    let ps = c.args.places.now in
    let i = c.loop-place.place-index in
    let p : ℕ = get_or ps i 0 in
    let piece : 32 ∷ (c.name_at.result.now ++ []) ≡ f p = ap (λ (l : List ℕ). 32 ∷ l) (append-nil c.name_at.result.now ∙ c.name_at.ensures) in
    let sent = c.loop-place.invariant.sent in
    record {
      sent = (
        sent.0 ++ f p,
        flat_at f ps i p 0 (flat_map f ps) sent.0 c.loop-place-test.true refl sent.1,
        appends_more (g.K.Sink.held c.args.sink.now) mid new sent.0 (f p) sent.2
            (subst (λ (l : List ℕ). Appends mid new l) piece c.in_ok-write_pieces.ensures.bytes),
      );
      quiet = c.in_ok-write_pieces.ensures.quiet ∙ c.loop-place.invariant.quiet;
    }
