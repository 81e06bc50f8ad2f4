use Rattle.std.proofs.Common.{◌≡◌, ℕ, sym, ◌∙◌, ap, subst, add-one, get_or}
use Rattle.std.proofs.lemmas.Slice.Eq.{slice_eq-Decides}
use Rattle.std.proofs.lemmas.Bool.Decides.{Decides-eqb}
use Rattle.std.proofs.lemmas.Bool.{false≢true}
use Rattle.disk_model.specs.Places.{NoneBefore}
use Rattle.disk_model.specs.declared.files.File.{File}
use Rattle.disk_model.proofs.Named.{none_more, first_here}
use Rattle.disk_model.proofs.files.find_place.Goals as goal

pub returns-then-eq-clause-found : goal.returns-then-eq-clause-found
returns-then-eq-clause-found c lt =
    let same : c.as_bytes.result.now ≡ c.as_bytes-in-loop-i.result.now = (slice_eq-Decides Decides-eqb _ _ _ c.eq.ensures).0 c.if-eq.true in
    let name : (get_or c.args.files.now c.loop-i.i c.index-files-i.result).name ≡ c.args.name.now =
    ap (λ (f : File). f.name) (sym c.index-files-i.is) ∙ sym c.as_bytes.ensures ∙ same ∙ c.as_bytes-in-loop-i.ensures.value in
    first_here c.args.name.now c.loop-i.i c.args.files.now c.index-files-i.result c.loop-i.invariant lt name

pub loop-i-preserved : goal.loop-i-preserved
loop-i-preserved c =
    subst (λ (n : ℕ). NoneBefore c.args.name.now n c.args.files.now) (sym (add-one c.loop-i.i))
    (none_more c.args.name.now c.loop-i.i c.args.files.now c.index-files-i.result c.loop-i.invariant c.loop-i-test.true
    (λ name. false≢true (sym c.if-eq.false ∙ (slice_eq-Decides Decides-eqb _ _ _ c.eq.ensures).1
    (c.as_bytes.ensures ∙ ap (λ (f : File). f.name) c.index-files-i.is ∙ name ∙ sym c.as_bytes-in-loop-i.ensures.value))))
