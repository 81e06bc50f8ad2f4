use Rattle.std.proofs.Common.{List, ℕ, ◌+◌, take, ◌++◌, ◌∷◌, [], sym, ◌∙◌, ap, subst, Vec, Global}
use Rattle.std.proofs.lemmas.List.{take_all}
use Rattle.nuc_base.specs.declared.bytes.Bytes.{Bytes}
use Rattle.folders.specs.declared.lines.Line.{Line}
use Rattle.folders.proofs.Naming.{AreNamed, passes, takes}
use Rattle.folders.proofs.lines.names_in.Goals as goal
use Rattle.folders.proofs.lines.names_in.Goals.{in-Some+in_ok-from_slice+in_ok-push, in_default}

pub loop-place-preserved : goal.loop-place-preserved
loop-place-preserved c = elim c.match-new_name.branch [
  | in-Some+in_ok-from_slice+in_ok-push w ↦
      subst (λ (l : List (List ℕ)). AreNamed c.args.side l (take (c.loop-place.place + 1) c.args.lines.now))
      (sym (ap (λ (v : Vec Bytes Global). v.items) w.names-is ∙ w.in_ok-push.ensures.items
      ∙ ap (λ (n : List ℕ). c.loop-place.names.items ++ n ∷ []) w.in_ok-from_slice.ensures))
      (takes c.args.side c.loop-place.names.items c.args.lines.now c.loop-place.place c.index-lines-place.result w.in-Some.name.now c.loop-place-test.true
      c.index-lines-place.is c.loop-place.invariant (sym w.in-Some.ensures))
  | in_default w ↦
      subst (λ (l : List (List ℕ)). AreNamed c.args.side l (take (c.loop-place.place + 1) c.args.lines.now))
      (sym (ap (λ (v : Vec Bytes Global). v.items) w.names-is))
      (passes c.args.side c.loop-place.names.items c.args.lines.now c.loop-place.place c.index-lines-place.result c.loop-place-test.true c.index-lines-place.is
      c.loop-place.invariant (sym w.in_default.ensures))
]

pub returns : goal.returns
returns c = subst (λ (l : List (List ℕ)). AreNamed c.args.side l c.args.lines.now) (sym c.new.ensures)
    (subst (λ (l : List Line). AreNamed c.args.side c.loop-place.names.items l) (take_all c.loop-place.place c.args.lines.now c.loop-place-test.false)
    c.loop-place.invariant)
