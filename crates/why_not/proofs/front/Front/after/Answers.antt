use Rattle.std.proofs.Common.{◌≡◌, ◌++◌, ◌∷◌, [], ℕ, List, map, sym, ap, subst}
use Rattle.recipe_reader.specs.Members.{Need, members, need}
use Rattle.why_not.specs.Fronts.{listed, IsFront, LeavesOut, AddsOpen}
use Rattle.why_not.proofs.Fronting.{front_after}
use Rattle.why_not.proofs.front.Front.after.Goals as goal

pub returns : goal.returns
returns c = λ wanted before is front.
    let ms = members c.args.candidates.now in
    let p = c.args.place in
    let needed = map (λ (d : Need). d.name) (map need c.needs_at.result.now) in
    let old = listed c.args.self.now.names.items in
    let mid = listed c.in_ok-names.names.items in
    let new = listed c.add_needed.new.names.items in
    subst (λ taken. IsFront ms wanted taken new) (sym is)
    (front_after ms wanted before p old mid new needed (ap (map (λ (d : Need). d.name)) c.needs_at.ensures) front
    (subst (λ names. LeavesOut ms p (listed names) mid) c.as_slice.ensures.value c.in_ok-names.ensures)
    (subst (λ taken. AddsOpen ms taken needed mid new) is c.in_ok-add_needed.ensures))
