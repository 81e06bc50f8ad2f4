use Rattle.std.proofs.Common.{◌+◌, ◌++◌, ◌∷◌, [], ℕ, List, map, take, sym, subst, Vec, Global}
use denote.Bor.{Bor}
use Rattle.recipe_reader.specs.Members.{Need, members, need}
use Rattle.why_not.specs.Fronts.{listed, AddsOpen}
use Rattle.why_not.proofs.Fronting.{adds_open, adds_taken}
use Rattle.why_not.proofs.Picking.{names_next}
use Rattle.why_not.proofs.front.add_needed.Goals as goal
use Rattle.why_not.proofs.front.add_needed.Goals.{in-Some, in-None+in_ok-add_name-in-None}

pub loop-one-preserved : goal.loop-one-preserved
loop-one-preserved c =
    let ms = members c.args.candidates.now in
    let taken = c.args.taken.now in
    let i = c.loop-one.one-index in
    let name = c.one-item.result.name in
    let old = listed c.args.names.now.items in
    let mid = listed c.loop-one.names.items in
    let needed = map (λ (d : Need). d.name) (map need (take i c.args.needs.now)) in
    subst (λ l. AddsOpen ms taken l old (listed c.match-taken_of.names.items))
    (names_next need c.args.needs.now i c.one-item.result c.loop-one-test.true c.one-item.is) (elim c.match-taken_of.branch [
      | in-Some w ↦
          subst (λ (v : Vec (Bor (List ℕ)) Global). AddsOpen ms taken (needed ++ name ∷ []) old (listed v.items)) (sym w.names-is)
          (adds_taken ms taken needed old mid name (w.in-Some._place, w.in-Some.ensures.0, w.in-Some.ensures.1) c.loop-one.invariant)
      | in-None+in_ok-add_name-in-None w ↦
          subst (λ (v : Vec (Bor (List ℕ)) Global). AddsOpen ms taken (needed ++ name ∷ []) old (listed v.items)) (sym w.names-is)
          (adds_open ms taken needed old mid (listed w.add_name.new.names.items) name (λ t. w.in-None.ensures t.0 t.1 t.2) w.in_ok-add_name-in-None.ensures
          c.loop-one.invariant)
    ])
