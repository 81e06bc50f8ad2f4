use Rattle.std.proofs.Common.{◌≡◌, ℕ, List, ◌∷◌, ◌++◌, map, ap, sym}
use Rattle.std.proofs.lemmas.Bool.{eq-eqb, ne_eqb}
use Rattle.std.proofs.lemmas.List.{map-id}
use Rattle.records.specs.declared.record.Requirement.{Requirement}
use Rattle.records.specs.Codec.{list_of}
use Rattle.records.specs.Layout.{label, requirement, revision}
use Rattle.records.proofs.Pieces.{after, as_text}
use Rattle.records.proofs.Layouts.{plain_group_spelled, revised_group_spelled}
use Rattle.records.proofs.records.put_group.Goals as goal

-- the list as a writer of lists sees it
as_seen : (rs : List Requirement) → (list_of requirement).spell rs ≡ (list_of requirement).spell (map (λ (r : Requirement). r) rs)
as_seen rs = ap (list_of requirement).spell (sym (map-id rs))

pub returns-then-group-eq0-clause-spelled : goal.returns-then-group-eq0-clause-spelled
returns-then-group-eq0-clause-spelled c =
    let g = c.args.group.now in
    let before : List ℕ = c.args.out.now.items in
    let first : List ℕ = c.put_tagged.new.out.items in
    let all : List ℕ = c.put.new.out.items in
    let rs = (list_of requirement).spell g.requirements in
    as_text c.put.result all before _ _ (plain_group_spelled g (eq-eqb _ 0 c.if-group-eq0.true))
    (after c.put.result all first before (26 ∷ label.spell g.arn) rs c.in_ok-put_tagged.ensures.spelled (as_text c.put.result all first rs _
    (as_seen g.requirements) c.put.ensures.spelled))

pub returns-clause-spelled : goal.returns-clause-spelled
returns-clause-spelled c =
    let g = c.args.group.now in
    let before : List ℕ = c.args.out.now.items in
    let first : List ℕ = c.put_tagged-2.new.out.items in
    let second : List ℕ = c.put-2.new.out.items in
    let all : List ℕ = c.put-3.new.out.items in
    let rs = (list_of requirement).spell g.requirements in
    as_text c.put-3.result all before _ _ (revised_group_spelled g (ne_eqb _ 0 c.if-group-eq0.false))
    (after c.put-3.result all first before (30 ∷ label.spell g.arn) (revision.spell g.revision ++ rs) c.in_ok-put_tagged-2.ensures.spelled
    (after c.put-3.result all second first (revision.spell g.revision) rs c.in_ok-put.ensures.spelled (as_text c.put-3.result all second rs _
    (as_seen g.requirements) c.put-3.ensures.spelled)))
